-- The numbers of the documents written out, and the places: what pins the definitions of Answers.antt; and that no two answers have the same reply. Assumes nothing.
use Prim.Native.Nat.{ℕ, zero, suc, ◌≤◌, ◌<◌}
use native.Mathlib.Omega.{arith}
use mathlib.Core.Path.{◌≡◌, refl, sym, ap, ◌∙◌}
use mathlib.Core.List.{List, [], ◌∷◌}
use lib.ListN.{get_or}
use Rattle.std.specs.Prelude.{Result, Ok, Err, true, false}
use Rattle.std.specs.Result.{is_ok}
use lib.IntN.{pos, neg_ℤ}
use Rattle.state.specs.Answers.{refusal_number, refusal_place, verdict_number, Reply, reply, reply_of, result_by}
use Rattle.state.specs.declared.Refusal.{Refusal}
use Rattle.state.specs.declared.Answer.{Answer}
use Rattle.state.specs.declared.Refusal.TheVariants.{Shape, Grammar, Limit, OtherPass, Marked, Unsettled, Cyclic, Order, Stale, Short, Newcomer, Codes, NoClause, Link}
use Rattle.state.specs.declared.Counts.{Counts}
use Rattle.state.specs.declared.Verdict.{Verdict}
use Rattle.state.specs.declared.Verdict.TheVariants.{Nothing, Drop, Shorten}
use Rattle.state.specs.declared.Answer.TheVariants.{Loaded, Open, Done, Stamped, Failed, Ran, Written, Set, KeptWhole, KeptShort, NotKept, Explained}

pub refusal_numbers : (p : ℕ) → refusal_number Shape ∷ refusal_number (Grammar p) ∷ refusal_number (Limit p) ∷ refusal_number OtherPass ∷ refusal_number Marked ∷ refusal_number (Unsettled p)
    ∷ refusal_number Cyclic ∷ refusal_number (Order p) ∷ refusal_number Stale ∷ refusal_number (Short p) ∷ refusal_number Newcomer ∷ refusal_number (Codes p) ∷ refusal_number NoClause ∷ refusal_number (Link p) ∷ []
    ≡ 1 ∷ 2 ∷ 3 ∷ 4 ∷ 5 ∷ 6 ∷ 7 ∷ 8 ∷ 9 ∷ 10 ∷ 11 ∷ 12 ∷ 13 ∷ 15 ∷ []
refusal_numbers p = refl

-- 1, 4, 5, 7, 9, 11 and 13 name no place
pub refusal_places : (p : ℕ) → refusal_place Shape ∷ refusal_place (Grammar p) ∷ refusal_place (Limit p) ∷ refusal_place OtherPass ∷ refusal_place Marked ∷ refusal_place (Unsettled p)
    ∷ refusal_place Cyclic ∷ refusal_place (Order p) ∷ refusal_place Stale ∷ refusal_place (Short p) ∷ refusal_place Newcomer ∷ refusal_place (Codes p) ∷ refusal_place NoClause ∷ refusal_place (Link p) ∷ []
    ≡ 0 ∷ p ∷ p ∷ 0 ∷ 0 ∷ p ∷ 0 ∷ p ∷ 0 ∷ p ∷ 0 ∷ p ∷ 0 ∷ p ∷ []
refusal_places p = refl

pub replies : (c : Counts) (p : ℕ) → (reply_of (Err (Order p)) ≡ reply 0 8 (p ∷ [])) × (reply_of (Ok Loaded) ≡ reply 1 0 []) × (reply_of (Ok (Open c)) ≡ reply 2 0 (c.visits ∷ c.clauses ∷ c.literals ∷ []))
    × (reply_of (Ok (Done c)) ≡ reply 3 0 (c.visits ∷ c.clauses ∷ c.literals ∷ [])) × (reply_of (Ok Stamped) ≡ reply 4 0 []) × (reply_of (Ok (Failed p)) ≡ reply 5 0 (p ∷ [])) × (reply_of (Ok (Ran p)) ≡ reply 6 0 (p ∷ [])) × (reply_of (Ok (Written p)) ≡ reply 7 0 (p ∷ [])) × (reply_of (Ok Set) ≡ reply 8 0 [])
    × (reply_of (Ok (KeptWhole p)) ≡ reply 9 0 (0 ∷ p ∷ [])) × (reply_of (Ok (KeptShort p)) ≡ reply 10 0 (2 ∷ p ∷ [])) × (reply_of (Ok NotKept) ≡ reply 11 0 (1 ∷ 0 ∷ []))
    × (reply_of (Ok (Explained Nothing p p)) ≡ reply 12 0 (0 ∷ p ∷ p ∷ [])) × (reply_of (Ok (Explained Drop 0 p)) ≡ reply 12 0 (1 ∷ 0 ∷ p ∷ [])) × (reply_of (Ok (Explained Shorten p 7)) ≡ reply 12 0 (2 ∷ p ∷ 7 ∷ []))
replies c p = (refl, refl, refl, refl, refl, refl, refl, refl, refl, refl, refl, refl, refl, refl, refl)

-- ---- no two answers have the same reply

-- the refusal of a number and a place
abbrev refusal_by : ℕ → ℕ → Refusal
refusal_by number place = get_or (Shape ∷ Shape ∷ Grammar place ∷ Limit place ∷ OtherPass ∷ Marked ∷ Unsettled place ∷ Cyclic ∷ Order place ∷ Stale ∷ Short place ∷ Newcomer ∷ Codes place ∷ NoClause ∷ Shape ∷ Link place ∷ []) number Shape

refusal_back : (r : Refusal) → refusal_by (refusal_number r) (refusal_place r) ≡ r
refusal_back Shape = refl
refusal_back (Grammar at) = refl
refusal_back (Limit at) = refl
refusal_back OtherPass = refl
refusal_back Marked = refl
refusal_back (Unsettled clause) = refl
refusal_back Cyclic = refl
refusal_back (Order index) = refl
refusal_back Stale = refl
refusal_back (Short needed) = refl
refusal_back Newcomer = refl
refusal_back (Codes index) = refl
refusal_back NoClause = refl
refusal_back (Link index) = refl

abbrev counts_by : List ℕ → Counts
counts_by values = record { visits = get_or values 0 0; clauses = get_or values 1 0; literals = get_or values 2 0 }

abbrev verdict_by : ℕ → Verdict
verdict_by number = get_or (Nothing ∷ Drop ∷ Shorten ∷ []) number Nothing

verdict_back : (v : Verdict) → verdict_by (verdict_number v) ≡ v
verdict_back Nothing = refl
verdict_back Drop = refl
verdict_back Shorten = refl

-- the answer of a reply whose kind is not 0
abbrev answer_by : Reply → Answer
answer_by r =
    get_or (Loaded ∷ Loaded ∷ Open (counts_by r.values) ∷ Done (counts_by r.values) ∷ Stamped ∷ Failed (get_or r.values 0 0) ∷ Ran (get_or r.values 0 0) ∷ Written (get_or r.values 0 0) ∷ Set ∷ KeptWhole (get_or r.values 1 0) ∷ KeptShort (get_or r.values 1 0) ∷ NotKept ∷ Explained (verdict_by (get_or r.values 0 0)) (get_or r.values 1 0) (get_or r.values 2 0) ∷ [])
    r.kind Loaded

-- the answer or the refusal of a reply
abbrev answer_of : Reply → Result Answer Refusal
answer_of r = elim r.kind [ zero ↦ Err (refusal_by r.number (get_or r.values 0 0)) | suc _ ↦ Ok (answer_by r) ]

answer_back : (a : Result Answer Refusal) → answer_of (reply_of a) ≡ a
answer_back (Err r) = ap Err (refusal_back r)
answer_back (Ok Loaded) = refl
answer_back (Ok (Open c)) = refl
answer_back (Ok (Done c)) = refl
answer_back (Ok Stamped) = refl
answer_back (Ok (Failed set)) = refl
answer_back (Ok (Ran rounds)) = refl
answer_back (Ok (Written length)) = refl
answer_back (Ok Set) = refl
answer_back (Ok (KeptWhole left)) = refl
answer_back (Ok (KeptShort left)) = refl
answer_back (Ok NotKept) = refl
answer_back (Ok (Explained verdict out length)) = ap (λ (v : Verdict). Ok (Explained v out length)) (verdict_back verdict)

-- THE LAW: an answer or a refusal is known by its reply
pub reply_tells : (a b : Result Answer Refusal) → reply_of a ≡ reply_of b → a ≡ b
reply_tells a b e = sym (answer_back a) ∙ ap answer_of e ∙ answer_back b

-- ---- a refusal's number, negative

pub number_bounds : (r : Refusal) → (0 < refusal_number r) × (refusal_number r ≤ 15)
number_bounds Shape = (omega arith, omega arith)
number_bounds (Grammar at) = (omega arith, omega arith)
number_bounds (Limit at) = (omega arith, omega arith)
number_bounds OtherPass = (omega arith, omega arith)
number_bounds Marked = (omega arith, omega arith)
number_bounds (Unsettled clause) = (omega arith, omega arith)
number_bounds Cyclic = (omega arith, omega arith)
number_bounds (Order index) = (omega arith, omega arith)
number_bounds Stale = (omega arith, omega arith)
number_bounds (Short needed) = (omega arith, omega arith)
number_bounds Newcomer = (omega arith, omega arith)
number_bounds (Codes index) = (omega arith, omega arith)
number_bounds NoClause = (omega arith, omega arith)
number_bounds (Link index) = (omega arith, omega arith)

pub result_negative : (n v : ℕ) → 0 < n → result_by n v ≡ neg_ℤ (pos n)
result_negative zero v h = absurd (omega arith)
result_negative (suc k) v h = refl

-- ---- the number of a reply: 0 exactly where nothing is refused

pub number_made : (a : Answer) → (reply_of (Ok a)).number ≡ 0
number_made Loaded = refl
number_made (Open c) = refl
number_made (Done c) = refl
number_made Stamped = refl
number_made (Failed set) = refl
number_made (Ran rounds) = refl
number_made (Written length) = refl
number_made Set = refl
number_made (KeptWhole left) = refl
number_made (KeptShort left) = refl
number_made NotKept = refl
number_made (Explained verdict out length) = refl

pub number_ok : (a : Result Answer Refusal) → is_ok a ≡ true → (reply_of a).number ≡ 0
number_ok (Ok a) e = number_made a
number_ok (Err r) e = cc

pub number_err : (a : Result Answer Refusal) → is_ok a ≡ false → 0 < (reply_of a).number
number_err (Err r) e = (number_bounds r).0
number_err (Ok a) e = cc
