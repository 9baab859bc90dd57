-- Document 01: "A refusal returns its number and a place (0 where none is named)"; "Where an answer is an enum, a definition gives this paper's number and values for each case of the enum, and the promises use that definition."
-- Assumes nothing: these are definitions.
use Rattle.std.specs.Prelude.{ℕ, zero, suc, List, [], ◌∷◌, ℤ, pos, negsuc, Result, Ok, Err}
use Rattle.state.specs.declared.Refusal.{Refusal}
use Rattle.state.specs.declared.Refusal.TheVariants.{Shape, Grammar, Limit, OtherPass, Marked, Unsettled, Cyclic, Order, Stale, Short, Newcomer, Codes, NoClause, Link}
use Rattle.state.specs.declared.Verdict.{Verdict}
use Rattle.state.specs.declared.Verdict.TheVariants.{Nothing, Drop, Shorten}
use Rattle.state.specs.declared.Answer.{Answer}
use Rattle.state.specs.declared.Answer.TheVariants.{Loaded, Open, Done, Stamped, Failed, Ran, Written, Set, KeptWhole, KeptShort, NotKept, Explained}

-- the number that the documents give a refusal: 1 to 10 document 01, 11, 12, 13 and 15 document 02's CR 1, CR 5, CR 7 and CR 11
abbrev pub refusal_number : Refusal → ℕ
refusal_number Shape = 1
refusal_number (Grammar at) = 2
refusal_number (Limit at) = 3
refusal_number OtherPass = 4
refusal_number Marked = 5
refusal_number (Unsettled clause) = 6
refusal_number Cyclic = 7
refusal_number (Order index) = 8
refusal_number Stale = 9
refusal_number (Short needed) = 10
refusal_number Newcomer = 11
refusal_number (Codes index) = 12
refusal_number NoClause = 13
refusal_number (Link index) = 15

-- its place: an offset, a clause number, an index, the length needed, or 0
abbrev pub refusal_place : Refusal → ℕ
refusal_place Shape = 0
refusal_place (Grammar at) = at
refusal_place (Limit at) = at
refusal_place OtherPass = 0
refusal_place Marked = 0
refusal_place (Unsettled clause) = clause
refusal_place Cyclic = 0
refusal_place (Order index) = index
refusal_place Stale = 0
refusal_place (Short needed) = needed
refusal_place Newcomer = 0
refusal_place (Codes index) = index
refusal_place NoClause = 0
refusal_place (Link index) = index

-- the number of a verdict
abbrev pub verdict_number : Verdict → ℕ
verdict_number Nothing = 0
verdict_number Drop = 1
verdict_number Shorten = 2

-- an answer in numbers: its kind, the refusal's number, or 0, and the values that come with it. No two answers have the same (law `reply-tells`)
pub record Reply : Type 0 where
  pub kind : ℕ
  pub number : ℕ
  pub values : List ℕ

abbrev pub reply : ℕ → ℕ → List ℕ → Reply
reply kind number values = record { kind = kind; number = number; values = values }

-- a refusal gives its place; Open and Done give visits made, clauses gone, literals gone; learn gives what becomes of the newcomer (0 kept whole, 1 dropped, 2 shortened) and the literals left; explain gives the verdict, the literals taken out and the length written; the others give the one number that they answer
abbrev pub reply_of : Result Answer Refusal → Reply
reply_of (Err r) = reply 0 (refusal_number r) (refusal_place r ∷ [])
reply_of (Ok Loaded) = reply 1 0 []
reply_of (Ok (Open c)) = reply 2 0 (c.visits ∷ c.clauses ∷ c.literals ∷ [])
reply_of (Ok (Done c)) = reply 3 0 (c.visits ∷ c.clauses ∷ c.literals ∷ [])
reply_of (Ok Stamped) = reply 4 0 []
reply_of (Ok (Failed set)) = reply 5 0 (set ∷ [])
reply_of (Ok (Ran rounds)) = reply 6 0 (rounds ∷ [])
reply_of (Ok (Written length)) = reply 7 0 (length ∷ [])
reply_of (Ok Set) = reply 8 0 []
reply_of (Ok (KeptWhole left)) = reply 9 0 (0 ∷ left ∷ [])
reply_of (Ok (KeptShort left)) = reply 10 0 (2 ∷ left ∷ [])
reply_of (Ok NotKept) = reply 11 0 (1 ∷ 0 ∷ [])
reply_of (Ok (Explained verdict out length)) = reply 12 0 (verdict_number verdict ∷ out ∷ length ∷ [])

-- the first of the values: a refusal's place, the length written, ..; 0 where there is none
abbrev pub first_value : List ℕ → ℕ
first_value [] = 0
first_value (value ∷ _) = value

-- what a function for C returns: a number, or the refusal's number, negative; by the number of the reply, which is 0 where nothing is refused
abbrev pub result_by : ℕ → ℕ → ℤ
result_by zero v = pos v
result_by (suc k) v = negsuc k
