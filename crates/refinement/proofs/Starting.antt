-- What an accepted load or join leaves, whichever it was: clauses within the limits, laid in tables that are long enough; and the invariant of a list of calls holds of it. Assumes nothing.
use Prim.Native.Nat.{ℕ, ◌≤◌}
use native.Mathlib.Omega.{arith}
use mathlib.Core.Path.{◌≡◌, refl, sym, ap, subst, ◌∙◌}
use mathlib.Core.Bool.{Bool, true, false}
use mathlib.Core.List.{List}
use Rattle.base.specs.Decide.{does_exact}
use Rattle.state.specs.declared.State.{State}
use Rattle.state.specs.declared.Refusal.TheVariants.{Shape}
use Rattle.state.proofs.Numbers.{number_bounds}
use Rattle.tables.specs.Tables.{Tables}
use Rattle.tables.specs.Long.{Long, long?, long_ok}
use Rattle.tables.specs.Calls.{After, refuse}
use Rattle.dimacs.specs.Text.{judge_text}
use Rattle.dimacs.proofs.Accepted.{Within, text_within}
use Rattle.load.specs.Load.{accept, load_by, load_formula, load_call, join_call}
use Rattle.join.proofs.Within.{join_within}
use Rattle.load.proofs.Fill.{formula_lent}
use Rattle.call_lists.specs.Starts.{Start, load, join, start_on, formula_of, verdict_on, Started, formula, begun}
use Rattle.refinement.proofs.Held.{Held}
use Rattle.refinement.proofs.Loaded.{loaded_clauses, accept_held}
use Rattle.std.specs.Prelude.{Result, Ok, Err}
use Rattle.dimacs.specs.declared.Header.{Header}
use Rattle.state.specs.declared.Refusal.{Refusal}
use Rattle.dimacs.specs.Header.{fitting}

-- ---- a start by its verdict

started_by : (s : Start) (t : Tables) (st : State) → start_on s t st ≡ load_formula (verdict_on s) (formula_of s) t st
unfolding load_call join_call
started_by (load text) t st = refl
started_by (join left right links) t st = refl

-- clauses that it lets in are within the limits
start_within : (s : Start) (v n body : ℕ) → verdict_on s ≡ fitting v n body → (v ≤ 1024) × ((n ≤ 4096) × Within v n 16384 (formula_of s))
start_within (load text) v n body e = text_within text v n body e
start_within (join left right links) v n body e = join_within left right links v n body e

-- ---- what was accepted

pub record Laid (b : Started) : Type 0 where
  pub v : ℕ
  pub n : ℕ
  pub body : ℕ
  pub fits : verdict_on b.start ≡ fitting v n body
  pub long : Long b.tables
  pub few : v ≤ 1024
  pub most : n ≤ 4096
  pub within : Within v n 16384 (formula b)
  pub is : begun b ≡ accept v n (formula b) b.tables

pub started_laid : (b : Started) → Laid b
unfolding long_ok
started_laid b = by (long_ok t) refl (verdict_on s) refl b.accepted
  where
    s : Start
    s = b.start

    t : Tables
    t = b.tables

    st : State
    st = b.state

    -- by the test of the tables' lengths, and the verdict
    by_test : Bool → Result Header Refusal → After
    by_test x y = elim x [ true ↦ load_by y (formula_of s) t st | false ↦ refuse Shape st t ]

    made_is : (x : Bool) (y : Result Header Refusal) → long_ok t ≡ x → verdict_on s ≡ y → start_on s t st ≡ by_test x y
    made_is x y p q = started_by s t st ∙ (λ i. by_test (p i) (q i))

    by : (x : Bool) → long_ok t ≡ x → (y : Result Header Refusal) → verdict_on s ≡ y → (start_on s t st).reply.number ≡ 0 → Laid b
    by false p y q e = absurd (omega (arith, e, ap (λ (a : After). a.reply.number) (made_is false y p q)))
    by true p (Err r) q e = absurd (omega (arith, e, ap (λ (a : After). a.reply.number) (made_is true (Err r) p q), number_bounds r))
    by true p (Ok h) q e =
        let W = start_within s h.v h.n h.body q in
        record { v = h.v; n = h.n; body = h.body; fits = q; long = (does_exact (long? t)).holds p; few = W.0; most = W.1.0; within = W.1.1; is = made_is true (Ok h) p q }

pub start_held : (b : Started) → Held (loaded_clauses (formula b)) (begun b).tables (begun b).state
start_held b = let A = started_laid b in
    subst (λ (a : After). Held (loaded_clauses (formula b)) a.tables a.state) (sym A.is) (accept_held A.v A.n (formula b) A.few A.most A.within b.tables A.long)

-- ---- a start by the verdict that was given

pub started_as : (s : Start) (t : Tables) (st : State) (v n body : ℕ) → Long t → verdict_on s ≡ fitting v n body → start_on s t st ≡ accept v n (formula_of s) t
started_as s t st v n body L e = started_by s t st ∙ formula_lent (verdict_on s) (formula_of s) t st L ∙ ap (λ (x : Result Header Refusal). load_by x (formula_of s) t st) e

pub started_accepted : (s : Start) (t : Tables) (st : State) (v n body : ℕ) → Long t → verdict_on s ≡ fitting v n body → (start_on s t st).reply.number ≡ 0
started_accepted s t st v n body L e = ap (λ (a : After). a.reply.number) (started_as s t st v n body L e)

abbrev pub load_started : (text : List ℕ) (v n body : ℕ) → judge_text text ≡ fitting v n body → (t : Tables) → Long t → State → Started
load_started text v n body e t L st = record { start = load text; tables = t; state = st; accepted = started_accepted (load text) t st v n body L e }
