-- How the call decides: refusals 1, 4, 5, 8 and 6 before anything is walked. And what the core asks and writes. Assumes nothing: these are definitions.
use Rattle.std.specs.Prelude.{ℕ, ◌+◌, ◌*◌, ◌≤◌, ◌<◌, ◌≡◌, Bool, true, false, length, get_or, replicate, ltb, eqb, ℤ, pos, Result, Ok, Err}
use mathlib.Core.List.{List, map, Memᴰ}
use Rattle.literal.specs.Literals.{Literal, slot_of}
use Rattle.walk.specs.Walk.{Stamps}
use Rattle.state.specs.States.{closed}
use Rattle.state.specs.declared.State.{State}
use Rattle.state.specs.declared.Refusal.{Refusal}
use Rattle.state.specs.declared.Refusal.TheVariants.{Unsettled, Cyclic, Order}
use Rattle.state.specs.declared.Answer.TheVariants.{Stamped}
use Rattle.state.specs.declared.Outcome.{Outcome}
use Rattle.tables.specs.Tables.{Tables}
use Rattle.tables.specs.Passes.{first_unsettled}
use Rattle.entry.specs.Entry.{opening_of}
use Rattle.stamp.specs.Stamp.{first_bad, stamped_tables}

unfoldable pub ask_settled : Tables → State → Result (Unit {0}) Refusal
ask_settled t st = elim (ltb (first_unsettled t st.n) st.n) [ true ↦ Err (Unsettled (first_unsettled t st.n + 1)) | false ↦ Ok tt ]

unfoldable pub ask_ordered : List ℤ → Tables → State → Result (Unit {0}) Refusal
ask_ordered order t st =
    elim (eqb (length order) (2 * st.v)) [
      | true ↦ elim (ltb (first_bad st.v order) (2 * st.v)) [ true ↦ Err (Order (first_bad st.v order)) | false ↦ ask_settled t st ]
      | false ↦ Err (Order 0)
    ]

abbrev pub ask_by : Result (Unit {0}) Refusal → List ℤ → Tables → State → Result (Unit {0}) Refusal
ask_by (Err r) order t st = Err r
ask_by (Ok _) order t st = ask_ordered order t st

-- the topmost refusal but for a cycle, or none
unfoldable pub ask_of : List ℤ → Tables → State → Result (Unit {0}) Refusal
ask_of order t st = ask_by (opening_of t st) order t st

-- all 2v literals of v variables, each once
pub record Full (v : ℕ) (order : List ℤ) : Type 0 where
  pub many : length order ≡ 2 * v
  pub each : (i : ℕ) → i < length order → Literal v (get_or order i (pos 0))
  pub all : (q : ℕ) → q < 2 * v → Memᴰ q (map slot_of order)

-- stamp records for 2v literals
pub record Records (v : ℕ) (times : List ℕ) (links : List ℤ) : Type 0 where
  pub first : 4 * v ≤ length times
  pub second : 4 * v ≤ length links

-- columns of 2v places, of which the walk finds three blank
pub record Blank (v : ℕ) (slots d f p s : List ℕ) : Type 0 where
  pub lists : length slots ≡ 2 * v
  pub discs : length d ≡ 2 * v
  pub fins : f ≡ replicate (2 * v) 0
  pub pars : p ≡ replicate (2 * v) 0
  pub tops : s ≡ replicate (2 * v) 0

-- a cyclic graph leaves the records as they were
abbrev pub written_tables : Bool → ℕ → Stamps → Tables → Tables
written_tables true v σ t = t
written_tables false v σ t = stamped_tables v σ t

-- the answer of the core, by whether the graph is cyclic
abbrev pub answer_of : Bool → State → Outcome
answer_of true st = record { answer = Err Cyclic; state = st }
answer_of false st = record { answer = Ok Stamped; state = closed true st }
