-- Which refusals a call of explain gets. Document 02, CR 7: "Refusals 1, 4, 5 and 9 apply as for a Sweep that opens. It refuses with 13 a number outside 1 to N or a dropped clause, after 9, and last with 10."
-- `asked` is the number of the refusal that explain gets and `swept` that of a Sweep call, 0 where there is none. Assumes nothing: these are definitions.
use Rattle.std.specs.Prelude.{ℕ, ◌-◌, ◌≤◌, ◌<◌, ◌≡◌, ◌⊎◌, ◌↔◌, List, length}
use Rattle.stamp_columns.specs.Columns.{columns}
use Rattle.state.specs.declared.State.{State}
use Rattle.tables.specs.Tables.{Tables}
use Rattle.explain.specs.Reasons.{Reasons, reasons_of}
use Rattle.explain.specs.Explain.{chains_text}
use Rattle.paper.specs.Clauses.{clause_at, flag_at}
use Rattle.reasons.specs.Explained.{Named}

-- why of clause i, and the lines that show it, which there are to write
abbrev pub reasons_at : Tables → ℕ → Reasons
reasons_at t i = reasons_of (columns t.times t.links) (clause_at t i)

abbrev pub text_at : Tables → ℕ → List ℕ
text_at t i = chains_text t.links (reasons_at t i)

-- "a number outside 1 to N or a dropped clause"
abbrev pub NoneNamed : ℕ → Tables → State → Type 0
NoneNamed number t st = (number ≡ 0) ⊎ ((st.n < number) ⊎ (flag_at t (number - 1) ≡ 0))

pub record RefusedAs (number : ℕ) (t : Tables) (st : State) (out : List ℕ) (swept asked : ℕ) : Type 0 where
  -- 1, 4, 5 and 9 are those of the Sweep
  pub as_sweep : 0 < swept → asked ≡ swept
  -- where it is made, explain gets 13, 10 or nothing
  pub no_clause : swept ≡ 0 → (asked ≡ 13) ↔ NoneNamed number t st
  pub short : swept ≡ 0 → (asked ≡ 10) ↔ ((N : Named number t st) × (length out < length (text_at t N.at)))
  pub accepted : swept ≡ 0 → (asked ≡ 0) ↔ ((N : Named number t st) × (length (text_at t N.at) ≤ length out))
  pub others : swept ≡ 0 → (asked ≡ 0) ⊎ ((asked ≡ 10) ⊎ (asked ≡ 13))
