-- What the functions of a call ask of the tables. Assumes nothing: these are definitions.
use Rattle.std.specs.Prelude.{ℕ, ◌≤◌, ◌≡◌, false, List, ℤ}
use Rattle.state.specs.declared.State.{State}
use Rattle.tables.specs.Tables.{tables}
use Rattle.tables.specs.Passes.{first_unsettled}
use Rattle.visits.specs.Formed.{Formed}

-- tables without the mark, in which a Merge has visited the clauses before k
pub record Resumable (st : State) (k : ℕ) (clauses : List ℕ) (literals variables : List ℤ) : Type 0 where
  pub formed : Formed st.v st.n k false clauses literals variables
  pub within : k ≤ st.n

-- tables without the mark in which Merge can open: refusal 6 names no clause
pub record Openable (st : State) (clauses : List ℕ) (literals variables : List ℤ) : Type 0 where
  pub formed : Formed st.v st.n st.n false clauses literals variables
  pub settled : (times : List ℕ) (links : List ℤ) → first_unsettled (tables clauses literals variables times links) st.n ≡ st.n
