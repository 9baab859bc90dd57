-- What looking at clause i asks of the tables. Assumes nothing: these are definitions.
use Rattle.std.specs.Prelude.{ℕ, ◌+◌, ◌≤◌, List, length, ℤ}
use Rattle.tables.specs.Tables.{start_of, length_of}
use Rattle.tables.specs.Clauses.{literals_of}
use Rattle.visits.specs.Formed.{EachKnown}
use Rattle.visits.specs.Visited.{Placed}

pub record Asked (i : ℕ) (clauses : List ℕ) (literals variables : List ℤ) : Type 0 where
  pub placed : Placed i clauses
  pub inside : start_of clauses i + length_of clauses i ≤ length literals
  pub known : EachKnown variables (literals_of clauses literals i)
