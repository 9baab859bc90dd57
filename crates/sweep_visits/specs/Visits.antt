-- What the functions of a visit and of a call ask of the tables. Assumes nothing: these are definitions.
use Rattle.std.specs.Prelude.{ℕ, ◌+◌, ◌≤◌, false, List, length, ℤ}
use Rattle.visits.specs.Formed.{Formed}
use Rattle.clause_slots.specs.Stamped.{Stamped}

-- n clauses without the mark, in which no Merge is open, with fresh stamps, whatever records the variables have
pub record Sweepable (n : ℕ) (clauses : List ℕ) (literals : List ℤ) (times : List ℕ) (links : List ℤ) : Type 0 where
  pub vars : ℕ
  pub variables : List ℤ
  pub formed : Formed vars n n false clauses literals variables
  pub stamped : Stamped vars times links
  pub long : 4096 ≤ length times

-- m clauses from clause k on can be visited
pub record SweepableFrom (k m : ℕ) (clauses : List ℕ) (literals : List ℤ) (times : List ℕ) (links : List ℤ) : Type 0 where
  pub number : ℕ
  pub sweepable : Sweepable number clauses literals times links
  pub room : k + m ≤ number
