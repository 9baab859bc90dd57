-- What the functions on a clause ask of the stamp tables and of slots. Assumes nothing: these are definitions.
use Rattle.std.specs.Prelude.{ℕ, ◌*◌, ◌≤◌, ◌<◌, List, [], length, get_or, ℤ, pos}
use Rattle.literal.specs.Literals.{Literal}
use Rattle.stamp_columns.specs.Columns.{columns}
use Rattle.hidden.proofs.Intervals.{Nested, Below}
use Rattle.clause_slots.specs.Stamped.{Stamped}

-- two slots that have stamps
pub record Two (times : List ℕ) (links : List ℤ) (a b : ℕ) : Type 0 where
  pub vars : ℕ
  pub stamped : Stamped vars times links
  pub one : a < 2 * vars
  pub other : b < 2 * vars

-- two lists of slots below a number, whose intervals are nested
pub record Scanned (times xs ys : List ℕ) : Type 0 where
  pub size : ℕ
  pub few : size ≤ 2048
  pub room : 2 * size ≤ length times
  pub nested : Nested size (columns times [])
  pub one : Below size xs
  pub other : Below size ys

-- literals of a clause, all with fresh stamps
pub record Judged (times : List ℕ) (links C : List ℤ) : Type 0 where
  pub vars : ℕ
  pub stamped : Stamped vars times links
  pub long : 4096 ≤ length times
  pub each : (k : ℕ) → k < length C → Literal vars (get_or C k (pos 0))
