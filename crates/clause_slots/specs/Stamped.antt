-- What the functions on one clause ask of the stamp tables and of its slots. Assumes nothing: these are definitions.
use Rattle.std.specs.Prelude.{ℕ, ◌*◌, ◌≤◌, ◌<◌, length, get_or, ℤ, pos}
use mathlib.Core.List.{List, [], Memᴰ}
use Rattle.literal.specs.Literals.{Literal}
use Rattle.walk.specs.Forest.{finish_at}
use Rattle.stamps.specs.Fresh.{FreshStamps}
use Rattle.stamp_columns.specs.Columns.{columns}
use Rattle.hidden.proofs.Intervals.{Nested}

-- fresh stamps of v variables
pub record Stamped (v : ℕ) (times : List ℕ) (links : List ℤ) : Type 0 where
  pub few : v ≤ 1024
  pub timed : 4 * v ≤ length times
  pub linked : 4 * v ≤ length links
  pub fresh : FreshStamps v times links

-- literals, each of one of 1,024 variables
pub record Lits (C : List ℤ) : Type 0 where
  pub each : (k : ℕ) → k < length C → Literal 1024 (get_or C k (pos 0))

-- slots of some variables' literals, and of their complements
pub record StampedSlots (times xs : List ℕ) : Type 0 where
  pub vars : ℕ
  pub few : vars ≤ 1024
  pub long : 4096 ≤ length times
  pub each : (x : ℕ) → Memᴰ x xs → x < 2 * vars

-- literals of a clause whose slots have nested intervals
pub record StampedClause (times : List ℕ) (C : List ℤ) : Type 0 where
  pub vars : ℕ
  pub few : vars ≤ 1024
  pub long : 4096 ≤ length times
  pub nested : Nested (2 * vars) (columns times [])
  pub small : (q : ℕ) → q < 2 * vars → finish_at (columns times []) q ≤ 4096
  pub each : (k : ℕ) → k < length C → Literal vars (get_or C k (pos 0))
