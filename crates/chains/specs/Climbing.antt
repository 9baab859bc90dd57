-- What the functions on chains ask of the stamps and of the ends. Assumes nothing: these are definitions.
use Rattle.std.specs.Prelude.{ℕ, ◌*◌, ◌≤◌, ◌<◌, List, length, ℤ}
use Rattle.literal.specs.Literals.{Literal, slot_of}
use Rattle.stamps.specs.Fresh.{Holds}
use Rattle.clause_slots.specs.Stamped.{Stamped}
use Rattle.chains.specs.declared.Ends.{Ends}
use Rattle.chains.specs.Chains.{ends_at}

-- two literals of v variables, the interval of the first around that of the second
pub record Between (v : ℕ) (times : List ℕ) (e : Ends) : Type 0 where
  pub top_literal : Literal v e.top
  pub bottom_literal : Literal v e.bottom
  pub held : Holds times (slot_of e.top) (slot_of e.bottom)

-- under fresh stamps, whatever the times are: the climb reads the links alone
pub record Climbable (links : List ℤ) (e : Ends) : Type 0 where
  pub times : List ℕ
  pub vars : ℕ
  pub stamped : Stamped vars times links
  pub between : Between vars times e

-- a literal whose parent is a literal in the links
pub record Parented (links : List ℤ) (l : ℤ) : Type 0 where
  pub literal : Literal 1024 l
  pub room : 2 * slot_of l < length links

-- n pairs of ends in a slice
pub record Chained (links xs : List ℤ) (n : ℕ) : Type 0 where
  pub few : n ≤ 1024
  pub room : 2 * n ≤ length xs
  pub each : (k : ℕ) → k < n → Climbable links (ends_at xs k)
