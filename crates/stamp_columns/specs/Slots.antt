-- What the functions on slots ask of the stamp tables. Assumes nothing: these are definitions.
use Rattle.std.specs.Prelude.{ℕ, ◌+◌, ◌*◌, ◌≤◌, ◌<◌, length, ℤ}
use mathlib.Core.List.{List, Memᴰ}
use Rattle.literal.specs.Literals.{Literal}
use Rattle.stamps.specs.Fresh.{parent_in}

-- slots below a number, all of which have times
pub record Slots (times : List ℕ) (xs : List ℕ) : Type 0 where
  pub size : ℕ
  pub few : size ≤ 2048
  pub room : 2 * size ≤ length times
  pub each : (x : ℕ) → Memᴰ x xs → x < size

-- a slot whose parent is a literal in the links
pub record Child (links : List ℤ) (s : ℕ) : Type 0 where
  pub room : 2 * s + 1 < length links
  pub parent : Literal 1024 (parent_in links s)
