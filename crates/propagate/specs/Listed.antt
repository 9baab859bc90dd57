-- Visits that are skipped: a clause that is not pending would not be changed by a visit, and where each variable occurs is listed. Assumes nothing: these are definitions.
use Rattle.std.specs.Prelude.{ℕ, ◌≤◌, ◌<◌, ◌≡◌, Bool, false, length, get_or, ℤ, nat_abs}
use mathlib.Core.List.{List, [], Memᴰ}
use Rattle.tables.specs.Tables.{tables}
use Rattle.tables.specs.Clauses.{literals_of}
use Rattle.tables.specs.Passes.{unsettled}
use Rattle.occurrences.specs.Chains.{owner_of}
use Rattle.occurrences.specs.Pending.{Covered, WalkableChains}

-- every literal of the n clauses is in the chain of its variable, and a clause that is not pending is settled
pub record Listed (n : ℕ) (heads places : List ℕ) (pending blocks : List Bool) (clauses : List ℕ) (literals variables : List ℤ) : Type 0 where
  pub vs : List ℕ
  pub walkable : WalkableChains vs heads places
  pub rows : 1025 ≤ length heads
  pub occurs : (i : ℕ) → i < n → (x : ℤ) → Memᴰ x (literals_of clauses literals i) → (q : ℕ) × (get_or vs q 0 ≡ nat_abs x) × (owner_of places q ≡ i)
  pub room : (4096 ≤ length pending) × (64 ≤ length blocks)
  pub covered : Covered pending blocks
  pub quiet : (i : ℕ) → i < n → get_or pending i false ≡ false → unsettled (tables clauses literals variables [] []) i ≡ false
