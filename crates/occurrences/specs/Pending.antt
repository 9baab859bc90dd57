-- Which clauses are pending, in blocks of 64. Assumes nothing: these are definitions.
use Rattle.std.specs.Prelude.{ℕ, ◌+◌, ◌*◌, ◌/◌, ◌≤◌, ◌<◌, ◌≡◌, Bool, true, false, List, length, get_or}
use Rattle.occurrences.specs.Chains.{Chained, owner_of}

-- the block of each pending clause is set
pub record Covered (pending blocks : List Bool) : Type 0 where
  pub block : (i : ℕ) → i < 4096 → get_or pending i false ≡ true → get_or blocks (i / 64) false ≡ true

-- no clause from a on and before b is pending
pub record Skippable (pending : List Bool) (a b : ℕ) : Type 0 where
  pub none : (i : ℕ) → a ≤ i → i < b → get_or pending i false ≡ false

-- the places of the chains are in the table, and their clauses are of the 4,096
pub record WalkableChains (vs heads places : List ℕ) : Type 0 where
  pub chained : Chained vs heads places
  pub inside : (q : ℕ) → 0 < get_or vs q 0 → (2 * q + 1 < length places) × (owner_of places q < 4096)

-- variable w has a chain that can be walked
pub record HasChain (w : ℕ) (heads places : List ℕ) (pending blocks : List Bool) : Type 0 where
  pub vs : List ℕ
  pub walkable : WalkableChains vs heads places
  pub variable : (0 < w) × (w < length heads)
  pub room : (4096 ≤ length pending) × (64 ≤ length blocks)
  pub covered : Covered pending blocks

-- the clauses in which variable w occurs are pending, and those that were
pub record PendingAll (w : ℕ) (heads places : List ℕ) (pending pending' blocks' : List Bool) : Type 0 where
  pub covered : Covered pending' blocks'
  pub still : (i : ℕ) → get_or pending i false ≡ true → get_or pending' i false ≡ true
  pub all : (vs : List ℕ) → WalkableChains vs heads places → (q : ℕ) → get_or vs q 0 ≡ w → get_or pending' (owner_of places q) false ≡ true
