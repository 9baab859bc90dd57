-- Fresh stamps, as document 01 has them. Slot s has its discovery and finish at places 2s and 2s + 1 of `times`, and its parent and start, which are literals, at the same places of `links`.
-- Assumes nothing: these are definitions.
use Rattle.std.specs.Prelude.{ℕ, ◌+◌, ◌*◌, ◌≤◌, ◌<◌, ◌≡◌, ◌⊎◌, List, get_or, ℤ, pos}
use Rattle.literal.specs.Literals.{Literal, slot_of}

abbrev pub discovery_in : List ℕ → ℕ → ℕ
discovery_in times s = get_or times (2 * s) 0

abbrev pub finish_in : List ℕ → ℕ → ℕ
finish_in times s = get_or times (2 * s + 1) 0

abbrev pub parent_in : List ℤ → ℕ → ℤ
parent_in links s = get_or links (2 * s) (pos 0)

abbrev pub start_in : List ℤ → ℕ → ℤ
start_in links s = get_or links (2 * s + 1) (pos 0)

-- interval p holds interval q: it begins no later and ends no earlier
abbrev pub Holds : List ℕ → ℕ → ℕ → Type 0
Holds times p q = (discovery_in times p ≤ discovery_in times q) × (finish_in times q ≤ finish_in times p)

-- the first n places are 1 to n, once each
pub record Times (n : ℕ) (times : List ℕ) : Type 0 where
  pub ranged : (k : ℕ) → k < n → (0 < get_or times k 0) × (get_or times k 0 ≤ n)
  pub once : (j : ℕ) → j < n → (k : ℕ) → k < n → get_or times j 0 ≡ get_or times k 0 → j ≡ k

abbrev pub NestedOrApart : List ℕ → ℕ → ℕ → Type 0
NestedOrApart times p q = (Holds times p q ⊎ Holds times q p) ⊎ ((finish_in times p < discovery_in times q) ⊎ (finish_in times q < discovery_in times p))

-- no interval of the slots below size but q's own is around q
abbrev pub Outermost : ℕ → List ℕ → ℕ → Type 0
Outermost size times q = (u : ℕ) → u < size → Holds times u q → u ≡ q

-- p is another slot, its interval is around q, and every other interval around q is around p: it is the narrowest
abbrev pub Narrowest : ℕ → List ℕ → ℕ → ℕ → Type 0
Narrowest size times q p = (p ≡ q → ⊥) × Holds times p q × ((u : ℕ) → u < size → (u ≡ q → ⊥) → Holds times u q → Holds times u p)

-- the parent of q: the narrowest other interval around q, itself if there is none
abbrev pub Parent : ℕ → List ℕ → ℕ → ℕ → Type 0
Parent size times q p = ((p ≡ q) × Outermost size times q) ⊎ Narrowest size times q p

-- the start of q: the widest interval around q, which is q itself if there is no other
abbrev pub Start : ℕ → List ℕ → ℕ → ℕ → Type 0
Start size times q r = Holds times r q × ((u : ℕ) → u < size → Holds times u q → Holds times r u)

-- the stamps of the 2v literals of v variables
pub record FreshStamps (v : ℕ) (times : List ℕ) (links : List ℤ) : Type 0 where
  pub every_time : Times (4 * v) times
  pub forward : (s : ℕ) → s < 2 * v → discovery_in times s < finish_in times s
  pub nested : (p : ℕ) → p < 2 * v → (q : ℕ) → q < 2 * v → NestedOrApart times p q
  pub parent_literal : (q : ℕ) → q < 2 * v → Literal v (parent_in links q)
  pub parent : (q : ℕ) → q < 2 * v → Parent (2 * v) times q (slot_of (parent_in links q))
  pub start_literal : (q : ℕ) → q < 2 * v → Literal v (start_in links q)
  pub start : (q : ℕ) → q < 2 * v → Start (2 * v) times q (slot_of (start_in links q))
