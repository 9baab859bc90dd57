-- What stamps mean: the intervals, the parent chain, and paths of a graph.
-- Assumes nothing: these are definitions.
use Rattle.std.specs.Prelude.{ℕ, ◌≤◌, ◌<◌, ◌≡◌, ◌⊎◌, get_or}
use mathlib.Core.List.{List, Memᴰ}
use Rattle.walk.specs.Walk.{Stamps}

abbrev pub discovery_at : Stamps → ℕ → ℕ
discovery_at σ q = get_or σ.discoveries q 0

abbrev pub finish_at : Stamps → ℕ → ℕ
finish_at σ q = get_or σ.finishes q 0

abbrev pub parent_at : Stamps → ℕ → ℕ
parent_at σ q = get_or σ.parents q 0

abbrev pub start_at : Stamps → ℕ → ℕ
start_at σ q = get_or σ.starts q 0

-- interval a holds interval b: it begins no later and ends no earlier
abbrev pub Holds : Stamps → ℕ → ℕ → Type 0
Holds σ a b = (discovery_at σ a ≤ discovery_at σ b) × (finish_at σ b ≤ finish_at σ a)

-- two intervals are apart, either way round, or one lies strictly within the other
abbrev pub Parted : Stamps → ℕ → ℕ → Type 0
Parted σ a b = (finish_at σ a < discovery_at σ b) ⊎ ((finish_at σ b < discovery_at σ a) ⊎ (((discovery_at σ a < discovery_at σ b) × (finish_at σ b < finish_at σ a)) ⊎ ((discovery_at σ b < discovery_at σ a) × (finish_at σ a < finish_at σ b))))

-- a is b, or the parent of b, or the parent of that, ..
pub data Above (σ : Stamps) (a : ℕ) : ℕ → Type 0 where
  self : Above σ a a
  up : {b : ℕ} → Above σ a (parent_at σ b) → Above σ a b

-- a path of the graph from a to b
pub data Reach (adj : ℕ → List ℕ) (a : ℕ) : ℕ → Type 0 where
  here : Reach adj a a
  on : {b c : ℕ} → Reach adj a b → Memᴰ c (adj b) → Reach adj a c

-- the top of a tree: its own parent and start, and no other interval holds it
pub record Top (σ : Stamps) (q : ℕ) : Type 0 where
  pub parent : parent_at σ q ≡ q
  pub start : start_at σ q ≡ q
  pub widest : (u : ℕ) → 0 < discovery_at σ u → (u ≡ q → ⊥) → Holds σ u q → ⊥

-- under its parent p: there is an edge, p's interval is strictly around, every other interval around q is around p too, and the start is p's
pub record Under (adj : ℕ → List ℕ) (σ : Stamps) (q p : ℕ) : Type 0 where
  pub parent : parent_at σ q ≡ p
  pub entered : 0 < discovery_at σ p
  pub edge : Memᴰ q (adj p)
  pub begins : discovery_at σ p < discovery_at σ q
  pub ends : finish_at σ q < finish_at σ p
  pub start : start_at σ q ≡ start_at σ p
  pub narrowest : (u : ℕ) → 0 < discovery_at σ u → (u ≡ q → ⊥) → Holds σ u q → Holds σ u p

-- what holds after each start
pub record Forest (adj : ℕ → List ℕ) (σ : Stamps) : Type 0 where
  pub spans : (q : ℕ) → 0 < discovery_at σ q → discovery_at σ q < finish_at σ q
  pub past : (q : ℕ) → 0 < discovery_at σ q → finish_at σ q ≤ σ.time
  pub parted : (q u : ℕ) → 0 < discovery_at σ q → 0 < discovery_at σ u → (q ≡ u → ⊥) → Parted σ q u
  pub tree : (q : ℕ) → 0 < discovery_at σ q → Top σ q ⊎ ((p : ℕ) × Under adj σ q p)
  pub closed : (q c : ℕ) → 0 < discovery_at σ q → Memᴰ c (adj q) → 0 < discovery_at σ c
  pub seen : (q c : ℕ) → 0 < discovery_at σ q → Memᴰ c (adj q) → discovery_at σ c < finish_at σ q
  pub hit : (t : ℕ) → 0 < t → t ≤ σ.time → (q : ℕ) × (0 < discovery_at σ q) × ((discovery_at σ q ≡ t) ⊎ (finish_at σ q ≡ t))
