-- Graphs that taking twins reverses.
-- Assumes nothing: these are definitions.
use Rattle.std.specs.Prelude.{ℕ, ◌<◌, ◌≡◌}
use mathlib.Core.List.{List, Memᴰ}

-- adj is a graph on the slots below size, and an edge p → q comes with the edge twin q → twin p: taking twins reverses the graph
pub record Skew (adj : ℕ → List ℕ) (twin : ℕ → ℕ) (size : ℕ) : Type 0 where
  pub inside : (p q : ℕ) → p < size → Memᴰ q (adj p) → q < size
  pub below : (p : ℕ) → p < size → twin p < size
  pub twice : (p : ℕ) → p < size → twin (twin p) ≡ p
  pub flip : (p q : ℕ) → p < size → Memᴰ q (adj p) → Memᴰ (twin p) (adj (twin q))
