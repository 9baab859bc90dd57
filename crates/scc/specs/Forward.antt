-- Refusal 7, "two different literals reach each other", as a fact about paths, and the linear test behind it, over the columns of edges: every edge goes to a literal that finished earlier.
-- Assumes nothing: these are definitions.
use Rattle.std.specs.Prelude.{ℕ, ◌≡◌, Bool, true, false, List, [], ◌∷◌, ltb}
use Rattle.walk.specs.Walk.{Stamps}
use Rattle.walk.specs.Forest.{finish_at, Reach}

-- two different literals that reach each other
abbrev pub Cycle : (ℕ → List ℕ) → Type 0
Cycle adj = (a : ℕ) × (b : ℕ) × (a ≡ b → ⊥) × Reach adj a b × Reach adj b a

-- no two different literals reach each other
abbrev pub Acyclic : (ℕ → List ℕ) → Type 0
Acyclic adj = (a b : ℕ) → (a ≡ b → ⊥) → Reach adj a b → Reach adj b a → ⊥

unfoldable pub forward : Stamps → List ℕ → List ℕ → Bool
forward σ [] ts = true
forward σ (f ∷ fs) [] = true
forward σ (f ∷ fs) (t ∷ ts) = elim (ltb (finish_at σ t) (finish_at σ f)) [ true ↦ forward σ fs ts | false ↦ false ]
