-- What a chain is, said of its literals: "the chain follows the parents". Assumes nothing: this is a definition.
use Rattle.std.specs.Prelude.{◌≡◌, List, [], ◌∷◌, ℤ}
use Rattle.literal.specs.Literals.{slot_of}
use Rattle.stamps.specs.Fresh.{parent_in}

-- the list begins with p and ends with q, and each literal is the parent of the next, another one
pub data Descends (links : List ℤ) (q : ℤ) : ℤ → List ℤ → Type 0 where
  ends : Descends links q q (q ∷ [])
  down : {p l : ℤ} {C : List ℤ} → parent_in links (slot_of l) ≡ p → (p ≡ l → ⊥) → Descends links q l C → Descends links q p (p ∷ C)
