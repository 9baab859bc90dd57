-- Truth on slots is truth on literals, and a literal is true exactly if its complement is not. Assumes nothing.
use Prim.Native.Nat.{ℕ, ◌<◌}
use mathlib.Core.Path.{◌≡◌, sym, ap, ◌∙◌}
use mathlib.Core.Bool.{not, true≢false}
use mathlib.Core.Logic.{◌⊎◌, inl, inr, ⊎_elim}
use lib.IntN.{ℤ, nat_abs}
use Rattle.base.proofs.Booleans.{bool_or}
use Rattle.literal.specs.Literals.{slot_of, twin}
use Rattle.literal.specs.Assignments.{Assignment, true_under}
use Rattle.literal.proofs.Laws.{lit_slot}
use Rattle.literal.proofs.Truth.{holds_twin}
use Rattle.sound.specs.Formula.{value, True}

-- the truth of a literal's slot is the truth of the literal
pub value_slot : (τ : Assignment) (l : ℤ) → 0 < nat_abs l → value τ (slot_of l) ≡ true_under τ l
unfolding value
value_slot τ l h = ap (true_under τ) (lit_slot l h)

pub value_twin : (τ : Assignment) (s : ℕ) → value τ (twin s) ≡ not (value τ s)
unfolding value
value_twin τ s = holds_twin τ s

-- a literal is true, or its complement is
pub true_or : (τ : Assignment) (s : ℕ) → True τ s ⊎ True τ (twin s)
true_or τ s = ⊎_elim (λ t. inl t) (λ f. inr (value_twin τ s ∙ ap not f)) (bool_or (value τ s))

pub not_both : (τ : Assignment) (s : ℕ) → True τ s → True τ (twin s) → ⊥
not_both τ s t u = true≢false (sym u ∙ value_twin τ s ∙ ap not t)
