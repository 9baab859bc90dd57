-- A literal is true exactly if its complement is not, said of literals and of slots. Assumes nothing.
use Prim.Native.Nat.{ℕ, zero, suc, ◌<◌}
use native.Mathlib.Omega.{arith}
use mathlib.Core.Path.{◌≡◌, refl, sym, ap, ◌∙◌}
use mathlib.Core.Bool.{not, not-not}
use lib.IntN.{ℤ, pos, negsuc, neg_ℤ, nat_abs}
use Rattle.literal.specs.Literals.{lit_at, twin}
use Rattle.literal.specs.Assignments.{Assignment, true_under}
use Rattle.literal.proofs.Laws.{lit_above, lit_twin}

pub holds_neg : (τ : Assignment) (l : ℤ) → 0 < nat_abs l → true_under τ (neg_ℤ l) ≡ not (true_under τ l)
holds_neg τ (pos zero) h = absurd (omega arith)
holds_neg τ (pos (suc n)) h = refl
holds_neg τ (negsuc n) h = sym (not-not (τ (suc n)))

pub holds_twin : (τ : Assignment) (s : ℕ) → true_under τ (lit_at (twin s)) ≡ not (true_under τ (lit_at s))
holds_twin τ s = ap (true_under τ) (lit_twin s) ∙ holds_neg τ (lit_at s) (lit_above s)
