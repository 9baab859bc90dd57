-- The rule for two literals (document 02, CR 2): a clause is dropped exactly if one of its two edges goes from a literal that holds the other and is not its parent (`pair_means`). Assumes nothing.
use Prim.Native.Nat.{ℕ}
use mathlib.Core.Path.{◌≡◌, refl, sym, ap, subst₂, ◌∙◌}
use mathlib.Core.Bool.{Bool, true, ◌||◌, or-true}
use mathlib.Core.Logic.{◌⊎◌, inl, inr, ⊎_elim, ◌↔◌}
use mathlib.Core.List.{[], ◌∷◌}
use Rattle.base.proofs.Booleans.{and_left, and_right, and_both, or_either, or_when_true, differ, differs}
use Rattle.literal.specs.Literals.{twin}
use Rattle.walk.specs.Walk.{Stamps}
use Rattle.walk.specs.Forest.{parent_at, Holds}
use Rattle.hidden.specs.Hidden.{holds, transitive, hidden_pair, hidden_tautology}
use Rattle.hidden.proofs.Intervals.{holds_true, true_holds}

-- edge s → t comes from clause (a ∨ b), one way or the other
abbrev pub Reads : ℕ → ℕ → ℕ → ℕ → Type 0
Reads a b s t = ((s ≡ twin a) × (t ≡ b)) ⊎ ((s ≡ twin b) × (t ≡ a))

-- so what holds of both readings holds of s and t
pub by_reads : (P : ℕ → ℕ → Type 0) {a b s t : ℕ} → Reads a b s t → P (twin a) b → P (twin b) a → P s t
by_reads P {a} {b} {s} {t} r one two =
    ⊎_elim
    (λ (e : (s ≡ twin a) × (t ≡ b)). subst₂ P (sym e.0) (sym e.1) one)
    (λ (e : (s ≡ twin b) × (t ≡ a)). subst₂ P (sym e.0) (sym e.1) two)
    r

-- p holds q and is not its parent
abbrev pub Transitive : Stamps → ℕ → ℕ → Type 0
Transitive σ p q = Holds σ p q × (parent_at σ q ≡ p → ⊥)

pub transitive_means : (σ : Stamps) (p q : ℕ) → (transitive σ p q ≡ true) ↔ Transitive σ p q
unfolding transitive
transitive_means σ p q = (
  λ h. (holds_true σ p q (and_left (holds σ p q) _ h), differ (parent_at σ q) p (and_right (holds σ p q) _ h)),
  λ t. and_both (holds σ p q) _ (true_holds σ p q t.0) (differs (parent_at σ q) p t.1),
)

pub pair_means : (σ : Stamps) (a b : ℕ) → (hidden_tautology σ (a ∷ b ∷ []) ≡ true) ↔ ((p : ℕ) × (q : ℕ) × Reads a b p q × Transitive σ p q)
unfolding hidden_tautology hidden_pair
pair_means σ a b = (
  λ h. ⊎_elim
      (λ t. (twin a, b, inl (refl, refl), (transitive_means σ (twin a) b).0 t))
      (λ t. (twin b, a, inr (refl, refl), (transitive_means σ (twin b) a).0 t))
      (or_either (transitive σ (twin a) b) (transitive σ (twin b) a) h),
  λ r. ⊎_elim
      (λ e. let t = (transitive_means σ (twin a) b).1 (subst₂ (Transitive σ) e.0 e.1 r.3) in sym (or_when_true (transitive σ (twin a) b) (transitive σ (twin b) a) t) ∙ t)
      (λ e. ap (λ (y : Bool). transitive σ (twin a) b || y) ((transitive_means σ (twin b) a).1 (subst₂ (Transitive σ) e.0 e.1 r.3)) ∙ or-true (transitive σ (twin a) b))
      r.2,
)
