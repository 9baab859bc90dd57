-- The rule for two literals, test by test. Assumes nothing.
use Prim.Native.Nat.{ℕ}
use mathlib.Core.Path.{◌≡◌, sym, ap, subst, ◌∙◌}
use mathlib.Core.Bool.{Bool, true, false, not, ◌&&◌, ◌||◌}
use mathlib.Core.List.{List}
use lib.Dec.{eqb}
use lib.IntN.{ℤ}
use Rattle.literal.specs.Literals.{twin}
use Rattle.literal.proofs.Twins.{twin_below}
use Rattle.walk.specs.Walk.{Stamps}
use Rattle.walk.specs.Forest.{parent_at}
use Rattle.hidden.specs.Hidden.{holds, transitive, hidden_pair}
use Rattle.hidden_tautologies.specs.Judged.{Two}

-- ---- the complement of what has stamps has stamps

module _ {times : List ℕ} {links : List ℤ} {a b : ℕ} (T : Two times links a b) where
  -- the ends of the clause's two edges
  pub two_first : {x : ℕ} → x ≡ twin a → Two times links x b
  two_first e = subst (λ (x : ℕ). Two times links x b) (sym e) (record { vars = T.vars; stamped = T.stamped; one = twin_below T.vars a T.one; other = T.other })

  pub two_second : {x : ℕ} → x ≡ twin b → Two times links x a
  two_second e = subst (λ (x : ℕ). Two times links x a) (sym e) (record { vars = T.vars; stamped = T.stamped; one = twin_below T.vars b T.other; other = T.one })

-- ---- what the tests have shown

module _ (σ : Stamps) (p q : ℕ) {h : Bool} (is : h ≡ holds σ p q) where
  pub not_held : h ≡ false → false ≡ transitive σ p q
  unfolding transitive
  not_held e = ap (λ (x : Bool). x && not (eqb (parent_at σ q) p)) (sym e ∙ is)

  pub held : h ≡ true → {m : ℕ} → m ≡ parent_at σ q → not (eqb m p) ≡ transitive σ p q
  unfolding transitive
  held e {m} i = ap (λ (x : ℕ). not (eqb x p)) i ∙ ap (λ (x : Bool). x && not (eqb (parent_at σ q) p)) (sym e ∙ is)

module _ (σ : Stamps) (a b : ℕ) {x : ℕ} (twin-is : x ≡ twin a) {r : Bool} (is : r ≡ transitive σ x b) where
  pub first_edge : r ≡ true → true ≡ hidden_pair σ a b
  unfolding hidden_pair
  first_edge e = ap (λ (t : Bool). t || transitive σ (twin b) a) (sym e ∙ is ∙ ap (λ (s : ℕ). transitive σ s b) twin-is)

  pub second_edge : r ≡ false → {y : ℕ} → y ≡ twin b → {s : Bool} → s ≡ transitive σ y a → s ≡ hidden_pair σ a b
  unfolding hidden_pair
  second_edge e {y} i j = j ∙ ap (λ (t : ℕ). transitive σ t a) i ∙ ap (λ (t : Bool). t || transitive σ (twin b) a) (sym e ∙ is ∙ ap (λ (s : ℕ). transitive σ s b) twin-is)
