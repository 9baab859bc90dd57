-- Failed literals: where a variable's two literals have the same start, exactly one literal fails.
--     failed_slot_lem     `failed_slot` is it: it holds both literals, holds no other that does, and is below the number of slots
--     failed_once     no other slot is
--     failed_climb    climbing the parents from the one literal to the first that holds the other finds it
-- Assumes nothing.
use Prim.Native.Nat.{ℕ, zero, suc, ◌≤◌, ◌<◌}
use native.Mathlib.Nat.{le_refl, le_trans}
use native.Mathlib.Omega.{arith}
use mathlib.Core.Path.{◌≡◌, refl, sym, ap, subst}
use mathlib.Core.Bool.{Bool, true, false, not, ◌&&◌}
use mathlib.Core.Logic.{◌⊎◌, ⊎_elim}
use lib.Dec.{eqb}
use borrow.Author.Tests.{eqb-true, not-true}
use Rattle.base.specs.Decide.{same_or}
use Rattle.base.specs.Lists.{any_below}
use Rattle.base.proofs.Booleans.{and_left, and_right, bool_or, clash, and_both, differ, differs}
use Rattle.base.proofs.Searches.{any_below_out, any_below_in, first_found}
use Rattle.literal.specs.Literals.{twin}
use Rattle.walk.specs.Walk.{Stamps}
use Rattle.walk.specs.Forest.{discovery_at, parent_at, start_at, Holds}
use Rattle.hidden.specs.Hidden.{holds}
use Rattle.hidden.specs.Failed.{same_start, holds_both, lowest, failed_slot}
use Rattle.hidden.proofs.Intervals.{Nested, holds_true, true_holds, inside, holds_both_lem, nested_both}

-- the links of the slots below size, as the shape rule has them: "a parent has the narrowest other interval around its child (itself if there is none), a start the widest"
pub record Linked (size : ℕ) (σ : Stamps) : Type 0 where
  pub nested : Nested size σ
  pub parent_below : (q : ℕ) → q < size → parent_at σ q < size
  pub parent : (q : ℕ) → q < size → ((parent_at σ q ≡ q) × ((u : ℕ) → u < size → Holds σ u q → u ≡ q))
      ⊎ ((parent_at σ q ≡ q → ⊥) × Holds σ (parent_at σ q) q × ((u : ℕ) → u < size → (u ≡ q → ⊥) → Holds σ u q → Holds σ u (parent_at σ q)))
  pub start_below : (q : ℕ) → q < size → start_at σ q < size
  pub start : (q : ℕ) → q < size → Holds σ (start_at σ q) q

-- x holds slot s and its twin, and holds no other slot below size that does
pub record Failed (size : ℕ) (σ : Stamps) (s x : ℕ) : Type 0 where
  pub below : x < size
  pub positive : Holds σ x s
  pub negative : Holds σ x (twin s)
  pub innermost : (y : ℕ) → y < size → Holds σ y s → Holds σ y (twin s) → Holds σ x y → y ≡ x

-- from a along the parents to the first that holds b; the number bounds the steps
unfoldable pub climb : Stamps → ℕ → ℕ → ℕ → ℕ
climb σ zero a b = a
climb σ (suc n) a b = elim (holds σ a b) [ true ↦ a | false ↦ climb σ n (parent_at σ a) b ]

-- ---- the test is the relation

holds_two : (σ : Stamps) (s x : ℕ) → holds_both σ s x ≡ true → Holds σ x s × Holds σ x (twin s)
unfolding holds_both
holds_two σ s x h = (holds_true σ x s (and_left _ _ h), holds_true σ x (twin s) (and_right (holds σ x s) _ h))

two_holds : (σ : Stamps) (s x : ℕ) → Holds σ x s → Holds σ x (twin s) → holds_both σ s x ≡ true
unfolding holds_both
two_holds σ s x p n = and_both _ _ (true_holds σ x s p) (true_holds σ x (twin s) n)

-- another slot below size that holds both and that x holds
abbrev rival : Stamps → ℕ → ℕ → ℕ → Bool
rival σ s x y = not (eqb y x) && (holds_both σ s y && holds σ x y)

lowest_failed : (size : ℕ) (σ : Stamps) (s x : ℕ) → x < size → lowest σ size s x ≡ true → Failed size σ s x
unfolding lowest
lowest_failed size σ s x lt h =
    let both = holds_two σ s x (and_left _ _ h) in
    let none = not-true _ (and_right (holds_both σ s x) _ h) in
    record {
      below = lt;
      positive = both.0;
      negative = both.1;
      innermost = λ y ly p n k.
          ⊎_elim
          (λ e. e)
          (λ d. clash (any_below_in size (rival σ s x) y ly (and_both _ _ (differs y x d) (and_both _ _ (two_holds σ s y p n) (true_holds σ x y k)))) none)
          (same_or y x);
    }

failed_lowest : (size : ℕ) (σ : Stamps) (s x : ℕ) → Failed size σ s x → lowest σ size s x ≡ true
unfolding lowest
failed_lowest size σ s x f = and_both _ _ (two_holds σ s x f.positive f.negative) (ap not (⊎_elim some (λ h. h) (bool_or (any_below size (rival σ s x)))))
  where
    some : any_below size (rival σ s x) ≡ true → any_below size (rival σ s x) ≡ false
    some h =
        let r = any_below_out size (rival σ s x) h in
        let y = r.0 in
        let k = and_right (not (eqb y x)) _ r.2 in
        let both = holds_two σ s y (and_left (holds_both σ s y) _ k) in
        absurd (differ y x (and_left (not (eqb y x)) _ r.2) (f.innermost y r.1 both.0 both.1 (holds_true σ x y (and_right (holds_both σ s y) _ k))))

-- ---- at most one

pub failed_once : (size : ℕ) (σ : Stamps) → Nested size σ → (s x y : ℕ) → s < size → Failed size σ s x → Failed size σ s y → x ≡ y
failed_once size σ N s x y lt f g =
    ⊎_elim
    (λ h. sym (f.innermost y g.below g.positive g.negative h))
    (λ h. g.innermost x f.below f.positive f.negative h)
    (nested_both size σ N x y s f.below g.below lt f.positive g.positive)

-- ---- the climb finds one

-- x is the innermost of those that hold a and b
record Met (size : ℕ) (σ : Stamps) (a b x : ℕ) : Type 0 where
  below : x < size
  over : Holds σ x a
  across : Holds σ x b
  first : (y : ℕ) → y < size → Holds σ y a → Holds σ y b → Holds σ y x

module _ (size : ℕ) (σ : Stamps) (L : Linked size σ) where
  -- where some slot z holds both, the climb ends at the innermost
  climb_met : (n a b z : ℕ) → discovery_at σ a ≤ n → a < size → z < size → Holds σ z a → Holds σ z b → Met size σ a b (climb σ n a b)
  unfolding climb
  climb_met zero a b z le la lz za zb =
      -- discoveries fall along the parents, so a is discovered at 0 only if z is a
      let e : z ≡ a = ⊎_elim (λ i. i) (λ d. absurd (omega (arith, le, (inside size σ L.nested z a lz la (λ i. d (sym i)) za).0))) (same_or z a) in
      record { below = la; over = (le_refl _, le_refl _); across = subst (λ (k : ℕ). Holds σ k b) e zb; first = λ y ly h i. h }
  climb_met (suc n) a b z le la lz za zb = go (λ p. climb_met n p b z) (holds σ a b) refl
    where
      go : ((p : ℕ) → discovery_at σ p ≤ n → p < size → z < size → Holds σ z p → Holds σ z b → Met size σ p b (climb σ n p b)) → (v : Bool) → holds σ a b ≡ v
          → Met size σ a b (elim v [ true ↦ a | false ↦ climb σ n (parent_at σ a) b ])
      go rest true e = record { below = la; over = (le_refl _, le_refl _); across = holds_true σ a b e; first = λ y ly h i. h }
      go rest false e =
          -- a itself does not hold b
          let other : (y : ℕ) → Holds σ y b → y ≡ a → ⊥ = λ y h i. clash (true_holds σ a b (subst (λ (k : ℕ). Holds σ k b) i h)) e in
          ⊎_elim
          (λ outermost. absurd (other z zb (outermost.1 z lz za)))
          (λ k.
          let p : ℕ = parent_at σ a in
          let lp = L.parent_below a la in
          let lower = inside size σ L.nested p a lp la (λ i. k.0 (sym i)) k.1 in
          let m = rest p (omega (arith, lower.0, le)) lp lz (k.2 z lz (other z zb) za) zb in
          record {
            below = m.below;
            over = (le_trans m.over.0 k.1.0, le_trans k.1.1 m.over.1);
            across = m.across;
            first = λ y ly h i. m.first y ly (k.2 y ly (other y i) h) i;
          })
          (L.parent a la)

  module _ (s : ℕ) (ls : s < size) (lt : twin s < size) (same : same_start σ s ≡ true) where
    climb_failed : Failed size σ s (climb σ (discovery_at σ s) s (twin s))
    unfolding same_start
    climb_failed =
        let x : ℕ = climb σ (discovery_at σ s) s (twin s) in
        let m = climb_met (discovery_at σ s) s (twin s) (start_at σ s) (le_refl _) ls (L.start_below s ls) (L.start s ls) (subst (λ (k : ℕ). Holds σ k (twin s)) (sym (eqb-true _ _ same)) (L.start (twin s) lt)) in
        record {
          below = m.below;
          positive = m.over;
          negative = m.across;
          innermost = λ y ly h i j. sym (holds_both_lem size σ L.nested x y m.below ly j (m.first y ly h i));
        }

    -- the definition's slot has failed
    pub failed_slot_lem : Failed size σ s (failed_slot σ size s)
    unfolding failed_slot
    failed_slot_lem =
        let f = climb_failed in
        let r = first_found (lowest σ size s) size 0 (climb σ (discovery_at σ s) s (twin s)) (omega arith) (omega (arith, f.below)) (failed_lowest size σ s (climb σ (discovery_at σ s) s (twin s)) f) in
        lowest_failed size σ s (failed_slot σ size s) (omega (arith, r.1, f.below)) r.0

    -- and the climb finds it
    pub failed_climb : failed_slot σ size s ≡ climb σ (discovery_at σ s) s (twin s)
    failed_climb = failed_once size σ L.nested s (failed_slot σ size s) (climb σ (discovery_at σ s) s (twin s)) ls failed_slot_lem climb_failed
