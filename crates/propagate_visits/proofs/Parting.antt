-- The returns of a visit to a part: which fate the tests have shown, and what then stands in the part. Assumes nothing.
use Prim.Native.Nat.{ℕ, zero, suc, ◌-◌, ◌<◌}
use native.Mathlib.Omega.{arith}
use mathlib.Core.Path.{◌≡◌, refl, sym, ap, subst, ◌∙◌}
use mathlib.Core.Bool.{Bool, true, false, not}
use mathlib.Core.List.{List, [], ◌∷◌, ◌++◌}
use lib.ListN.{length, take, get_or, set, replicate}
use lib.IntN.{ℤ, pos, nat_abs}
use Rattle.base.specs.Lists.{any, filter}
use Rattle.tables.specs.Values.{is_true, is_false, set_true}
use Rattle.tables.specs.Fates.{Fate, left, dropped, unit, conflict}
use Rattle.visits.specs.Formed.{Known, EachKnown}
use Rattle.literal.specs.Holding.{holding}
use Rattle.visits.proofs.Fitting.{filter_shorter}
use Rattle.propagate_visits.specs.Visits.{not_false, remaining, propagate_clause}
use Rattle.visits.specs.Visited.{part_of, part_after, variables_after}
use Rattle.visits.specs.declared.Visited.{Visited}
use Rattle.visits.specs.declared.Visited.TheVariants.{Left, Dropped, MadeTrue, Conflict}

-- a true literal drops the clause; else what is left decides
pub fate_true : (w C : List ℤ) → any (is_true w) C ≡ true → propagate_clause w C ≡ dropped
unfolding propagate_clause
fate_true w C e = rw (e, propagate_clause)

pub fate_left : (w C : List ℤ) → any (is_true w) C ≡ false → propagate_clause w C ≡ remaining (not_false w C)
unfolding propagate_clause
fate_left w C e = rw (e, propagate_clause)

-- what is left of known literals is known
pub known_filter : (w : List ℤ) (q : ℤ → Bool) (C : List ℤ) → EachKnown w C → EachKnown w (filter q C)
unfolding filter
known_filter w q [] K = K
known_filter w q (x ∷ xs) K = go (q x) (known_filter w q xs (record { each = λ k h. K.each (suc k) (omega arith) }))
  where
    go : (b : Bool) → EachKnown w (filter q xs) → EachKnown w (elim b [ true ↦ x ∷ filter q xs | false ↦ filter q xs ])
    go true R = record { each = first R }
      where
        first : EachKnown w (filter q xs) → (k : ℕ) → k < length (x ∷ filter q xs) → Known w (get_or (x ∷ filter q xs) k (pos 0))
        first R zero h = K.each 0 (omega arith)
        first R (suc k) h = R.each k (omega arith)
    go false R = R

module _ (w C : List ℤ) (open' : any (is_true w) C ≡ false) where
  -- none is left
  pub left_none : length (not_false w C) ≡ 0 → (not_false w C ≡ []) × (propagate_clause w C ≡ conflict)
  left_none h = let e = empty (not_false w C) h in (e, fate_left w C open' ∙ ap remaining e)
    where
      empty : (l : List ℤ) → length l ≡ 0 → l ≡ []
      empty [] h = refl
      empty (x ∷ xs) h = absurd (omega arith)

  -- one is left: x
  pub left_one : length (not_false w C) ≡ 1 → (not_false w C ≡ get_or (not_false w C) 0 (pos 0) ∷ []) × (propagate_clause w C ≡ unit (get_or (not_false w C) 0 (pos 0)))
  left_one h = let e = single (not_false w C) h in (e, fate_left w C open' ∙ ap remaining e)
    where
      single : (l : List ℤ) → length l ≡ 1 → l ≡ get_or l 0 (pos 0) ∷ []
      single [] h = absurd (omega arith)
      single (x ∷ []) h = refl
      single (x ∷ y ∷ ys) h = absurd (omega arith)

  -- two or more are left
  pub left_more : (length (not_false w C) ≡ 0 → ⊥) → (length (not_false w C) ≡ 1 → ⊥) → propagate_clause w C ≡ left (not_false w C)
  left_more z o = fate_left w C open' ∙ two (not_false w C) z o
    where
      two : (l : List ℤ) → (length l ≡ 0 → ⊥) → (length l ≡ 1 → ⊥) → remaining l ≡ left l
      two [] z o = absurd (z refl)
      two (x ∷ []) z o = absurd (o refl)
      two (x ∷ y ∷ ys) z o = refl

-- one literal and zeros, with the literal made 0: zeros
pub one_zeroed : (x : ℤ) (n : ℕ) → 0 < n → set ((x ∷ []) ++ replicate (n - 1) (pos 0)) 0 (pos 0) ≡ replicate n (pos 0)
one_zeroed x zero h = absurd (omega arith)
one_zeroed x (suc n) h = let e : suc n - 1 ≡ n = omega arith in ap (λ (k : ℕ). pos 0 ∷ replicate k (pos 0)) e

-- ---- the four returns

-- no literal of p is true, and q holds the r literals that are not false
pub record Removed (w p q : List ℤ) (r : ℕ) : Type 0 where
  pub untrue : any (is_true w) p ≡ false
  pub count : r ≡ length (not_false w p)
  pub held : q ≡ holding (not_false w p) p

-- what a visit that answers r leaves in the part and in the variables
abbrev pub Leaves : List ℤ → List ℤ → Visited → List ℤ → List ℤ → Type 0
Leaves w p r q w' = (part_of r q ≡ part_after (propagate_clause w p) p) × (w' ≡ variables_after (propagate_clause w p) w)

module _ (w p : List ℤ) where
  told : {f : Fate} {r : Visited} {q w' : List ℤ} → propagate_clause w p ≡ f → part_of r q ≡ part_after f p → w' ≡ variables_after f w → Leaves w p r q w'
  told e part values = (part ∙ ap (λ (f : Fate). part_after f p) (sym e), values ∙ ap (λ (f : Fate). variables_after f w) (sym e))

  pub part_dropped : (q : List ℤ) → any (is_true w) p ≡ true → q ≡ take 0 p ++ replicate (length p - 0) (pos 0) → Leaves w p Dropped q w
  part_dropped q e h = told (fate_true w p e) (ap (part_of Dropped) h) refl

module _ {w p q : List ℤ} {r : ℕ} (R : Removed w p q r) where
  pub part_conflict : r ≡ 0 → Leaves w p Conflict q w
  part_conflict z = let L = left_none w p R.untrue (sym R.count ∙ z) in told w p L.1 (ap (part_of Conflict) (R.held ∙ ap (λ (C : List ℤ). holding C p) L.0)) refl

  -- the literal that is left
  one_left : r ≡ 1 → q ≡ holding (get_or (not_false w p) 0 (pos 0) ∷ []) p
  one_left o = R.held ∙ ap (λ (C : List ℤ). holding C p) (left_one w p R.untrue (sym R.count ∙ o)).0

  pub unit_is : r ≡ 1 → get_or q 0 (pos 0) ≡ get_or (not_false w p) 0 (pos 0)
  unit_is o = ap (λ (C : List ℤ). get_or C 0 (pos 0)) (one_left o)

  pub unit_known : r ≡ 1 → EachKnown w p → Known w (get_or q 0 (pos 0))
  unit_known o K = subst (Known w) (sym (unit_is o)) ((known_filter w (λ l. not (is_false w l)) p K).each 0 (omega (arith, sym R.count ∙ o)))

  pub part_unit : (w' : List ℤ) → r ≡ 1 → w' ≡ set_true w (get_or q 0 (pos 0)) → (u : ℕ) → u ≡ nat_abs (get_or q 0 (pos 0)) → Leaves w p (MadeTrue u) (set q 0 (pos 0)) w'
  part_unit w' o s u su =
      told w p (left_one w p R.untrue (sym R.count ∙ o)).1 (λ i. part_of (MadeTrue ((su ∙ ap nat_abs (unit_is o)) i)) (emptied i)) (s ∙ ap (set_true w) (unit_is o))
    where
      emptied : set q 0 (pos 0) ≡ holding [] p
      emptied =
          ap (λ (C : List ℤ). set C 0 (pos 0)) (one_left o)
          ∙ one_zeroed (get_or (not_false w p) 0 (pos 0)) (length p) (omega (arith, filter_shorter (λ l. not (is_false w l)) p, sym R.count ∙ o))
          ∙ ap (λ (k : ℕ). replicate k (pos 0)) (let z : length p ≡ length p - 0 = omega arith in z)

  pub part_left : (r ≡ 0 → ⊥) → (r ≡ 1 → ⊥) → Leaves w p (Left r) q w
  part_left z o = told w p (left_more w p R.untrue (λ k. z (R.count ∙ k)) (λ k. o (R.count ∙ k))) (λ i. part_of (Left (R.count i)) (R.held i)) refl
