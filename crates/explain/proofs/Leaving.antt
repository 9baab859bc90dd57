-- The literals that a filter leaves out of a clause: `left_out` finds them, and what stays with what goes is as long as the clause. Assumes nothing.
use Prim.Native.Nat.{◌+◌}
use native.Mathlib.Omega.{arith}
use mathlib.Core.Path.{◌≡◌, refl, sym, ap, subst, ◌∙◌}
use mathlib.Core.Bool.{Bool, true, false, not, ◌&&◌}
use mathlib.Core.Logic.{⊎_elim}
use mathlib.Core.List.Memᴰ
use mathlib.Core.List.{List, [], ◌∷◌, map, Memᴰ}
use lib.ListN.{length, drop}
use lib.Dec.{eqb}
use lib.IntN.{ℤ}
use Rattle.base.specs.Lists.{any, filter}
use Rattle.base.proofs.Booleans.{clash}
use Rattle.base.proofs.Lists.{filter_filter}
use Rattle.literal.specs.Literals.{slot_of, twin}
use Rattle.literal.proofs.Signed.{eq_eq_z, ne_eq_z}
use Rattle.walk.specs.Walk.{Stamps}
use Rattle.hidden.specs.Hidden.{holds, unhidden, shorten}
use Rattle.tables.specs.Fates.{left}
use Rattle.sweep_visits.specs.Clause.{sweep_clause}
use Rattle.explain.specs.Reasons.{begins, left_out}
use Rattle.explain.specs.Asking.{LeftOf}
use Rattle.explain.proofs.Swept.{swept_left}

-- ---- one literal more in front

pub left_out_stays : (l : ℤ) (C D : List ℤ) → begins l D ≡ true → left_out (l ∷ C) D ≡ left_out C (drop 1 D)
unfolding left_out
left_out_stays l C D e = rw (e, left_out)

pub left_out_goes : (l : ℤ) (C D : List ℤ) → begins l D ≡ false → left_out (l ∷ C) D ≡ l ∷ left_out C D
unfolding left_out
left_out_goes l C D e = rw (e, left_out)

-- ---- a filter

-- what passes a test does not begin with what does not
begins_filter : (p : ℤ → Bool) (C : List ℤ) (l : ℤ) → p l ≡ false → begins l (filter p C) ≡ false
unfolding filter
begins_filter p [] l e = refl
begins_filter p (d ∷ C) l e = go (begins_filter p C l e) (p d) refl
  where
    go : begins l (filter p C) ≡ false → (b : Bool) → p d ≡ b → begins l (elim b [ true ↦ d ∷ filter p C | false ↦ filter p C ]) ≡ false
    go rest true h = ne_eq_z d l (λ k. clash h (ap p k ∙ e))
    go rest false h = rest

-- what a filter leaves passes the test
pub filter_passes : {A : Type 0} (p : A → Bool) (xs : List A) {x : A} → Memᴰ x (filter p xs) → p x ≡ true
unfolding filter
filter_passes p [] m = absurd (Memᴰ.not-nil m)
filter_passes {A} p (y ∷ xs) {x} m = go (λ k. filter_passes p xs k) (p y) refl m
  where
    go : (Memᴰ x (filter p xs) → p x ≡ true) → (b : Bool) → p y ≡ b → Memᴰ x (elim b [ true ↦ y ∷ filter p xs | false ↦ filter p xs ]) → p x ≡ true
    go rest true e k = ⊎_elim (λ (s : x ≡ y). ap p s ∙ e) rest (Memᴰ.cases_cons k)
    go rest false e k = rest k

pub left_out_filter : (p : ℤ → Bool) (C : List ℤ) → left_out C (filter p C) ≡ filter (λ l. not (p l)) C
unfolding filter left_out
left_out_filter p [] = refl
left_out_filter p (l ∷ C) = go (left_out_filter p C) (p l) refl
  where
    go : left_out C (filter p C) ≡ filter (λ l. not (p l)) C → (b : Bool) → p l ≡ b
        → left_out (l ∷ C) (elim b [ true ↦ l ∷ filter p C | false ↦ filter p C ]) ≡ elim (not b) [ true ↦ l ∷ filter (λ l. not (p l)) C | false ↦ filter (λ l. not (p l)) C ]
    go rest true e = left_out_stays l C (l ∷ filter p C) (eq_eq_z l l refl) ∙ rest
    go rest false e = left_out_goes l C (filter p C) (begins_filter p C l e) ∙ ap (λ (ls : List ℤ). l ∷ ls) rest

both_lengths : (p : ℤ → Bool) (C : List ℤ) → length (filter p C) + length (filter (λ l. not (p l)) C) ≡ length C
unfolding filter
both_lengths p [] = refl
both_lengths p (l ∷ C) = go (both_lengths p C) (p l)
  where
    go : length (filter p C) + length (filter (λ l. not (p l)) C) ≡ length C → (b : Bool)
        → length {A = ℤ} (elim b [ true ↦ l ∷ filter p C | false ↦ filter p C ]) + length {A = ℤ} (elim (not b) [ true ↦ l ∷ filter (λ l. not (p l)) C | false ↦ filter (λ l. not (p l)) C ]) ≡ length (l ∷ C)
    go rest true = omega (arith, rest)
    go rest false = omega (arith, rest)

-- what stays and what goes
pub left_out_length : {C D : List ℤ} → LeftOf C D → length D + length (left_out C D) ≡ length C
left_out_length {C} {D} L =
    omega (arith, ap length L.is, ap (λ (ls : List ℤ). length (left_out C ls)) L.is, ap length (left_out_filter L.stays C), both_lengths L.stays C)

-- ---- figure 5 leaves what a test leaves

pub shorten_leaves : (σ : Stamps) (C : List ℤ) → LeftOf C (shorten slot_of σ C)
unfolding shorten unhidden
shorten_leaves σ C = record {
  stays = λ l. not (any (λ m. not (eqb m (slot_of l)) && holds σ (slot_of l) m) (map slot_of C)) && not (any (λ m. not (eqb m (slot_of l)) && holds σ (twin m) (twin (slot_of l))) (map slot_of (unhidden slot_of (holds σ) C)));
  is = filter_filter (λ l. not (any (λ m. not (eqb m (slot_of l)) && holds σ (twin m) (twin (slot_of l))) (map slot_of (unhidden slot_of (holds σ) C)))) (λ l. not (any (λ m. not (eqb m (slot_of l)) && holds σ (slot_of l) m) (map slot_of C))) C;
}

-- where as much stays as there was, nothing is left out
pub nothing_out : {C D : List ℤ} → LeftOf C D → length D ≡ length C → left_out C D ≡ []
nothing_out {C} {D} L e = go (left_out C D) (omega (arith, left_out_length L, e))
  where
    go : (ls : List ℤ) → length ls ≡ 0 → ls ≡ []
    go [] h = refl
    go (l ∷ ls) h = absurd (omega (arith, h))

-- what Sweep's rule leaves is left by a test
pub sweep_leaves : (σ : Stamps) (C D : List ℤ) → sweep_clause σ C ≡ left D → LeftOf C D
sweep_leaves σ C D e = subst (LeftOf C) (sym (swept_left σ C D e)) (shorten_leaves σ C)
