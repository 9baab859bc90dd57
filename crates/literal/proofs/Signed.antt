-- What a proof over i32 literals needs: bits and back, negation, the tests, the casts. Each lemma has its literal z from a record, `Small z` or `SFits w32 z`, so no caller writes it. Assumes nothing.
use Prim.Native.Nat.{ℕ, zero, suc, ◌+◌, ◌-◌, ◌^◌, ◌<◌, ◌≤◌}
use mathlib.Core.Path.{◌≡◌, refl, sym, ap, ◌∙◌, subst}
use mathlib.Core.Bool.{Bool, true, false}
use native.Mathlib.Omega.{arith}
use lib.Dec.{T, ltb, leb, eqb}
use mathlib.Core.List.{List}
use lib.ListN.{get_or}
use lib.IntN.{ℤ, pos, negsuc, neg_ℤ, nat_abs, ◌-ℤ◌, +ℤ_idl}
use lib.Signed.{mag, lt_z, non_neg}
use mir.Syntax.{Width, w32}
use mir.Val.{Fits, SFits, of_z, to_z, bits}
use mir.Facts.{to_z-of_z, sfits_lit}
use borrow.Author.Tests.{ltb-true, leb-true, eq-eqb, eqb-true, ne_eqb}
use borrow.Author.Rules.{rules, Fits-under}
use Rattle.base.proofs.Booleans.{clash, and_left, and_right}
use Rattle.literal.specs.Literals.{Small, eq_z, in_range}

-- ---- Small: |z| < 2^31, so z is an i32 and not the smallest
pub small_fits : {z : ℤ} → Small z → SFits w32 z
small_fits {z} h = go z h.small
  where
    go : (z : ℤ) → nat_abs z < 2147483648 → SFits w32 z
    go (pos n) h = record { sfits = h }
    go (negsuc n) h = record { sfits = omega arith }

pub abs_neg : (z : ℤ) → nat_abs (neg_ℤ z) ≡ nat_abs z
abs_neg (pos zero) = refl
abs_neg (pos (suc n)) = refl
abs_neg (negsuc n) = refl

pub small_neg : {z : ℤ} → Small z → Small (neg_ℤ z)
small_neg {z} h = record { small = rw abs_neg h.small }

-- ---- bits and back
pub back : {z : ℤ} → Small z → to_z w32 (of_z w32 z) ≡ z
back h = to_z-of_z (small_fits h)

-- ---- `-l`: it fits, and what is read back is the complement
pub minus : (z : ℤ) → pos 0 -ℤ z ≡ neg_ℤ z
minus z = +ℤ_idl (neg_ℤ z)

-- at any width, where z and its complement fit
pub neg_fitsʷ : {w : Width} {z : ℤ} → SFits w z → SFits w (neg_ℤ z) → SFits w (pos 0 -ℤ to_z w (of_z w z))
neg_fitsʷ f g = rw (to_z-of_z f, minus) g

pub neg_isʷ : {w : Width} {z : ℤ} → SFits w z → SFits w (neg_ℤ z) → to_z w (of_z w (pos 0 -ℤ to_z w (of_z w z))) ≡ neg_ℤ z
neg_isʷ f g = rw (to_z-of_z f, minus) (to_z-of_z g)

pub neg_fits : {z : ℤ} → Small z → SFits w32 (pos 0 -ℤ to_z w32 (of_z w32 z))
neg_fits h = neg_fitsʷ (small_fits h) (small_fits (small_neg h))

pub neg_is : {z : ℤ} → Small z → to_z w32 (of_z w32 (pos 0 -ℤ to_z w32 (of_z w32 z))) ≡ neg_ℤ z
neg_is h = neg_isʷ (small_fits h) (small_fits (small_neg h))

-- ---- the sign test `l < 0` of a local that holds z
pub tested_neg : {z : ℤ} → SFits w32 z → lt_z (to_z w32 (of_z w32 z)) (pos 0) ≡ true → non_neg z ≡ false
tested_neg {z} f e = go z (rw (to_z-of_z f) at e)
  where
    go : (z : ℤ) → lt_z z (pos 0) ≡ true → non_neg z ≡ false
    go (pos n) e = absurd (let h : n < 0 = ltb-true n 0 e in omega arith)
    go (negsuc n) e = refl

pub tested_pos : {z : ℤ} → SFits w32 z → lt_z (to_z w32 (of_z w32 z)) (pos 0) ≡ false → non_neg z ≡ true
tested_pos {z} f e = go z (rw (to_z-of_z f) at e)
  where
    go : (z : ℤ) → lt_z z (pos 0) ≡ false → non_neg z ≡ true
    go (pos n) e = refl
    go (negsuc n) e = sym e

-- ---- the equality test `l == k`, which is one of bits
pub bits_eq : {y z : ℤ} → SFits w32 y → SFits w32 z → of_z w32 y ≡ of_z w32 z → y ≡ z
bits_eq f g e = sym (to_z-of_z f) ∙ ap (to_z w32) e ∙ to_z-of_z g

-- against a constant: `is_lit c.fits.l (negsuc 4) tt c.if1.taken : l ≡ negsuc 4`
pub is_lit : {y : ℤ} → SFits w32 y → (z : ℤ) → T (ltb (mag z) 2147483648) → of_z w32 y ≡ of_z w32 z → y ≡ z
is_lit f z t e = bits_eq f (sfits_lit t) e

pub bits_ne : (y z : ℤ) → (of_z w32 y ≡ of_z w32 z → ⊥) → y ≡ z → ⊥
bits_ne y z h e = h (ap (of_z w32) e)

pub not_zero : {z : ℤ} → SFits w32 z → (of_z w32 z ≡ 0 → ⊥) → 0 < nat_abs z
not_zero {z} f h = go z f.sfits h
  where
    go : (z : ℤ) → mag z < 2147483648 → (of_z w32 z ≡ 0 → ⊥) → 0 < nat_abs z
    go (pos n) f h = omega arith
    go (negsuc n) f h = omega arith

pub not_min : {z : ℤ} → SFits w32 z → (of_z w32 z ≡ 2147483648 → ⊥) → Small z
not_min {z} f h = record { small = go z f.sfits h }
  where
    go : (z : ℤ) → mag z < 2147483648 → (of_z w32 z ≡ 2147483648 → ⊥) → nat_abs z < 2147483648
    go (pos n) f h = f
    go (negsuc n) f h = omega arith

-- ---- the casts `(-l) as T` and `l as T` to an unsigned type T of 32 bits or more: `cast_neg w64 tt ..`
pub cast_neg : (w : Width) → T (leb 2147483648 (2 ^ bits w)) → {z : ℤ} → Small z → non_neg z ≡ false
    → T (non_neg (to_z w32 (of_z w32 (pos 0 -ℤ to_z w32 (of_z w32 z))))) × Fits w (nat_abs (to_z w32 (of_z w32 (pos 0 -ℤ to_z w32 (of_z w32 z)))))
cast_neg w t {z} h e = rw (neg_is h, abs_neg) (go z e, Fits-under w (nat_abs z) 2147483648 h.small t)
  where
    go : (z : ℤ) → non_neg z ≡ false → T (non_neg (neg_ℤ z))
    go (pos n) e = absurd (subst T e tt)
    go (negsuc n) e = tt

pub cast_pos : (w : Width) → T (leb 2147483648 (2 ^ bits w)) → {z : ℤ} → Small z → non_neg z ≡ true
    → T (non_neg (to_z w32 (of_z w32 z))) × Fits w (nat_abs (to_z w32 (of_z w32 z)))
cast_pos w t {z} h e = rw (back h) (subst T (sym e) tt, Fits-under w (nat_abs z) 2147483648 h.small t)

-- ---- the test of equality as a Bool
pub eq_eq_z : (y z : ℤ) → y ≡ z → eq_z y z ≡ true
eq_eq_z y z e = rw (← e) (go y)
  where
    go : (y : ℤ) → eq_z y y ≡ true
    go (pos n) = eq-eqb n n refl
    go (negsuc n) = eq-eqb n n refl

pub eq_z_true : (y z : ℤ) → eq_z y z ≡ true → y ≡ z
eq_z_true (pos a) (pos b) e = ap pos (eqb-true a b e)
eq_z_true (pos a) (negsuc b) e = absurd (subst T (sym e) tt)
eq_z_true (negsuc a) (pos b) e = absurd (subst T (sym e) tt)
eq_z_true (negsuc a) (negsuc b) e = ap negsuc (eqb-true a b e)

pub ne_eq_z : (y z : ℤ) → (y ≡ z → ⊥) → eq_z y z ≡ false
ne_eq_z y z h = go (eq_z y z) refl
  where
    go : (b : Bool) → eq_z y z ≡ b → eq_z y z ≡ false
    go true e = absurd (h (eq_z_true y z e))
    go false e = e

-- what `x == l` leaves in the two arms, x and l two i32
pub tested_eq : {y z : ℤ} → SFits w32 y → SFits w32 z → of_z w32 y ≡ of_z w32 z → eq_z y z ≡ true
tested_eq {y} {z} f g e = eq_eq_z y z (bits_eq f g e)

pub tested_ne : {y z : ℤ} → SFits w32 y → SFits w32 z → (of_z w32 y ≡ of_z w32 z → ⊥) → eq_z y z ≡ false
tested_ne {y} {z} f g h = ne_eq_z y z (bits_ne y z h)

-- ---- a literal in range, from the test
pub record InRange (l : ℤ) (v : ℕ) : Type 0 where
  pub above : 0 < nat_abs l
  pub low : Small l
  pub within : nat_abs l ≤ v

pub in_range_lem : (l : ℤ) (v : ℕ) → in_range l v ≡ true → InRange l v
in_range_lem l v e = record {
  above = ltb-true _ _ (and_left _ _ e);
  low = record { small = ltb-true _ _ (and_left _ _ (and_right (ltb 0 (nat_abs l)) _ e)) };
  within = leb-true _ _ (and_right (ltb (nat_abs l) 2147483648) _ (and_right (ltb 0 (nat_abs l)) _ e));
}

-- the test of an i8 against a constant, as a bool that is returned: `t == -1` compares bits
pub eqb_bits : {w : Width} {y z : ℤ} → SFits w y → SFits w z → eqb (of_z w y) (of_z w z) ≡ eq_z y z
eqb_bits {w} {y} {z} f g = go (eq_z y z) refl
  where
    go : (b : Bool) → eq_z y z ≡ b → eqb (of_z w y) (of_z w z) ≡ b
    go true e = eq-eqb _ _ (ap (of_z w) (eq_z_true y z e))
    go false e = ne_eqb _ _ (λ q. clash (eq_eq_z y z (sym (to_z-of_z f) ∙ ap (to_z w) q ∙ to_z-of_z g)) e)

-- an element of an i32 slice that was read into a local, read back: `read xs i c.l.given`, with `let l = xs[i];`
pub read : (xs : List ℤ) (i : ℕ) → mag (get_or xs i (pos 0)) < 2147483648 → to_z w32 (of_z w32 (get_or xs i (pos 0))) ≡ get_or xs i (pos 0)
read xs i h = to_z-of_z {w = w32} (record { sfits = h })

-- for `search signed`: what `search rules` does, and the complement, the tests and the casts of an i32
pub ruleset signed = (rules, neg_fits, neg_is, back, small_fits, small_neg, abs_neg, tested_neg, tested_pos, cast_neg, cast_pos)
