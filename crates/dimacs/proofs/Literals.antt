-- A literal that a text spells is not 0, and its variable is the magnitude. Assumes nothing.
use mathlib.Core.Path.{◌≡◌, refl}
use mathlib.Core.Bool.{Bool, true, false, ◌&&◌, false≢true}
use mathlib.Core.List.{List, [], ◌∷◌}
use Prim.Native.Nat.{ℕ, suc, ◌+◌, ◌*◌, ◌-◌, ◌≤◌, ◌<◌}
use native.Mathlib.Omega.{arith}
use lib.ListN.{length}
use lib.Dec.{eqb, leb}
use lib.IntN.{nat_abs, pos}
use borrow.Author.Tests.{eqb-true, eqb-false, leb-true}
use Rattle.literal.proofs.Signed.{abs_neg}
use Rattle.dimacs.specs.Words.{is_digit, span}
use Rattle.dimacs.specs.Tokens.{bad, nought, literal, decimal, decimal_from, numeral, meaning}
use Rattle.dimacs.specs.Text.{literal_of}

decimal_ge : (n : ℕ) (ds : List ℕ) → n ≤ decimal_from n ds
decimal_ge n [] = omega arith
decimal_ge n (d ∷ ds) = omega (arith, decimal_ge (n * 10 + (d - 48)) ds)

run_digit : (d : ℕ) (ds : List ℕ) → span is_digit (d ∷ ds) ≡ length (d ∷ ds) → is_digit d ≡ true
run_digit d ds e = go (is_digit d) refl
  where
    go : (t : Bool) → is_digit d ≡ t → is_digit d ≡ true
    go true t = t
    go false t = absurd (let z : 0 ≡ suc (length ds) = rw (t, span) at e in omega (arith, z))

digit_ge : (d : ℕ) → is_digit d ≡ true → 48 ≤ d
digit_ge d e = go (leb 48 d) refl
  where
    go : (t : Bool) → leb 48 d ≡ t → 48 ≤ d
    go true t = leb-true 48 d t
    go false t = absurd (false≢true (rw t at e))

numeral_pos : (c : Bool) (s : List ℕ) (b : Bool) (m : ℕ) → numeral c s ≡ literal b m → 0 < m
numeral_pos c [] b m e = absurd (let z : ◌≡◌ {A = ℕ} 0 1 = cc in omega arith)
numeral_pos c (d ∷ ds) b m e = go (eqb d 48) refl (eqb (span is_digit (d ∷ ds)) (length (d ∷ ds))) refl
  where
    go : (t : Bool) → eqb d 48 ≡ t → (u : Bool) → eqb (span is_digit (d ∷ ds)) (length (d ∷ ds)) ≡ u → 0 < m
    go true t u w = let q : bad ≡ literal b m = rw (t, numeral) at e in absurd (let z : ◌≡◌ {A = ℕ} 0 1 = cc in omega arith)
    go false t false w = let q : bad ≡ literal b m = rw (t, numeral, w) at e in absurd (let z : ◌≡◌ {A = ℕ} 0 1 = cc in omega arith)
    go false t true w =
        let q : literal c (decimal (d ∷ ds)) ≡ literal b m = rw (t, numeral, w) at e in
        let k : decimal (d ∷ ds) ≡ m = cc in
        let g : 48 ≤ d = digit_ge d (run_digit d ds (eqb-true _ _ w)) in
        let n : d ≡ 48 → ⊥ = eqb-false d 48 t in
        omega (arith, k, decimal_ge (0 * 10 + (d - 48)) ds, n)

pub literal_pos : (s : List ℕ) (b : Bool) (m : ℕ) → meaning s ≡ literal b m → 0 < m
literal_pos [] b m e = absurd (let z : ◌≡◌ {A = ℕ} 0 1 = cc in omega arith)
literal_pos (x ∷ s) b m e = go (eqb x 45) refl (eqb x 48 && eqb (length s) 0) refl
  where
    go : (t : Bool) → eqb x 45 ≡ t → (u : Bool) → (eqb x 48 && eqb (length s) 0) ≡ u → 0 < m
    go true t u w = numeral_pos true s b m (rw (t, meaning) at e)
    go false t true w = let q : nought ≡ literal b m = rw (t, meaning, w) at e in absurd (let z : ◌≡◌ {A = ℕ} 0 1 = cc in omega arith)
    go false t false w = numeral_pos false (x ∷ s) b m (rw (t, meaning, w) at e)

pub abs_literal : (b : Bool) (m : ℕ) → nat_abs (literal_of b m) ≡ m
abs_literal true m = abs_neg (pos m)
abs_literal false m = refl
