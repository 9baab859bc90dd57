-- The columns of a part of a list of records, and of that part laid back: the numbers of k records are the first 2k of a column. Assumes nothing.
use Prim.Native.Nat.{ℕ, zero, suc, ◌*◌}
use native.Mathlib.Omega.{arith}
use mathlib.Core.Path.{◌≡◌, refl, sym, ap, ◌∙◌}
use mathlib.Core.List.{List, [], ◌∷◌, ◌++◌}
use lib.ListN.{length, take, drop, take-append-drop}
use Rattle.stamp_records.specs.declared.StampRecord.{StampRecord}
use Rattle.stamp_records.specs.Records.{pairs_in, over}
use Rattle.stamp_records.proofs.Over.{two_more}

-- two fronts of a list, in either order
front_front : {A : Type 0} (m n : ℕ) (l : List A) → take m (take n l) ≡ take n (take m l)
front_front zero zero l = refl
front_front zero (suc n) [] = refl
front_front zero (suc n) (x ∷ l) = refl
front_front (suc m) zero [] = refl
front_front (suc m) zero (x ∷ l) = refl
front_front (suc m) (suc n) [] = refl
front_front {A} (suc m) (suc n) (x ∷ l) = ap (λ (k : List A). x ∷ k) (front_front m n l)

none : (n : ℕ) → suc n ≡ 0 → ⊥
none n h = omega arith

-- a list over a lent front of another, with what was not lent behind: of the first n, the list itself and those that were not lent
over_back : {A : Type 0} (n k : ℕ) (xs ys : List A) → length xs ≡ length (take n (take k ys)) → take n (over xs (take k ys) ++ drop k ys) ≡ xs ++ drop k (take n ys)
unfolding over
over_back zero zero [] ys e = refl
over_back zero (suc k) [] ys e = refl
over_back (suc n) zero [] ys e = refl
over_back (suc n) (suc k) [] [] e = refl
over_back (suc n) (suc k) [] (y ∷ ys) e = absurd (none (length (take n (take k ys))) (sym e))
over_back zero k (x ∷ xs) ys e = absurd (none (length xs) e)
over_back (suc n) zero (x ∷ xs) ys e = absurd (none (length xs) e)
over_back (suc n) (suc k) (x ∷ xs) [] e = absurd (none (length xs) e)
over_back {A} (suc n) (suc k) (x ∷ xs) (y ∷ ys) e = ap (λ (l : List A). x ∷ l) (over_back n k xs ys (pred (length xs) (length (take n (take k ys))) e))
  where
    pred : (a b : ℕ) → suc a ≡ suc b → a ≡ b
    pred a b h = omega arith

module _ {X : Type 0} (p q : StampRecord → X) where
  pairs_join : (xs ys : List StampRecord) → pairs_in p q (xs ++ ys) ≡ pairs_in p q xs ++ pairs_in p q ys
  unfolding pairs_in
  pairs_join [] ys = refl
  pairs_join (x ∷ xs) ys = ap (λ (l : List X). p x ∷ q x ∷ l) (pairs_join xs ys)

  pairs_front : (k : ℕ) (rs : List StampRecord) → take (2 * k) (pairs_in p q rs) ≡ pairs_in p q (take k rs)
  unfolding pairs_in
  pairs_front zero rs = refl
  pairs_front (suc k) [] = ap (λ (n : ℕ). take {A = X} n []) (two_more k)
  pairs_front (suc k) (r ∷ rs) = ap (λ (n : ℕ). take n (p r ∷ q r ∷ pairs_in p q rs)) (two_more k) ∙ ap (λ (l : List X). p r ∷ q r ∷ l) (pairs_front k rs)

  pairs_past : (k : ℕ) (rs : List StampRecord) → drop (2 * k) (pairs_in p q rs) ≡ pairs_in p q (drop k rs)
  unfolding pairs_in
  pairs_past zero rs = refl
  pairs_past (suc k) [] = ap (λ (n : ℕ). drop {A = X} n []) (two_more k)
  pairs_past (suc k) (r ∷ rs) = ap (λ (n : ℕ). drop n (p r ∷ q r ∷ pairs_in p q rs)) (two_more k) ∙ pairs_past k rs

  -- a column of 2,048 records: of what is lent, of what is given back as it was, and with the numbers xs of the records that were written
  pub column_lent : (k : ℕ) (rs : List StampRecord) → take (2 * k) (pairs_in p q (take 2048 rs)) ≡ pairs_in p q (take 2048 (take k rs))
  column_lent k rs = pairs_front k (take 2048 rs) ∙ ap (pairs_in p q) (front_front k 2048 rs)

  pub column_read : (k : ℕ) (rs : List StampRecord) → pairs_in p q (take 2048 (take k rs ++ drop k rs)) ≡ pairs_in p q (take 2048 (take k rs)) ++ drop (2 * k) (pairs_in p q (take 2048 rs))
  column_read k rs =
      ap (λ (l : List StampRecord). pairs_in p q (take 2048 l)) (take-append-drop k rs) ∙ sym (take-append-drop (2 * k) (pairs_in p q (take 2048 rs))) ∙ ap (λ (l : List X). l ++ drop (2 * k) (pairs_in p q (take 2048 rs))) (column_lent k rs)

  pub column_written : (k : ℕ) (xs rs : List StampRecord) → length xs ≡ length (take 2048 (take k rs)) → pairs_in p q (take 2048 (over xs (take k rs) ++ drop k rs)) ≡ pairs_in p q xs ++ drop (2 * k) (pairs_in p q (take 2048 rs))
  column_written k xs rs e =
      ap (pairs_in p q) (over_back 2048 k xs rs e) ∙ pairs_join xs (drop k (take 2048 rs)) ∙ ap (λ (l : List X). pairs_in p q xs ++ l) (sym (pairs_past k (take 2048 rs)))
