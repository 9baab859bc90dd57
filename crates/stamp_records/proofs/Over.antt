-- A list laid over another, element by element, and the two numbers of each record so: what the loops of `pack` and `unpack` add in a turn. Assumes nothing.
use mathlib.Core.Path.{◌≡◌, refl, sym, ◌∙◌, ap}
use native.Mathlib.Omega.{arith}
use native.Mathlib.Nat.{not-suc-le-zero, le_of_suc-le-suc, zero-min, min-zero, suc-min-suc, min-le_left}
use native.Mathlib.Numerals.{add-one}
use Prim.Native.Nat.{ℕ, zero, suc, ◌+◌, ◌*◌, ◌<◌, ◌≤◌, min}
use mathlib.Core.List.{List, [], ◌∷◌, ◌++◌}
use lib.ListN.{length, get_or, set, take, drop, length-take, take-append-drop}
use Rattle.stamp_records.specs.declared.StampRecord.{StampRecord}
use Rattle.stamp_records.specs.Records.{pairs_in, over, put2}

module _ {A : Type 0} where
  pub length_over : (xs ys : List A) → length (over xs ys) ≡ length ys
  unfolding over
  length_over [] ys = refl
  length_over (x ∷ xs) [] = refl
  length_over (x ∷ xs) (y ∷ ys) = ap suc (length_over xs ys)

  pub over_none : (ys : List A) → over [] ys ≡ ys
  unfolding over
  over_none ys = refl

  over_more : (i : ℕ) (xs ys : List A) (d : A) → i < length xs → i < length ys → over (take (suc i) xs) ys ≡ set (over (take i xs) ys) i (get_or xs i d)
  unfolding over
  over_more zero (x ∷ xs) (y ∷ ys) d h k = refl
  over_more (suc i) (x ∷ xs) (y ∷ ys) d h k = ap (λ (l : List A). x ∷ l) (over_more i xs ys d (le_of_suc-le-suc h) (le_of_suc-le-suc k))
  over_more i [] ys d h k = absurd (not-suc-le-zero h)
  over_more zero (x ∷ xs) [] d h k = absurd (not-suc-le-zero k)
  over_more (suc i) (x ∷ xs) [] d h k = absurd (not-suc-le-zero k)

  pub over_next : (i : ℕ) (xs ys : List A) (d : A) → i < length xs → i < length ys → over (take (i + 1) xs) ys ≡ set (over (take i xs) ys) i (get_or xs i d)
  over_next i xs ys d h k = ap (λ (n : ℕ). over (take n xs) ys) (add-one i) ∙ over_more i xs ys d h k

  -- a list over itself, or its first elements
  pub over_own : (n : ℕ) (ys : List A) → over (take n ys) ys ≡ ys
  unfolding over
  over_own zero ys = refl
  over_own (suc n) [] = refl
  over_own (suc n) (y ∷ ys) = ap (λ (l : List A). y ∷ l) (over_own n ys)

  -- a list laid over the first n elements, with the others behind
  pub over_front : (n : ℕ) (xs ys : List A) → length xs ≤ n → over xs (take n ys) ++ drop n ys ≡ over xs ys
  unfolding over
  over_front n [] ys h = take-append-drop n ys
  over_front zero (x ∷ xs) ys h = absurd (not-suc-le-zero h)
  over_front (suc n) (x ∷ xs) [] h = refl
  over_front (suc n) (x ∷ xs) (y ∷ ys) h = ap (λ (l : List A). x ∷ l) (over_front n xs ys (le_of_suc-le-suc h))

  pub take_min : (n : ℕ) (ys : List A) → take (min n (length ys)) ys ≡ take n ys
  take_min zero ys = ap (λ (k : ℕ). take k ys) (zero-min (length ys))
  take_min (suc n) [] = ap (λ (k : ℕ). take k []) (min-zero (suc n))
  take_min (suc n) (y ∷ ys) = ap (λ (k : ℕ). take k (y ∷ ys)) (suc-min-suc n (length ys)) ∙ ap (λ (l : List A). y ∷ l) (take_min n ys)

-- twice a number and two
pub two_more : (i : ℕ) → 2 * suc i ≡ suc (suc (2 * i))
two_more i = omega arith

-- two and one, in either order
pub two_and_one : (n : ℕ) → suc (suc n) + 1 ≡ suc (suc (n + 1))
two_and_one n = omega arith

-- the place after a record's first number, in a list that is shorter by one record, and in a list too short for any
pub fewer : (i n : ℕ) → 2 * suc i + 1 < suc (suc n) → 2 * i + 1 < n
fewer i n h = omega arith

pub too_few : (i n : ℕ) → 2 * i + 1 < n → n ≤ 1 → ⊥
too_few i n h k = omega arith

-- a list of one or none holds no record's numbers
short_of_two : (i n : ℕ) → 2 * suc i ≤ n → n ≤ 1 → ⊥
short_of_two i n h k = omega arith

module _ {X : Type 0} (p q : StampRecord → X) where
  pub length_pairs : (rs : List StampRecord) → length (pairs_in p q rs) ≡ 2 * length rs
  unfolding pairs_in
  length_pairs [] = refl
  length_pairs (r ∷ rs) = ap (λ (n : ℕ). suc (suc n)) (length_pairs rs) ∙ sym (two_more (length rs))

  put2_more : (a b : X) (l : List X) (i : ℕ) (x y : X) → put2 (a ∷ b ∷ l) (suc i) x y ≡ a ∷ b ∷ put2 l i x y
  put2_more a b l i x y = ap (λ (n : ℕ). set (set (a ∷ b ∷ l) n x) (n + 1) y) (two_more i) ∙ ap (λ (n : ℕ). set (a ∷ b ∷ set l (2 * i) x) n y) (two_and_one (2 * i))

  pairs_more : (i : ℕ) (rs : List StampRecord) (l : List X) (d : StampRecord) → i < length rs → 2 * i + 1 < length l → over (pairs_in p q (take (suc i) rs)) l ≡ put2 (over (pairs_in p q (take i rs)) l) i (p (get_or rs i d)) (q (get_or rs i d))
  unfolding over pairs_in
  pairs_more zero (r ∷ rs) (a ∷ b ∷ l) d h k = refl
  pairs_more (suc i) (r ∷ rs) (a ∷ b ∷ l) d h k =
      ap (λ (m : List X). p r ∷ q r ∷ m) (pairs_more i rs l d (le_of_suc-le-suc h) (fewer i (length l) k)) ∙ sym (put2_more (p r) (q r) (over (pairs_in p q (take i rs)) l) i (p (get_or rs i d)) (q (get_or rs i d)))
  pairs_more i [] l d h k = absurd (not-suc-le-zero h)
  pairs_more i (r ∷ rs) [] d h k = absurd (not-suc-le-zero k)
  pairs_more i (r ∷ rs) (a ∷ []) d h k = absurd (too_few i 1 k (omega arith))

  pub pairs_next : (i : ℕ) (rs : List StampRecord) (l : List X) (d : StampRecord) → i < length rs → 2 * i + 1 < length l → over (pairs_in p q (take (i + 1) rs)) l ≡ put2 (over (pairs_in p q (take i rs)) l) i (p (get_or rs i d)) (q (get_or rs i d))
  pairs_next i rs l d h k = ap (λ (n : ℕ). over (pairs_in p q (take n rs)) l) (add-one i) ∙ pairs_more i rs l d h k

  pub pairs_none : (rs : List StampRecord) (l : List X) → over (pairs_in p q (take 0 rs)) l ≡ l
  unfolding over pairs_in
  pairs_none rs l = refl

  -- of a list that the pairs were laid over, the first are the pairs
  pub pairs_held : (rs : List StampRecord) (l : List X) → 2 * length rs ≤ length l → take (2 * length rs) (over (pairs_in p q rs) l) ≡ pairs_in p q rs
  unfolding over pairs_in
  pairs_held [] l h = refl
  pairs_held (r ∷ rs) (a ∷ b ∷ l) h = ap (λ (n : ℕ). take n (p r ∷ q r ∷ over (pairs_in p q rs) l)) (two_more (length rs)) ∙ ap (λ (m : List X). p r ∷ q r ∷ m) (pairs_held rs l (without (length rs) (length l) h))
    where
      without : (i n : ℕ) → 2 * suc i ≤ suc (suc n) → 2 * i ≤ n
      without i n h = omega arith
  pairs_held (r ∷ rs) [] h = absurd (short_of_two (length rs) 0 h (omega arith))
  pairs_held (r ∷ rs) (a ∷ []) h = absurd (short_of_two (length rs) 1 h (omega arith))

  -- of a lent slice, the first 2,048 records are used, or all if there are fewer; the columns of those hold the slice's columns
  pub pairs_lent : (k : ℕ) (rs : List StampRecord) (l : List X) → k ≡ min 2048 (length rs) → 4096 ≤ length l → take (2 * k) (over (pairs_in p q (take k rs)) l) ≡ pairs_in p q (take 2048 rs)
  pairs_lent k rs l e h =
      ap (λ (n : ℕ). take (2 * n) (over (pairs_in p q (take k rs)) l)) long ∙ ap (λ (ys : List StampRecord). take (2 * length (take 2048 rs)) (over (pairs_in p q ys) l)) (ap (λ (n : ℕ). take n rs) e ∙ take_min 2048 rs)
      ∙ pairs_held (take 2048 rs) l (omega (arith, h, length-take 2048 rs, min-le_left 2048 (length rs)))
    where
      long : k ≡ length (take 2048 rs)
      long = e ∙ sym (length-take 2048 rs)
