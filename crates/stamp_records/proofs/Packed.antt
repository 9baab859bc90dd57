-- The records that two columns hold, and a list of records with those in its first places: record by record, one turn more of `pack`, and that the columns of records give these records back. Assumes nothing.
use mathlib.Core.Path.{◌≡◌, refl, sym, ◌∙◌, ap}
use native.Mathlib.Omega.{arith}
use native.Mathlib.Nat.{not-suc-le-zero, le_of_suc-le-suc}
use Prim.Native.Nat.{ℕ, zero, suc, ◌+◌, ◌*◌, ◌<◌, ◌≤◌}
use mathlib.Core.List.{List, [], ◌∷◌}
use lib.IntN.{ℤ, pos}
use lib.ListN.{length, get_or, set, take, drop}
use Rattle.stamp_records.specs.declared.StampRecord.{StampRecord}
use Rattle.stamp_records.specs.Records.{no_stamp, stamp_record, pairs_in, times_in, links_in, records_in, over, packed, record_at, times_of, links_of}
use Rattle.stamp_records.proofs.Over.{over_next, over_own, two_more, two_and_one, fewer, too_few}

-- both columns reach past record i
abbrev Past : ℕ → List ℕ → List ℤ → Type 0
Past i ts ls = (2 * i + 1 < length ts) × (2 * i + 1 < length ls)

-- the record at the next place of longer columns
record_more : (d f : ℕ) (ts : List ℕ) (p s : ℤ) (ls : List ℤ) (i : ℕ) → record_at ts ls i ≡ record_at (d ∷ f ∷ ts) (p ∷ s ∷ ls) (suc i)
record_more d f ts p s ls i =
    ap (λ (n : ℕ). stamp_record (get_or ts (2 * i) 0) (get_or (d ∷ f ∷ ts) n 0) (get_or ls (2 * i) (pos 0)) (get_or (p ∷ s ∷ ls) n (pos 0))) (sym (two_and_one (2 * i)))
    ∙ ap (λ (n : ℕ). stamp_record (get_or (d ∷ f ∷ ts) n 0) (get_or (d ∷ f ∷ ts) (n + 1) 0) (get_or (p ∷ s ∷ ls) n (pos 0)) (get_or (p ∷ s ∷ ls) (n + 1) (pos 0))) (sym (two_more i))

pub records_at : (i : ℕ) (ts : List ℕ) (ls : List ℤ) → Past i ts ls → (i < length (records_in ts ls)) × (get_or (records_in ts ls) i no_stamp ≡ record_at ts ls i)
unfolding records_in
records_at zero (d ∷ f ∷ ts) (p ∷ s ∷ ls) h = (omega arith, refl)
records_at (suc i) (d ∷ f ∷ ts) (p ∷ s ∷ ls) h =
    let below = records_at i ts ls (fewer i (length ts) h.0, fewer i (length ls) h.1) in
    (omega (arith, below.0), below.1 ∙ record_more d f ts p s ls i)
records_at i [] ls h = absurd (not-suc-le-zero h.0)
records_at i (d ∷ []) ls h = absurd (too_few i 1 h.0 (omega arith))
records_at i (d ∷ f ∷ ts) [] h = absurd (not-suc-le-zero h.1)
records_at i (d ∷ f ∷ ts) (p ∷ []) h = absurd (too_few i 1 h.1 (omega arith))

-- one turn more of `pack`
pub pack_next : (i : ℕ) (ts : List ℕ) (ls : List ℤ) (rs : List StampRecord) → Past i ts ls → i < length rs → over (take (i + 1) (records_in ts ls)) rs ≡ set (over (take i (records_in ts ls)) rs) i (record_at ts ls i)
pack_next i ts ls rs h k =
    over_next i (records_in ts ls) rs no_stamp (records_at i ts ls h).0 k ∙ ap (λ (r : StampRecord). set (over (take i (records_in ts ls)) rs) i r) (records_at i ts ls h).1

-- the first records are those of the columns' first numbers
pub records_take : (n : ℕ) (ts : List ℕ) (ls : List ℤ) → records_in (take (2 * n) ts) (take (2 * n) ls) ≡ take n (records_in ts ls)
unfolding records_in
records_take zero ts ls = refl
records_take (suc n) (d ∷ f ∷ ts) (p ∷ s ∷ ls) =
    ap (λ (k : ℕ). records_in (take k (d ∷ f ∷ ts)) (take k (p ∷ s ∷ ls))) (two_more n) ∙ ap (λ (l : List StampRecord). stamp_record d f p s ∷ l) (records_take n ts ls)
records_take (suc n) [] ls = ap (λ (k : ℕ). records_in (take k []) (take k ls)) (two_more n)
records_take (suc n) (d ∷ []) ls = ap (λ (k : ℕ). records_in (take k (d ∷ [])) (take k ls)) (two_more n)
records_take (suc n) (d ∷ f ∷ ts) [] = ap (λ (k : ℕ). records_in (take k (d ∷ f ∷ ts)) (take k [])) (two_more n)
records_take (suc n) (d ∷ f ∷ ts) (p ∷ []) = ap (λ (k : ℕ). records_in (take k (d ∷ f ∷ ts)) (take k (p ∷ []))) (two_more n)

-- all records are those of half as many places, rounded down
pub records_all : (n : ℕ) (ts : List ℕ) (ls : List ℤ) → length ts ≤ 2 * n + 1 → take n (records_in ts ls) ≡ records_in ts ls
unfolding records_in
records_all zero [] ls h = refl
records_all zero (d ∷ []) ls h = refl
records_all zero (d ∷ f ∷ ts) ls h = absurd (above (length ts) h)
  where
    above : (m : ℕ) → suc (suc m) ≤ 2 * 0 + 1 → ⊥
    above m h = omega arith
records_all (suc n) (d ∷ f ∷ ts) (p ∷ s ∷ ls) h = ap (λ (l : List StampRecord). stamp_record d f p s ∷ l) (records_all n ts ls (without (length ts) h))
  where
    without : (m : ℕ) → suc (suc m) ≤ 2 * suc n + 1 → m ≤ 2 * n + 1
    without m h = omega arith
records_all (suc n) [] ls h = refl
records_all (suc n) (d ∷ []) ls h = refl
records_all (suc n) (d ∷ f ∷ ts) [] h = refl
records_all (suc n) (d ∷ f ∷ ts) (p ∷ []) h = refl

-- the columns of records hold these records
pub records_own : (rs : List StampRecord) → records_in (times_in rs) (links_in rs) ≡ rs
unfolding records_in pairs_in
records_own [] = refl
records_own (r ∷ rs) = ap (λ (l : List StampRecord). r ∷ l) (records_own rs)

-- so that a slice whose own columns are put back is as it was
pub packed_own : (rs : List StampRecord) → packed (times_of rs) (links_of rs) rs ≡ rs
packed_own rs = ap (λ (l : List StampRecord). over l rs) (records_own (take 2048 rs)) ∙ over_own 2048 rs

none : (n : ℕ) → suc n ≡ 0 → ⊥
none n h = omega arith

some : (k n : ℕ) → n ≡ 2 * suc k → n ≤ 1 → ⊥
some k n h l = omega arith

-- and columns of as many records as a slice has, put into it, are its columns
pub columns_records : (k : ℕ) (ts : List ℕ) (ls : List ℤ) → length ts ≡ 2 * k → length ls ≡ 2 * k → (times_in (records_in ts ls) ≡ ts) × (links_in (records_in ts ls) ≡ ls) × (length (records_in ts ls) ≡ k)
unfolding records_in pairs_in
columns_records zero [] [] h g = (refl, refl, refl)
columns_records (suc k) (d ∷ f ∷ ts) (p ∷ s ∷ ls) h g =
    let below = columns_records k ts ls (without (length ts) h) (without (length ls) g) in
    (ap (λ (l : List ℕ). d ∷ f ∷ l) below.0, ap (λ (l : List ℤ). p ∷ s ∷ l) below.1, ap suc below.2)
  where
    without : (n : ℕ) → suc (suc n) ≡ 2 * suc k → n ≡ 2 * k
    without n h = omega arith
columns_records zero (d ∷ ts) ls h g = absurd (none (length ts) h)
columns_records zero [] (p ∷ ls) h g = absurd (none (length ls) g)
columns_records (suc k) [] ls h g = absurd (some k 0 h (omega arith))
columns_records (suc k) (d ∷ []) ls h g = absurd (some k 1 h (omega arith))
columns_records (suc k) (d ∷ f ∷ ts) [] h g = absurd (some k 0 g (omega arith))
columns_records (suc k) (d ∷ f ∷ ts) (p ∷ []) h g = absurd (some k 1 g (omega arith))

take_over : {A : Type 0} (n : ℕ) (xs ys : List A) → length xs ≡ length (take n ys) → take n (over xs ys) ≡ xs
unfolding over
take_over zero [] ys e = refl
take_over zero (x ∷ xs) ys e = absurd (none (length xs) e)
take_over (suc n) [] [] e = refl
take_over (suc n) [] (y ∷ ys) e = absurd (none (length (take n ys)) (sym e))
take_over (suc n) (x ∷ xs) [] e = absurd (none (length xs) e)
take_over {A} (suc n) (x ∷ xs) (y ∷ ys) e = ap (λ (l : List A). x ∷ l) (take_over n xs ys (pred (length xs) (length (take n ys)) e))
  where
    pred : (a b : ℕ) → suc a ≡ suc b → a ≡ b
    pred a b h = omega arith

pub columns_packed : (ts : List ℕ) (ls : List ℤ) (rs : List StampRecord) → length ts ≡ 2 * length (take 2048 rs) → length ls ≡ 2 * length (take 2048 rs) → (times_of (packed ts ls rs) ≡ ts) × (links_of (packed ts ls rs) ≡ ls)
columns_packed ts ls rs h g =
    let own = columns_records (length (take 2048 rs)) ts ls h g in
    let first = take_over 2048 (records_in ts ls) rs own.2 in
    (ap times_in first ∙ own.0, ap links_in first ∙ own.1)

-- what is laid over a list leaves its later places
pub over_past : {A : Type 0} (n : ℕ) (xs ys : List A) → length xs ≤ n → drop n (over xs ys) ≡ drop n ys
unfolding over
over_past n [] ys h = refl
over_past zero (x ∷ xs) ys h = absurd (not-suc-le-zero h)
over_past (suc n) (x ∷ xs) [] h = refl
over_past (suc n) (x ∷ xs) (y ∷ ys) h = over_past n xs ys (le_of_suc-le-suc h)
