-- The places of a window when a clause goes behind the others, and when the eldest leaves. Assumes nothing.
use Prim.Native.Nat.{ℕ, suc, ◌+◌, ◌*◌, ◌-◌, ◌≤◌, ◌<◌}
use native.Mathlib.Omega.{arith}
use mathlib.Core.Path.{◌≡◌, sym, ap, ◌∙◌}
use mathlib.Core.List.{List, ◌++◌}
use lib.ListN.{length, get_or, take, drop, replicate, length-append, length-set, length-replicate, get_or-append}
use lib.Seq.{sets, sets-eq, length-sets, get_or-take, get_or-append-add, get_or-set_same, get_or-set_other, length-take-le}
use lib.IntN.{ℤ, pos}
use Rattle.window.specs.Window.{Places, size_of, record_of, eldest_left, put}
use Rattle.window.specs.Rule.{LongWindow}
use Rattle.window.proofs.Moving.{moved_length, moved_low}

-- ---- numbers written over a table

module _ {A : Type 0} (d : A) (xs vs : List A) (at : ℕ) (room : at + length vs ≤ length xs) where
  front : length (take at xs) ≡ at
  front = length-take-le at xs (omega (arith, room))

  -- up to their end
  within : (k : ℕ) → k < at + length vs → get_or (sets xs at vs) k d ≡ get_or (take at xs ++ vs) k d
  within k h = ap (λ (l : List A). get_or l k d) (sets-eq vs xs at room) ∙ get_or-append (take at xs ++ vs) (drop (at + length vs) xs) d k (omega (arith, h, front, length-append (take at xs) vs))

  pub sets_before : (k : ℕ) → k < at → get_or (sets xs at vs) k d ≡ get_or xs k d
  sets_before k h = within k (omega (arith, h)) ∙ get_or-append (take at xs) vs d k (omega (arith, h, front)) ∙ get_or-take at xs k d h

  pub sets_in : (k : ℕ) → k < length vs → get_or (sets xs at vs) (at + k) d ≡ get_or vs k d
  sets_in k h = within (at + k) (omega (arith, h)) ∙ ap (λ (i : ℕ). get_or (take at xs ++ vs) (i + k) d) (sym front) ∙ get_or-append-add (take at xs) vs k d

-- a clause's record has 64 places, and the clause at their front
pub record_length : (C : List ℤ) → length C ≤ 64 → length (record_of C) ≡ 64
record_length C few = length-append C (replicate (64 - length C) (pos 0)) ∙ omega (arith, few, length-replicate {A = ℤ} (64 - length C) (pos 0))

record_at_lem : (C : List ℤ) (k : ℕ) → k < length C → get_or (record_of C) k (pos 0) ≡ get_or C k (pos 0)
record_at_lem C k h = get_or-append C (replicate (64 - length C) (pos 0)) (pos 0) k h

-- ---- a clause goes behind the others

module _ (C : List ℤ) (w : Places) (few : length C ≤ 64) (L : LongWindow w) (room : w.window.clauses < 64) where
  abbrev n : ℕ
  n = w.window.clauses

  fits : 64 * n + length (record_of C) ≤ length w.learnt
  fits = omega (arith, record_length C few, L.learnt, room)

  pub put_long : LongWindow (put C w)
  unfolding put
  put_long = record { sizes = omega (arith, length-set w.sizes n (length C), L.sizes); learnt = omega (arith, length-sets w.learnt (64 * n) (record_of C), L.learnt) }

  pub put_size : (k : ℕ) → k < n → size_of (put C w).sizes k ≡ size_of w.sizes k
  unfolding put
  put_size k h = get_or-set_other w.sizes n k (length C) 0 (λ e. omega (arith, h, e))

  pub put_size_last : size_of (put C w).sizes n ≡ length C
  unfolding put
  put_size_last = get_or-set_same w.sizes n (length C) 0 (omega (arith, L.sizes, room))

  pub put_place : (k : ℕ) → k < n → (j : ℕ) → j < 64 → get_or (put C w).learnt (64 * k + j) (pos 0) ≡ get_or w.learnt (64 * k + j) (pos 0)
  unfolding put
  put_place k h j hj = sets_before (pos 0) w.learnt (record_of C) (64 * n) fits (64 * k + j) (omega (arith, h, hj))

  pub put_place_last : (j : ℕ) → j < length C → get_or (put C w).learnt (64 * n + j) (pos 0) ≡ get_or C j (pos 0)
  unfolding put
  put_place_last j h = sets_in (pos 0) w.learnt (record_of C) (64 * n) fits j (omega (arith, h, few, record_length C few)) ∙ record_at_lem C j h

-- ---- the eldest leaves

module _ (w : Places) (L : LongWindow w) where
  pub left_long : LongWindow (eldest_left w)
  unfolding eldest_left
  left_long = record {
    sizes = omega (arith, moved_length 0 1 64 w.sizes (omega arith) L.sizes, L.sizes);
    learnt = omega (arith, moved_length (pos 0) 64 4096 w.learnt (omega arith) L.learnt, L.learnt);
  }

  pub left_size : (k : ℕ) → k < 63 → size_of (eldest_left w).sizes k ≡ size_of w.sizes (suc k)
  unfolding eldest_left
  left_size k h =
      let e : 1 + k ≡ suc k = omega arith in
      moved_low 0 1 64 w.sizes (omega arith) L.sizes k (omega (arith, h)) ∙ ap (λ (i : ℕ). get_or w.sizes i 0) e

  pub left_place : (k : ℕ) → k < 63 → (j : ℕ) → j < 64 → get_or (eldest_left w).learnt (64 * k + j) (pos 0) ≡ get_or w.learnt (64 * suc k + j) (pos 0)
  unfolding eldest_left
  left_place k h j hj =
      let e : 64 + (64 * k + j) ≡ 64 * suc k + j = omega arith in
      moved_low (pos 0) 64 4096 w.learnt (omega arith) L.learnt (64 * k + j) (omega (arith, h, hj)) ∙ ap (λ (i : ℕ). get_or w.learnt i (pos 0)) e
