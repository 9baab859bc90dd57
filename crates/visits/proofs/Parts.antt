-- A part of the literal table that now holds C with 0 behind: what stands in it, and that every other place is as it was. Assumes nothing.
use Prim.Native.Nat.{ℕ, ◌+◌, ◌-◌, ◌≤◌, ◌<◌}
use native.Mathlib.Omega.{arith}
use mathlib.Core.Path.{◌≡◌, sym, ap, ◌∙◌}
use mathlib.Core.List.{List, ◌++◌}
use mathlib.Core.Logic.{◌⊎◌, ⊎_elim}
use lib.ListN.{length, take, drop, get_or, replicate, length-append, length-drop, length-replicate, get_or-append}
use lib.Seq.{length-take-le, get_or-take, get_or-drop, get_or-append-add, ext_get_or}
use lib.IntN.{ℤ, pos}
use Rattle.tables.specs.Fates.{put_part}

-- the part itself: C with zeros behind, n places
abbrev pub padded : ℕ → List ℤ → List ℤ
padded n C = C ++ replicate (n - length C) (pos 0)

pub padded_length : (n : ℕ) (C : List ℤ) → length C ≤ n → length (padded n C) ≡ n
padded_length n C h = simp (length-append, length-replicate) (omega arith)

module _ (s n : ℕ) (C l : List ℤ) (inside : s + n ≤ length l) (fits : length C ≤ n) where
  front : length (take s l) ≡ s
  front = length-take-le s l (omega arith)

  pub put_length : length (put_part s n C l) ≡ length l
  put_length = simp (length-append, length-drop, length-replicate) (omega (arith, front))

  -- a place before the part
  pub put_before : (p : ℕ) → p < s → get_or (put_part s n C l) p (pos 0) ≡ get_or l p (pos 0)
  put_before p h = get_or-append (take s l) (padded n C ++ drop (s + n) l) (pos 0) p (omega (arith, front)) ∙ get_or-take s l p (pos 0) h

  -- a place in the part
  pub put_inside : (k : ℕ) → k < n → get_or (put_part s n C l) (s + k) (pos 0) ≡ get_or (padded n C) k (pos 0)
  put_inside k h =
      ap (λ (x : ℕ). get_or (put_part s n C l) (x + k) (pos 0)) (sym front)
      ∙ get_or-append-add (take s l) (padded n C ++ drop (s + n) l) k (pos 0)
      ∙ get_or-append (padded n C) (drop (s + n) l) (pos 0) k (omega (arith, padded_length n C fits))

  -- a place behind the part
  pub put_behind : (p : ℕ) → s + n ≤ p → get_or (put_part s n C l) p (pos 0) ≡ get_or l p (pos 0)
  put_behind p h =
      let k : ℕ = p - (s + n) in
      let e : p ≡ s + (n + k) = omega arith in
      ap (λ (x : ℕ). get_or (put_part s n C l) x (pos 0)) e
      ∙ ap (λ (x : ℕ). get_or (put_part s n C l) (x + (n + k)) (pos 0)) (sym front)
      ∙ get_or-append-add (take s l) (padded n C ++ drop (s + n) l) (n + k) (pos 0)
      ∙ ap (λ (x : ℕ). get_or (padded n C ++ drop (s + n) l) (x + k) (pos 0)) (sym (padded_length n C fits))
      ∙ get_or-append-add (padded n C) (drop (s + n) l) k (pos 0)
      ∙ get_or-drop (s + n) l k (pos 0)
      ∙ ap (λ (x : ℕ). get_or l x (pos 0)) (let q : s + n + k ≡ p = omega arith in q)

  -- C's literals, by place
  pub put_at : (k : ℕ) → k < length C → get_or (put_part s n C l) (s + k) (pos 0) ≡ get_or C k (pos 0)
  put_at k h = put_inside k (omega arith) ∙ get_or-append C (replicate (n - length C) (pos 0)) (pos 0) k h

  -- the view of the part is C
  pub put_view : take (length C) (drop s (put_part s n C l)) ≡ C
  put_view =
      ext_get_or (pos 0) (take (length C) (drop s (put_part s n C l))) C len
      (λ k h. get_or-take (length C) (drop s (put_part s n C l)) k (pos 0) (omega (arith, len)) ∙ get_or-drop s (put_part s n C l) k (pos 0) ∙ put_at k (omega (arith, len)))
    where
      len : length (take (length C) (drop s (put_part s n C l))) ≡ length C
      len = length-take-le (length C) (drop s (put_part s n C l)) (omega (arith, length-drop s (put_part s n C l), put_length))

  -- another part's view is as it was
  pub put_other : (a m : ℕ) → a + m ≤ length l → ((k : ℕ) → k < m → (a + k < s) ⊎ (s + n ≤ a + k)) → take m (drop a (put_part s n C l)) ≡ take m (drop a l)
  put_other a m within apart =
      ext_get_or (pos 0) (take m (drop a (put_part s n C l))) (take m (drop a l)) (len ∙ sym len₀)
      (λ k h.
      let lt : k < m = omega (arith, len) in
      get_or-take m (drop a (put_part s n C l)) k (pos 0) lt
      ∙ get_or-drop a (put_part s n C l) k (pos 0)
      ∙ ⊎_elim (λ (b : a + k < s). put_before (a + k) b) (λ (b : s + n ≤ a + k). put_behind (a + k) b) (apart k lt)
      ∙ sym (get_or-take m (drop a l) k (pos 0) lt ∙ get_or-drop a l k (pos 0)))
    where
      len : length (take m (drop a (put_part s n C l))) ≡ m
      len = length-take-le m (drop a (put_part s n C l)) (omega (arith, length-drop a (put_part s n C l), put_length))

      len₀ : length (take m (drop a l)) ≡ m
      len₀ = length-take-le m (drop a l) (omega (arith, length-drop a l))
