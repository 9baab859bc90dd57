-- What the marks say after literals were marked: of each literal, whether it was among them; and taken back they are as before. Assumes nothing.
use Prim.Native.Nat.{ℕ, suc, ◌+◌, ◌-◌, ◌<◌}
use native.Mathlib.Omega.{arith}
use mathlib.Core.Path.{◌≡◌, refl, sym, ap, ◌∙◌}
use mathlib.Core.Bool.{Bool, true, false, ◌||◌}
use mathlib.Core.Logic.{⊎_elim}
use mathlib.Core.List.{List, [], ◌∷◌, ◌++◌}
use lib.Dec.{eqb}
use lib.ListN.{length, get_or, set, length-set, length-replicate}
use lib.Seq.{get_or-set_same, get_or-set_other, ext_get_or}
use lib.IntN.{ℤ, pos, negsuc, neg_ℤ, ◌+ℤ◌}
use mir.Syntax.{w32}
use mir.Val.{of_z, to_z}
use borrow.Author.Tests.{le-ltb, eq-eqb, ne_eqb, eqb-true}
use Rattle.base.specs.Decide.{same_or}
use Rattle.base.proofs.Booleans.{both_ways}
use Rattle.base.proofs.Lists.{get_d_zeros}
use Rattle.literal.specs.Literals.{Small, Literal, eq_z}
use Rattle.literal.specs.Clauses.{has}
use Rattle.literal.proofs.Signed.{back, abs_neg, eq_eq_z, eq_z_true}
use Rattle.repeats.specs.Marks.{mark_of, with_mark, no_marks}
use Rattle.repeats.proofs.Repeats.{All}

-- ---- the place of a mark

pub mark_plus : (x : ℤ) → Literal 1024 x → x +ℤ pos 1024 ≡ pos (mark_of x)
mark_plus (pos n) X = ap pos (let e : n + 1024 ≡ 1024 + n = omega arith in e)
mark_plus (negsuc n) X = rw (le-ltb 1024 (suc n) X.within) (ap pos (let e : 1024 - suc n ≡ 1023 - n = omega arith in e))

pub mark_below : (x : ℤ) → Literal 1024 x → mark_of x < 2049
mark_below (pos n) X = omega (arith, X.within)
mark_below (negsuc n) X = omega arith

-- a literal has a complement, is read back from a local as it was, and so is its complement
pub literal_small : {z : ℤ} → Literal 1024 z → Small z
literal_small Z = record { small = omega (arith, Z.within) }

pub literal_turned : {z : ℤ} → Literal 1024 z → Literal 1024 (neg_ℤ z)
literal_turned Z = record { above = rw abs_neg Z.above; within = rw abs_neg Z.within }

pub literal_read : {z : ℤ} → Literal 1024 z → to_z w32 (of_z w32 z) ≡ z
literal_read Z = back (literal_small Z)

pub other_read : {z r : ℤ} → Literal 1024 z → r ≡ neg_ℤ (to_z w32 (of_z w32 z)) → to_z w32 (of_z w32 r) ≡ neg_ℤ z
other_read Z e = ap (λ (y : ℤ). to_z w32 (of_z w32 y)) (e ∙ ap neg_ℤ (literal_read Z)) ∙ literal_read (literal_turned Z)

-- different literals have different places
mark_same : (x y : ℤ) → Literal 1024 x → Literal 1024 y → mark_of x ≡ mark_of y → x ≡ y
mark_same (pos a) (pos b) X Y e = ap pos (omega (arith, e))
mark_same (pos a) (negsuc b) X Y e = absurd (omega (arith, e))
mark_same (negsuc a) (pos b) X Y e = absurd (omega (arith, e))
mark_same (negsuc a) (negsuc b) X Y e = ap negsuc (omega (arith, e, X.within, Y.within))

-- ---- marks of a list

pub with_mark_length : (m : ℕ) (xs : List ℤ) (marks : List ℕ) → length (with_mark m xs marks) ≡ length marks
with_mark_length m [] marks = refl
with_mark_length m (x ∷ xs) marks = with_mark_length m xs (set marks (mark_of x) m) ∙ length-set marks (mark_of x) m

pub with_mark_snoc : (m : ℕ) (xs : List ℤ) (x : ℤ) (marks : List ℕ) → with_mark m (xs ++ (x ∷ [])) marks ≡ set (with_mark m xs marks) (mark_of x) m
with_mark_snoc m [] x marks = refl
with_mark_snoc m (y ∷ xs) x marks = with_mark_snoc m xs x (set marks (mark_of y) m)

-- a literal of the list has its mark at s
abbrev placed : ℕ → List ℤ → Bool
placed s [] = false
placed s (y ∷ ys) = eqb (mark_of y) s || placed s ys

placed_has : (x : ℤ) (xs : List ℤ) → Literal 1024 x → All (Literal 1024) xs → placed (mark_of x) xs ≡ has x xs
placed_has x [] X A = refl
placed_has x (y ∷ ys) X A =
    let one : eqb (mark_of y) (mark_of x) ≡ eq_z y x =
    both_ways _ _ (λ e. eq_eq_z y x (mark_same y x A.0 X (eqb-true _ _ e))) (λ e. eq-eqb _ _ (ap mark_of (eq_z_true y x e))) in
    (λ i. one i || placed_has x ys X A.1 i)

-- the mark at a place: m if a literal of the list has it, and what it was if not
abbrev mark_by : Bool → ℕ → ℕ → ℕ
mark_by true m old = m
mark_by false m old = old

-- a literal of at most 1,024 variables has a mark
pub mark_inside : {x : ℤ} (marks : List ℕ) → Literal 1024 x → length marks ≡ 2049 → mark_of x < length marks
mark_inside {x} marks X e = omega (arith, mark_below x X, e)

with_mark_at : (m s : ℕ) (xs : List ℤ) (marks : List ℕ) → All (Literal 1024) xs → length marks ≡ 2049 → get_or (with_mark m xs marks) s 0 ≡ mark_by (placed s xs) m (get_or marks s 0)
with_mark_at m s [] marks A e = refl
with_mark_at m s (y ∷ ys) marks A e =
    with_mark_at m s ys (set marks (mark_of y) m) A.1 (length-set marks (mark_of y) m ∙ e)
    ∙ ⊎_elim
    (λ (q : mark_of y ≡ s).
    let here : get_or (set marks (mark_of y) m) s 0 ≡ m = ap (λ (j : ℕ). get_or (set marks (mark_of y) m) j 0) (sym q) ∙ get_or-set_same marks (mark_of y) m 0 (mark_inside marks A.0 e) in
    ap (mark_by (placed s ys) m) here ∙ already (placed s ys) ∙ ap (λ (b : Bool). mark_by (b || placed s ys) m (get_or marks s 0)) (sym (eq-eqb (mark_of y) s q)))
    (λ (d : mark_of y ≡ s → ⊥).
    let beside : get_or (set marks (mark_of y) m) s 0 ≡ get_or marks s 0 = get_or-set_other marks (mark_of y) s m 0 (λ q. d (sym q)) in
    ap (mark_by (placed s ys) m) beside ∙ ap (λ (b : Bool). mark_by (b || placed s ys) m (get_or marks s 0)) (sym (ne_eqb (mark_of y) s d)))
    (same_or (mark_of y) s)
  where
    already : (b : Bool) → mark_by b m m ≡ m
    already true = refl
    already false = refl

-- ---- the marks of a clause, on marks that were 0

module _ (xs : List ℤ) (A : All (Literal 1024) xs) where
  mark_is : (x : ℤ) → Literal 1024 x → get_or (with_mark 1 xs no_marks) (mark_of x) 0 ≡ mark_by (has x xs) 1 0
  mark_is x X =
      with_mark_at 1 (mark_of x) xs no_marks A (length-replicate {A = ℕ} 2049 0)
      ∙ ap (mark_by (placed (mark_of x) xs) 1) (get_d_zeros 2049 (mark_of x))
      ∙ ap (λ (b : Bool). mark_by b 1 0) (placed_has x xs X A)

  pub unmarked_absent : (x : ℤ) → Literal 1024 x → get_or (with_mark 1 xs no_marks) (mark_of x) 0 ≡ 0 → has x xs ≡ false
  unmarked_absent x X e = go (has x xs) (sym (mark_is x X) ∙ e)
    where
      go : (b : Bool) → mark_by b 1 0 ≡ 0 → b ≡ false
      go true q = absurd (omega (arith, q))
      go false q = refl

  pub marked_there : (x : ℤ) → Literal 1024 x → (get_or (with_mark 1 xs no_marks) (mark_of x) 0 ≡ 0 → ⊥) → has x xs ≡ true
  marked_there x X d = go (has x xs) (λ q. d (mark_is x X ∙ q))
    where
      go : (b : Bool) → (mark_by b 1 0 ≡ 0 → ⊥) → b ≡ true
      go true n = refl
      go false n = absurd (n refl)

  pub mark_tested : (x : ℤ) → Literal 1024 x → eqb (get_or (with_mark 1 xs no_marks) (mark_of x) 0) 1 ≡ has x xs
  mark_tested x X = ap (λ (m : ℕ). eqb m 1) (mark_is x X) ∙ go (has x xs)
    where
      go : (b : Bool) → eqb (mark_by b 1 0) 1 ≡ b
      go true = refl
      go false = refl

  -- taken back, no mark is left
  pub marks_back : with_mark 0 xs (with_mark 1 xs no_marks) ≡ no_marks
  marks_back =
      ext_get_or 0 (with_mark 0 xs (with_mark 1 xs no_marks)) no_marks
      (with_mark_length 0 xs (with_mark 1 xs no_marks) ∙ with_mark_length 1 xs no_marks)
      (λ i lt.
      with_mark_at 0 i xs (with_mark 1 xs no_marks) A (with_mark_length 1 xs no_marks ∙ length-replicate {A = ℕ} 2049 0)
      ∙ ap (mark_by (placed i xs) 0) (with_mark_at 1 i xs no_marks A (length-replicate {A = ℕ} 2049 0) ∙ ap (mark_by (placed i xs) 1) (get_d_zeros 2049 i))
      ∙ gone (placed i xs)
      ∙ sym (get_d_zeros 2049 i))
    where
      gone : (b : Bool) → mark_by b 0 (mark_by b 1 0) ≡ 0
      gone true = refl
      gone false = refl
