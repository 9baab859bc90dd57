-- Clauses with no repeat and no v, -v: what makes a clause so, and that `distinct` does. Assumes nothing.
use Prim.Native.Nat.{ℕ, zero, suc, ◌+◌, ◌≤◌, ◌<◌}
use native.Mathlib.Omega.{arith}
use mathlib.Core.Path.{◌≡◌, refl, sym, ap, ◌∙◌, subst}
use mathlib.Core.Bool.{Bool, true, false, false≢true}
use mathlib.Core.List.{List, [], ◌∷◌, ◌++◌, append_assoc, append-nil}
use lib.ListN.{length, get_or, take, drop}
use lib.Seq.{drop-cons}
use lib.IntN.{ℤ, pos, neg_ℤ, nat_abs}
use Rattle.base.proofs.Booleans.{or_left, or_right, neither_or}
use Rattle.literal.specs.Literals.{eq_z}
use Rattle.literal.specs.Clauses.{has, distinct_from, distinct, tautology}
use Rattle.literal.proofs.Signed.{abs_neg, eq_eq_z, ne_eq_z}
use Rattle.roundtrip.specs.Plain.{Plain}

-- ---- the order of a test does not matter
eq_z_flip : (x y : ℤ) → eq_z x y ≡ false → eq_z y x ≡ false
eq_z_flip x y e = ne_eq_z y x (λ q. false≢true (sym e ∙ eq_eq_z x y (sym q)))

-- ---- no literal of a list is l
has_front : (l : ℤ) (xs ys : List ℤ) → has l (xs ++ ys) ≡ false → has l xs ≡ false
has_front l [] ys e = refl
has_front l (x ∷ xs) ys e = neither_or (eq_z x l) (has l xs) (or_left (eq_z x l) (has l (xs ++ ys)) e) (has_front l xs ys (or_right (eq_z x l) (has l (xs ++ ys)) e))

has_back : (l : ℤ) (xs ys : List ℤ) → has l (xs ++ ys) ≡ false → has l ys ≡ false
has_back l [] ys e = e
has_back l (x ∷ xs) ys e = has_back l xs ys (or_right (eq_z x l) (has l (xs ++ ys)) e)

has_neither : (l : ℤ) (xs ys : List ℤ) → has l xs ≡ false → has l ys ≡ false → has l (xs ++ ys) ≡ false
has_neither l [] ys a b = b
has_neither l (x ∷ xs) ys a b = neither_or (eq_z x l) (has l (xs ++ ys)) (or_left (eq_z x l) (has l xs) a) (has_neither l xs ys (or_right (eq_z x l) (has l xs) a) b)

-- ---- no repeat
NoRepeat : List ℤ → Type 0
NoRepeat [] = Unit
NoRepeat (x ∷ xs) = (has x xs ≡ false) × NoRepeat xs

-- what stands behind is not in front
not_before : (kept xs : List ℤ) (x : ℤ) → NoRepeat (kept ++ (x ∷ xs)) → has x kept ≡ false
unfolding NoRepeat
not_before [] xs x n = refl
not_before (y ∷ ys) xs x n =
    neither_or (eq_z y x) (has x ys) (eq_z_flip x y (or_left (eq_z x y) (has y xs) (has_back y ys (x ∷ xs) n.0))) (not_before ys xs x n.1)

distinct_kept : (kept xs : List ℤ) → NoRepeat (kept ++ xs) → distinct_from kept xs ≡ kept ++ xs
distinct_kept kept [] n = sym (append-nil kept)
distinct_kept kept (x ∷ xs) n =
    let e : has x kept ≡ false = not_before kept xs x n in
    let a : kept ++ (x ∷ []) ++ xs ≡ kept ++ (x ∷ xs) = append_assoc kept (x ∷ []) xs in
    rw (e, distinct_from) (distinct_kept (kept ++ (x ∷ [])) xs (subst NoRepeat (sym a) n) ∙ a)

snoc_no_repeat : (kept : List ℤ) (x : ℤ) → NoRepeat kept → has x kept ≡ false → NoRepeat (kept ++ (x ∷ []))
unfolding NoRepeat
snoc_no_repeat [] x n e = (refl, tt)
snoc_no_repeat (y ∷ ys) x n e = (
  has_neither y ys (x ∷ []) n.0 (neither_or (eq_z x y) false (eq_z_flip y x (or_left (eq_z y x) (has x ys) e)) refl),
  snoc_no_repeat ys x n.1 (or_right (eq_z y x) (has x ys) e),
)

distinct_no_repeat : (kept xs : List ℤ) → NoRepeat kept → NoRepeat (distinct_from kept xs)
distinct_no_repeat kept [] n = n
distinct_no_repeat kept (x ∷ xs) n = go (has x kept) refl (distinct_no_repeat kept xs n) (λ m. distinct_no_repeat (kept ++ (x ∷ [])) xs m)
  where
    go : (b : Bool) → has x kept ≡ b → NoRepeat (distinct_from kept xs) → (NoRepeat (kept ++ (x ∷ [])) → NoRepeat (distinct_from (kept ++ (x ∷ [])) xs)) → NoRepeat (distinct_from kept (x ∷ xs))
    go true e a b = rw (e, distinct_from) a
    go false e a b = rw (e, distinct_from) (b (snoc_no_repeat kept x n e))

-- ---- no v with -v: fewer literals have none either
consistent_without : (kept xs : List ℤ) (x : ℤ) → tautology (kept ++ (x ∷ xs)) ≡ false → tautology (kept ++ xs) ≡ false
consistent_without [] xs x e = or_right (has (neg_ℤ x) xs) (tautology xs) e
consistent_without (y ∷ ys) xs x e =
    let h : has (neg_ℤ y) (ys ++ (x ∷ xs)) ≡ false = or_left (has (neg_ℤ y) (ys ++ (x ∷ xs))) (tautology (ys ++ (x ∷ xs))) e in
    let b : has (neg_ℤ y) (x ∷ xs) ≡ false = has_back (neg_ℤ y) ys (x ∷ xs) h in
    neither_or (has (neg_ℤ y) (ys ++ xs)) (tautology (ys ++ xs)) (has_neither (neg_ℤ y) ys xs (has_front (neg_ℤ y) ys (x ∷ xs) h) (or_right (eq_z x (neg_ℤ y)) (has (neg_ℤ y) xs) b))
    (consistent_without ys xs x (or_right (has (neg_ℤ y) (ys ++ (x ∷ xs))) (tautology (ys ++ (x ∷ xs))) e))

consistent_distinct : (kept xs : List ℤ) → tautology (kept ++ xs) ≡ false → tautology (distinct_from kept xs) ≡ false
consistent_distinct kept [] e = rw append-nil at e
consistent_distinct kept (x ∷ xs) e = go (has x kept) refl (consistent_distinct kept xs) (consistent_distinct (kept ++ (x ∷ [])) xs)
  where
    go : (b : Bool) → has x kept ≡ b → (tautology (kept ++ xs) ≡ false → tautology (distinct_from kept xs) ≡ false)
        → (tautology (kept ++ (x ∷ []) ++ xs) ≡ false → tautology (distinct_from (kept ++ (x ∷ [])) xs) ≡ false) → tautology (distinct_from kept (x ∷ xs)) ≡ false
    go true t a b = rw (t, distinct_from) (a (consistent_without kept xs x e))
    go false t a b = rw (t, distinct_from) (b (ap tautology (append_assoc kept (x ∷ []) xs) ∙ e))

pub distinct_plain : (c : List ℤ) → tautology c ≡ false → Plain (distinct c)
unfolding NoRepeat
distinct_plain c e = record {
  once = distinct_kept [] (distinct c) (distinct_no_repeat [] c tt);
  consistent = consistent_distinct [] c e;
}

-- ---- no variable twice

-- no literal is of variable w
unfoldable pub Without : ℕ → List ℤ → Type 0
Without w [] = Unit
Without w (x ∷ xs) = (nat_abs x ≡ w → ⊥) × Without w xs

unfoldable pub Varied : List ℤ → Type 0
Varied [] = Unit
Varied (x ∷ xs) = Without (nat_abs x) xs × Varied xs

without_has : (l : ℤ) (w : ℕ) (xs : List ℤ) → nat_abs l ≡ w → Without w xs → has l xs ≡ false
unfolding Without
without_has l w [] e n = refl
without_has l w (x ∷ xs) e n = neither_or (eq_z x l) (has l xs) (ne_eq_z x l (λ q. n.0 (ap nat_abs q ∙ e))) (without_has l w xs e n.1)

varied_no_repeat : (c : List ℤ) → Varied c → NoRepeat c
unfolding Varied NoRepeat
varied_no_repeat [] v = tt
varied_no_repeat (x ∷ xs) v = (without_has x (nat_abs x) xs refl v.0, varied_no_repeat xs v.1)

varied_consistent : (c : List ℤ) → Varied c → tautology c ≡ false
unfolding Varied
varied_consistent [] v = refl
varied_consistent (x ∷ xs) v = neither_or (has (neg_ℤ x) xs) (tautology xs) (without_has (neg_ℤ x) (nat_abs x) xs (abs_neg x) v.0) (varied_consistent xs v.1)

pub varied_plain : (c : List ℤ) → Varied c → Plain c
varied_plain c v = record { once = distinct_kept [] c (varied_no_repeat c v); consistent = varied_consistent c v }

pub varied_one : (a : ℤ) → Varied (a ∷ [])
unfolding Varied Without
varied_one a = (tt, tt)

pub varied_two : (a b : ℤ) → (nat_abs b ≡ nat_abs a → ⊥) → Varied (a ∷ b ∷ [])
unfolding Varied Without
varied_two a b n = ((n, tt), (tt, tt))

-- ---- a part of the literal table
without_part : (ls : List ℤ) (w m start : ℕ) → start + m ≤ length ls → ((k : ℕ) → k < m → nat_abs (get_or ls (start + k) (pos 0)) ≡ w → ⊥) → Without w (take m (drop start ls))
unfolding Without
without_part ls w zero start h n = tt
without_part ls w (suc m) start h n =
    let z : start + 0 ≡ start = omega arith in
    rw (drop-cons ls start (pos 0) (omega arith)) (
      rw z at (n 0 (omega arith)),
      without_part ls w m (suc start) (omega arith) (λ k l. let e : start + suc k ≡ suc start + k = omega arith in rw e at (n (suc k) (omega arith))),
    )

pub varied_part : (ls : List ℤ) (m start : ℕ) → start + m ≤ length ls
    → ((k : ℕ) → k < m → (j : ℕ) → j < k → nat_abs (get_or ls (start + j) (pos 0)) ≡ nat_abs (get_or ls (start + k) (pos 0)) → ⊥) → Varied (take m (drop start ls))
unfolding Varied
varied_part ls zero start h n = tt
varied_part ls (suc m) start h n =
    let z : start + 0 ≡ start = omega arith in
    rw (drop-cons ls start (pos 0) (omega arith)) (
      without_part ls (nat_abs (get_or ls start (pos 0))) m (suc start) (omega arith)
          (λ k l e. let q : start + suc k ≡ suc start + k = omega arith in n (suc k) (omega arith) 0 (omega arith) (rw (z, q) (sym e))),
      varied_part ls m (suc start) (omega arith)
          (λ k l j lj e. let p : start + suc j ≡ suc start + j = omega arith in let q : start + suc k ≡ suc start + k = omega arith in n (suc k) (omega arith) (suc j) (omega arith) (rw (p, q) e)),
    )
