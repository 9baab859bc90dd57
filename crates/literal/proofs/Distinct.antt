-- One literal more in a clause: what is kept of it, whether it has v and −v, what stands in it. Assumes nothing.
use mathlib.Core.Path.{◌≡◌, refl, sym, ap, ◌∙◌}
use mathlib.Core.Bool.{Bool, true, false, ◌||◌, or-true, or-false, or_assoc}
use mathlib.Core.List.{List, [], ◌∷◌, ◌++◌}
use Prim.Native.Nat.{ℕ, zero, suc, ◌+◌, ◌≤◌, ◌<◌}
use native.Mathlib.Omega.{arith}
use lib.Dec.{eqb}
use lib.ListN.{length, get_or, length-append}
use lib.IntN.{ℤ, pos, neg_ℤ, nat_abs, neg_ℤ-neg_ℤ}
use borrow.Author.Tests.{ne_eqb}
use Rattle.base.proofs.Booleans.{both_ways}
use Rattle.literal.specs.Literals.{eq_z}
use Rattle.literal.specs.Clauses.{has, distinct_from, distinct, tautology}
use Rattle.literal.proofs.Signed.{eq_eq_z, eq_z_true}
use Rattle.literal.proofs.Laws.{not_own_complement}

or_swap : (a e t h : Bool) → ((a || e) || (t || h)) ≡ ((a || t) || (e || h))
or_swap true e t h = refl
or_swap false true true h = refl
or_swap false true false h = refl
or_swap false false true h = refl
or_swap false false false h = refl

-- ---- literals

eq_z_neg : (x y : ℤ) → eq_z x (neg_ℤ y) ≡ eq_z y (neg_ℤ x)
eq_z_neg x y = both_ways _ _ (turn x y) (turn y x)
  where
    turn : (x y : ℤ) → eq_z x (neg_ℤ y) ≡ true → eq_z y (neg_ℤ x) ≡ true
    turn x y e = eq_eq_z y (neg_ℤ x) (sym (neg_ℤ-neg_ℤ y) ∙ ap neg_ℤ (sym (eq_z_true x (neg_ℤ y) e)))

-- ---- one literal more
pub has_snoc : (l : ℤ) (xs : List ℤ) (x : ℤ) → has l (xs ++ (x ∷ [])) ≡ (has l xs || eq_z x l)
has_snoc l [] x = or-false (eq_z x l)
has_snoc l (y ∷ xs) x = ap (λ (t : Bool). eq_z y l || t) (has_snoc l xs x) ∙ sym (or_assoc (eq_z y l) (has l xs) (eq_z x l))

pub tautology_snoc : (xs : List ℤ) (x : ℤ) → tautology (xs ++ (x ∷ [])) ≡ (tautology xs || has (neg_ℤ x) xs)
tautology_snoc [] x = refl
tautology_snoc (y ∷ xs) x =
    rw (has_snoc (neg_ℤ y) xs x, tautology_snoc xs x, eq_z_neg x y) (or_swap (has (neg_ℤ y) xs) (eq_z y (neg_ℤ x)) (tautology xs) (has (neg_ℤ x) xs))

-- a literal by its place stands in the list
pub has_at : (l : ℤ) (xs : List ℤ) (j : ℕ) → j < length xs → get_or xs j (pos 0) ≡ l → has l xs ≡ true
has_at l [] j lt e = absurd (omega arith)
has_at l (x ∷ xs) zero lt e = ap (λ (b : Bool). b || has l xs) (eq_eq_z x l e)
has_at l (x ∷ xs) (suc j) lt e = ap (λ (b : Bool). eq_z x l || b) (has_at l xs j (omega arith) e) ∙ or-true (eq_z x l)

-- a list that has x and −x is a tautology
pub has_both : (x : ℤ) (xs : List ℤ) → 0 < nat_abs x → has x xs ≡ true → has (neg_ℤ x) xs ≡ true → tautology xs ≡ true
has_both x [] g h k = h
has_both x (y ∷ ys) g h k = go (eq_z y x) refl (eq_z y (neg_ℤ x)) refl (has_both x ys g)
  where
    go : (a : Bool) → eq_z y x ≡ a → (b : Bool) → eq_z y (neg_ℤ x) ≡ b → (has x ys ≡ true → has (neg_ℤ x) ys ≡ true → tautology ys ≡ true) → tautology (y ∷ ys) ≡ true
    go true a true b ih = absurd (not_own_complement x g (sym (eq_z_true y x a) ∙ eq_z_true y (neg_ℤ x) b))
    go true a false b ih = ap (λ (t : Bool). t || tautology ys) (ap (λ (z : ℤ). has (neg_ℤ z) ys) (eq_z_true y x a) ∙ (rw b at k))
    go false a true b ih =
        let e : neg_ℤ y ≡ x = ap neg_ℤ (eq_z_true y (neg_ℤ x) b) ∙ neg_ℤ-neg_ℤ x in
        ap (λ (t : Bool). t || tautology ys) (ap (λ (z : ℤ). has z ys) e ∙ (rw a at h))
    go false a false b ih = ap (λ (t : Bool). has (neg_ℤ y) ys || t) (ih (rw a at h) (rw b at k)) ∙ or-true (has (neg_ℤ y) ys)

-- a repeat changes nothing of that
pub tautology_repeat : (xs : List ℤ) (x : ℤ) → 0 < nat_abs x → has x xs ≡ true → tautology (xs ++ (x ∷ [])) ≡ tautology xs
tautology_repeat xs x g h = tautology_snoc xs x ∙ go (has (neg_ℤ x) xs) refl
  where
    go : (t : Bool) → has (neg_ℤ x) xs ≡ t → (tautology xs || has (neg_ℤ x) xs) ≡ tautology xs
    go true t = ap (λ (u : Bool). tautology xs || u) t ∙ or-true (tautology xs) ∙ sym (has_both x xs g h t)
    go false t = ap (λ (u : Bool). tautology xs || u) t ∙ or-false (tautology xs)

added : Bool → List ℤ → ℤ → List ℤ
added true kept x = kept
added false kept x = kept ++ (x ∷ [])

distinct_snoc : (kept xs : List ℤ) (x : ℤ) → distinct_from kept (xs ++ (x ∷ [])) ≡ added (has x (distinct_from kept xs)) (distinct_from kept xs) x
unfolding added
distinct_snoc kept [] x = go (has x kept) refl
  where
    go : (t : Bool) → has x kept ≡ t → distinct_from kept (x ∷ []) ≡ added (has x kept) kept x
    go true e = rw (e, distinct_from)
    go false e = rw (e, distinct_from)
distinct_snoc kept (y ∷ xs) x = go (has y kept) refl (distinct_snoc kept xs x) (distinct_snoc (kept ++ (y ∷ [])) xs x)
  where
    go : (t : Bool) → has y kept ≡ t
        → distinct_from kept (xs ++ (x ∷ [])) ≡ added (has x (distinct_from kept xs)) (distinct_from kept xs) x
        → distinct_from (kept ++ (y ∷ [])) (xs ++ (x ∷ [])) ≡ added (has x (distinct_from (kept ++ (y ∷ [])) xs)) (distinct_from (kept ++ (y ∷ [])) xs) x
        → distinct_from kept (y ∷ (xs ++ (x ∷ []))) ≡ added (has x (distinct_from kept (y ∷ xs))) (distinct_from kept (y ∷ xs)) x
    go true e a b = rw (e, distinct_from) a
    go false e a b = rw (e, distinct_from) b

has_from : (l : ℤ) (kept xs : List ℤ) → has l (distinct_from kept xs) ≡ (has l kept || has l xs)
has_from l kept [] = sym (or-false (has l kept))
has_from l kept (x ∷ xs) = go (has x kept) refl (eq_z x l) refl (has_from l kept xs) (has_from l (kept ++ (x ∷ [])) xs)
  where
    go : (t : Bool) → has x kept ≡ t → (u : Bool) → eq_z x l ≡ u → has l (distinct_from kept xs) ≡ (has l kept || has l xs)
        → has l (distinct_from (kept ++ (x ∷ [])) xs) ≡ (has l (kept ++ (x ∷ [])) || has l xs)
        → has l (distinct_from kept (x ∷ xs)) ≡ (has l kept || (eq_z x l || has l xs))
    go true e true u a b =
        let k : has l kept ≡ true = ap (λ (z : ℤ). has z kept) (sym (eq_z_true x l u)) ∙ e in
        rw (e, distinct_from) (a ∙ rw k)
    go true e false u a b = rw (e, distinct_from, u) a
    go false e t u a b = rw (e, distinct_from) (b ∙ ap (λ (z : Bool). z || has l xs) (has_snoc l kept x) ∙ or_assoc (has l kept) (eq_z x l) (has l xs))

pub has_distinct : (l : ℤ) (xs : List ℤ) → has l (distinct xs) ≡ has l xs
has_distinct l xs = has_from l [] xs

pub distinct_repeat : (xs : List ℤ) (x : ℤ) → has x xs ≡ true → distinct (xs ++ (x ∷ [])) ≡ distinct xs
unfolding added
distinct_repeat xs x e = distinct_snoc [] xs x ∙ rw (has_distinct x xs ∙ e)

pub distinct_new : (xs : List ℤ) (x : ℤ) → has x xs ≡ false → distinct (xs ++ (x ∷ [])) ≡ distinct xs ++ (x ∷ [])
unfolding added
distinct_new xs x e = distinct_snoc [] xs x ∙ rw (has_distinct x xs ∙ e)

-- ---- how many literals are kept

pub from_sized : (kept xs : List ℤ) → (length kept ≤ length (distinct_from kept xs)) × (length (distinct_from kept xs) ≤ length kept + length xs)
from_sized kept [] = (omega arith, omega arith)
from_sized kept (x ∷ xs) = go (has x kept) refl (from_sized kept xs) (from_sized (kept ++ (x ∷ [])) xs)
  where
    go : (t : Bool) → has x kept ≡ t → (length kept ≤ length (distinct_from kept xs)) × (length (distinct_from kept xs) ≤ length kept + length xs)
        → (length (kept ++ (x ∷ [])) ≤ length (distinct_from (kept ++ (x ∷ [])) xs)) × (length (distinct_from (kept ++ (x ∷ [])) xs) ≤ length (kept ++ (x ∷ [])) + length xs)
        → (length kept ≤ length (distinct_from kept (x ∷ xs))) × (length (distinct_from kept (x ∷ xs)) ≤ length kept + suc (length xs))
    go true e a b = rw (e, distinct_from) (a.0, omega (arith, a.1))
    go false e a b = rw (e, distinct_from) (omega (arith, b.0, length-append kept (x ∷ [])), omega (arith, b.1, length-append kept (x ∷ [])))

-- an empty clause is one of which nothing is kept
pub distinct_empty : (xs : List ℤ) → eqb (length (distinct xs)) 0 ≡ eqb (length xs) 0
distinct_empty [] = refl
distinct_empty (x ∷ xs) = ne_eqb (length (distinct (x ∷ xs))) 0 (λ e. omega (arith, e, (from_sized (x ∷ []) xs).0)) ∙ sym (ne_eqb (suc (length xs)) 0 (λ e. omega (arith, e)))
