-- Laws of a list without repeats: it is no longer, what holds of each literal still does, no literal stands twice, and a variable with both signs still has them. Assumes nothing.
use Prim.Native.Nat.{ℕ, zero, suc, ◌≤◌, ◌<◌}
use native.Mathlib.Omega.{arith}
use mathlib.Core.Path.{◌≡◌, refl, sym, ap, subst, ◌∙◌}
use mathlib.Core.Bool.{Bool, true, false, ◌||◌, false≢true}
use mathlib.Core.List.{List, [], ◌∷◌, ◌++◌, map}
use lib.ListN.{length, take, get_or}
use lib.Seq.{take-suc, take-length}
use lib.IntN.{ℤ, pos, neg_ℤ, nat_abs}
use Rattle.base.proofs.Booleans.{or_neither, neither_or}
use Rattle.literal.specs.Literals.{eq_z}
use Rattle.literal.specs.Clauses.{has, distinct_from, distinct, tautology}
use Rattle.literal.proofs.Signed.{eq_eq_z, ne_eq_z}
use Rattle.literal.proofs.Distinct.{from_sized, has_snoc, has_distinct, distinct_repeat, distinct_new, tautology_snoc, tautology_repeat}
use Rattle.repeats.specs.First.{EachOnce}

-- ---- length

pub distinct_short : (xs : List ℤ) → length (distinct xs) ≤ length xs
distinct_short xs = omega (arith, (from_sized [] xs).1)

pub distinct_none : (xs : List ℤ) → length (distinct xs) ≡ 0 → length xs ≡ 0
distinct_none [] e = refl
distinct_none (x ∷ xs) e = absurd (omega (arith, e, (from_sized (x ∷ []) xs).0))

-- ---- what holds of each literal

abbrev pub All : (ℤ → Type 0) → List ℤ → Type 0
All P [] = Unit {0}
All P (x ∷ xs) = P x × All P xs

all_snoc : (P : ℤ → Type 0) (xs : List ℤ) (x : ℤ) → All P xs → P x → All P (xs ++ (x ∷ []))
all_snoc P [] x A p = (p, tt)
all_snoc P (y ∷ xs) x A p = (A.0, all_snoc P xs x A.1 p)

from_all : (P : ℤ → Type 0) (kept xs : List ℤ) → All P kept → All P xs → All P (distinct_from kept xs)
from_all P kept [] K A = K
from_all P kept (x ∷ xs) K A = go (has x kept) refl (from_all P kept xs K A.1) (from_all P (kept ++ (x ∷ [])) xs (all_snoc P kept x K A.0) A.1)
  where
    go : (t : Bool) → has x kept ≡ t → All P (distinct_from kept xs) → All P (distinct_from (kept ++ (x ∷ [])) xs) → All P (distinct_from kept (x ∷ xs))
    go true e a b = rw (e, distinct_from) a
    go false e a b = rw (e, distinct_from) b

pub distinct_all : (P : ℤ → Type 0) (xs : List ℤ) → All P xs → All P (distinct xs)
distinct_all P xs A = from_all P [] xs tt A

pub all_at : (P : ℤ → Type 0) (xs : List ℤ) → All P xs → (k : ℕ) → k < length xs → P (get_or xs k (pos 0))
all_at P [] A k h = absurd (omega arith)
all_at P (x ∷ xs) A zero h = A.0
all_at P (x ∷ xs) A (suc k) h = all_at P xs A.1 k (omega arith)

-- by place
pub all_of : (P : ℤ → Type 0) (xs : List ℤ) → ((k : ℕ) → k < length xs → P (get_or xs k (pos 0))) → All P xs
all_of P [] h = tt
all_of P (x ∷ xs) h = (h 0 (omega arith), all_of P xs (λ k l. h (suc k) (omega arith)))

pub all_take : (P : ℤ → Type 0) (n : ℕ) (xs : List ℤ) → All P xs → All P (take n xs)
all_take P zero xs A = tt
all_take P (suc n) [] A = tt
all_take P (suc n) (x ∷ xs) A = (A.0, all_take P n xs A.1)

-- by place, through a function
pub all_map : (P : ℤ → Type 0) (f : ℤ → ℤ) (xs : List ℤ) → ((k : ℕ) → k < length xs → P (f (get_or xs k (pos 0)))) → All P (map f xs)
all_map P f [] h = tt
all_map P f (x ∷ xs) h = (h 0 (omega arith), all_map P f xs (λ k l. h (suc k) (omega arith)))

-- ---- no literal twice

once_snoc : (xs : List ℤ) (x : ℤ) → EachOnce xs → has x xs ≡ false → EachOnce (xs ++ (x ∷ []))
once_snoc [] x O e = (refl, tt)
once_snoc (y ∷ xs) x O e =
    let h = or_neither (eq_z y x) (has x xs) e in
    let turned : eq_z x y ≡ false = ne_eq_z x y (λ q. false≢true (sym h.0 ∙ eq_eq_z y x (sym q))) in
    (has_snoc y xs x ∙ neither_or (has y xs) (eq_z x y) O.0 turned, once_snoc xs x O.1 h.1)

from_once : (kept xs : List ℤ) → EachOnce kept → EachOnce (distinct_from kept xs)
from_once kept [] O = O
from_once kept (x ∷ xs) O = go (has x kept) refl (from_once kept xs O) (λ e. from_once (kept ++ (x ∷ [])) xs (once_snoc kept x O e))
  where
    go : (t : Bool) → has x kept ≡ t → EachOnce (distinct_from kept xs) → (has x kept ≡ false → EachOnce (distinct_from (kept ++ (x ∷ [])) xs)) → EachOnce (distinct_from kept (x ∷ xs))
    go true e a b = rw (e, distinct_from) a
    go false e a b = rw (e, distinct_from) (b e)

pub distinct_once : (xs : List ℤ) → EachOnce (distinct xs)
distinct_once xs = from_once [] xs tt

-- ---- literal by literal

-- what holds of the empty list, and of one literal more of xs, holds of xs
pub by_literals : (P : List ℤ → Type 0) (xs : List ℤ) → P [] → ((n : ℕ) → n < length xs → P (take n xs) → P (take n xs ++ (get_or xs n (pos 0) ∷ []))) → P xs
by_literals P xs none more = subst P (take-length xs) (upto (length xs) (omega arith))
  where
    upto : (n : ℕ) → n ≤ length xs → P (take n xs)
    upto zero h = none
    upto (suc n) h = rw (take-suc xs n (pos 0) (omega arith)) (more n (omega arith) (upto n (omega arith)))

-- ---- both signs

-- the removal changes nothing of whether some variable has both signs
pub tautology_distinct : (xs : List ℤ) → ((k : ℕ) → k < length xs → 0 < nat_abs (get_or xs k (pos 0))) → tautology (distinct xs) ≡ tautology xs
tautology_distinct xs above = by_literals (λ ys. tautology (distinct ys) ≡ tautology ys) xs refl step
  where
    step : (n : ℕ) → n < length xs → tautology (distinct (take n xs)) ≡ tautology (take n xs)
        → tautology (distinct (take n xs ++ (get_or xs n (pos 0) ∷ []))) ≡ tautology (take n xs ++ (get_or xs n (pos 0) ∷ []))
    step n lt e = go (has x ys) refl
      where
        ys : List ℤ
        ys = take n xs

        x : ℤ
        x = get_or xs n (pos 0)

        go : (t : Bool) → has x ys ≡ t → tautology (distinct (ys ++ (x ∷ []))) ≡ tautology (ys ++ (x ∷ []))
        go true t = ap tautology (distinct_repeat ys x t) ∙ e ∙ sym (tautology_repeat ys x (above n lt) t)
        go false t =
            ap tautology (distinct_new ys x t)
            ∙ tautology_snoc (distinct ys) x
            ∙ ap (λ (b : Bool). b || has (neg_ℤ x) (distinct ys)) e
            ∙ ap (λ (b : Bool). tautology ys || b) (has_distinct (neg_ℤ x) ys)
            ∙ sym (tautology_snoc ys x)
