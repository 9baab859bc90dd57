-- THE LAW: a clause that 11 does not forbid, kept in a window that keeps the rule, leaves one that does (`keep_ruled`). Assumes nothing.
use Prim.Native.Nat.{ℕ, zero, suc, ◌+◌, ◌*◌, ◌-◌, ◌≤◌, ◌<◌}
use native.Mathlib.Omega.{arith}
use mathlib.Core.Path.{◌≡◌, refl, sym, ap, subst, ◌∙◌}
use mathlib.Core.Bool.{Bool, true, false}
use mathlib.Core.Logic.{⊎_elim}
use mathlib.Core.List.{List}
use lib.ListN.{length, get_or}
use lib.Dec.{eqb}
use borrow.Author.Tests.{eqb-true, eqb-false}
use lib.IntN.{ℤ, pos, nat_abs}
use Rattle.base.specs.Decide.{same_or}
use Rattle.literal.specs.Literals.{Literal}
use Rattle.window.specs.Window.{Places, size_of, total_of, eldest_left, put, keep}
use Rattle.window.specs.Rule.{Learnable, Newcomer, WindowRule, Full, Room}
use Rattle.window.proofs.Checking.{total_step}
use Rattle.window.proofs.Places.{put_long, put_size, put_size_last, put_place, put_place_last, left_long, left_size, left_place}

-- a clause whose literals stand elsewhere
learnable_moved : {v : ℕ} {A B : List ℤ} {a b m n : ℕ} → Learnable v A a n → m ≡ n → ((k : ℕ) → k < n → get_or B (b + k) (pos 0) ≡ get_or A (a + k) (pos 0)) → Learnable v B b m
learnable_moved {v} {A} {B} {a} {b} {m} {n} L e same = subst (Learnable v B b) (sym e) (record {
  few = L.few;
  ranged = λ k h. subst (Literal v) (sym (same k h)) (L.ranged k h);
  once = λ k h j l q. L.once k h j l (sym (ap nat_abs (same j (omega (arith, h, l)))) ∙ q ∙ ap nat_abs (same k h));
})

-- ---- totals

total_same : (n : ℕ) (xs ys : List ℕ) → ((k : ℕ) → k < n → size_of xs k ≡ size_of ys k) → total_of n xs ≡ total_of n ys
unfolding total_of
total_same zero xs ys h = refl
total_same (suc n) xs ys h = λ i. total_same n xs ys (λ k l. h k (omega (arith, l))) i + h n (omega arith) i

-- without the first
total_less : (n : ℕ) (xs ys : List ℕ) → ((k : ℕ) → k < n → size_of ys k ≡ size_of xs (suc k)) → total_of (suc n) xs ≡ size_of xs 0 + total_of n ys
unfolding total_of
total_less zero xs ys h = omega arith
total_less (suc n) xs ys h = omega (arith, total_less n xs ys (λ k l. h k (omega (arith, l))), h n (omega arith))

-- each of n clauses has at most 64 literals
total_few : (n : ℕ) (xs : List ℕ) → ((k : ℕ) → k < n → size_of xs k ≤ 64) → total_of n xs ≤ 64 * n
unfolding total_of
total_few zero xs h = omega arith
total_few (suc n) xs h = omega (arith, total_few n xs (λ k l. h k (omega (arith, l))), h n (omega arith))

-- ---- what the rule leaves to the functions

pub rule_full : {v : ℕ} {w : Places} → WindowRule v w → w.window.clauses ≡ 64 → Full w
rule_full {v} {w} R e = record {
  long = R.long;
  some = omega (arith, e);
  counted = omega (arith, R.total, ap (λ (n : ℕ). total_of n w.sizes) e, total_less 63 w.sizes (eldest_left w).sizes (left_size w R.long));
}

pub rule_room : {v : ℕ} {w : Places} → WindowRule v w → w.window.clauses < 64 → Room w
rule_room {v} {w} R lt = record { long = R.long; some = lt; few = omega (arith, lt, R.total, total_few w.window.clauses w.sizes (λ k l. (R.each k l).few)) }

-- ---- the rule after a change

put_ruled : {v : ℕ} {C : List ℤ} {w : Places} → WindowRule v w → w.window.clauses < 64 → Newcomer v C → WindowRule v (put C w)
unfolding put
put_ruled {v} {C} {w} R lt N = record {
  long = put_long C w N.few R.long lt;
  few = omega (arith, lt);
  each = λ k h. ⊎_elim
      (λ (e : k ≡ w.window.clauses). subst (λ (i : ℕ). Learnable v (put C w).learnt (64 * i) (size_of (put C w).sizes i)) (sym e) last)
      (λ n. let l : k < w.window.clauses = omega (arith, h, n) in learnable_moved (R.each k l) (put_size C w N.few R.long lt k l) (λ j hj. put_place C w N.few R.long lt k l j (omega (arith, hj, (R.each k l).few))))
      (same_or k w.window.clauses);
  total = total;
}
  where
    last : Learnable v (put C w).learnt (64 * w.window.clauses) (size_of (put C w).sizes w.window.clauses)
    last = learnable_moved N (put_size_last C w N.few R.long lt) (λ j h. put_place_last C w N.few R.long lt j h ∙ ap (λ (i : ℕ). get_or C i (pos 0)) (let q : j ≡ 0 + j = omega arith in q))

    total : w.window.literals + length C ≡ total_of (w.window.clauses + 1) (put C w).sizes
    total = omega (arith, total_step w.window.clauses (put C w).sizes, R.total, put_size_last C w N.few R.long lt, total_same w.window.clauses (put C w).sizes w.sizes (put_size C w N.few R.long lt))

pub left_ruled : {v : ℕ} {w : Places} → WindowRule v w → w.window.clauses ≡ 64 → WindowRule v (eldest_left w)
unfolding eldest_left
left_ruled {v} {w} R e = record {
  long = left_long w R.long;
  few = omega (arith, e);
  each = λ k h. let l : k < 63 = omega (arith, h, e) in
      let r = R.each (suc k) (omega (arith, l, e)) in
      learnable_moved r (left_size w R.long k l) (λ j hj. left_place w R.long k l j (omega (arith, hj, r.few)));
  total = total;
}
  where
    n_is : w.window.clauses - 1 ≡ 63
    n_is = omega (arith, e)

    total : w.window.literals - size_of w.sizes 0 ≡ total_of (w.window.clauses - 1) (eldest_left w).sizes
    total = omega (arith, R.total, ap (λ (n : ℕ). total_of n w.sizes) e, ap (λ (n : ℕ). total_of n (eldest_left w).sizes) n_is, total_less 63 w.sizes (eldest_left w).sizes (left_size w R.long))

-- a window by whether it has 64 clauses
pub keep_cases : (C : List ℤ) (w : Places) (P : Places → Type 0) → (w.window.clauses ≡ 64 → P (put C (eldest_left w))) → ((w.window.clauses ≡ 64 → ⊥) → P (put C w)) → P (keep C w)
unfolding keep
keep_cases C w P full room = go (eqb w.window.clauses 64) refl
  where
    go : (b : Bool) → eqb w.window.clauses 64 ≡ b → P (elim b as (λ x. Places) [ true ↦ put C (eldest_left w) | false ↦ put C w ])
    go true e = full (eqb-true w.window.clauses 64 e)
    go false e = room (eqb-false w.window.clauses 64 e)

pub left_few : (w : Places) → w.window.clauses ≡ 64 → (eldest_left w).window.clauses < 64
unfolding eldest_left
left_few w e = omega (arith, e)

-- THE LAW
pub keep_ruled : {v : ℕ} {C : List ℤ} {w : Places} → WindowRule v w → Newcomer v C → WindowRule v (keep C w)
keep_ruled {v} {C} {w} R N = keep_cases C w (WindowRule v) (λ e. put_ruled (left_ruled R e) (left_few w e) N) (λ n. put_ruled R (omega (arith, R.few, n)) N)
