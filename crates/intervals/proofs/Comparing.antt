-- How two intervals lie, for any numbers.
--     one_answer                   exactly one of the five answers holds of two intervals, and it is the one given
--     compare_exchanged            the answer when the two change places
--     compare_contains, compare_wider, compare_begins_first    what the answers say together
-- Assumes nothing.
use Prim.Native.Nat.{◌≤◌, ◌<◌}
use native.Mathlib.Omega.{arith}
use mathlib.Core.Path.{◌≡◌, refl, sym, ap, subst}
use mathlib.Core.Bool.{Bool, true, false, not, ◌&&◌}
use mathlib.Core.Logic.{◌↔◌, ⊎_elim}
use lib.Dec.{leb, ltb, eqb}
use borrow.Author.Tests.{eqb-true, eq-eqb, leb-true, le-leb, ltb-true, ltb-false, lt-ltb, le-ltb}
use Rattle.base.specs.Decide.{same_or, le_or}
use Rattle.base.proofs.Booleans.{and_left, and_right, and_both, clash}
use Rattle.intervals.specs.declared.Interval.{Interval}
use Rattle.intervals.specs.declared.Relation.{Relation}
use Rattle.intervals.specs.declared.Relation.TheVariants.{Same, Holds, Held, Earlier, Later}
use Rattle.intervals.specs.Intervals.{same, encloses, compare, One, Encloses, Lies}
use Rattle.intervals.specs.Relations.{contains, wider, begins_first, exchanged}

-- ---- the tests are the relations

pub same_true : (a b : Interval) → same a b ≡ true → One a b
unfolding same
same_true a b h = (eqb-true a.begin b.begin (and_left _ _ h), eqb-true a.end b.end (and_right (eqb a.begin b.begin) _ h))

pub true_same : (a b : Interval) → One a b → same a b ≡ true
unfolding same
true_same a b h = and_both _ _ (eq-eqb a.begin b.begin h.0) (eq-eqb a.end b.end h.1)

pub encloses_true : (a b : Interval) → encloses a b ≡ true → Encloses a b
unfolding encloses
encloses_true a b h = (leb-true a.begin b.begin (and_left _ _ h), leb-true b.end a.end (and_right (leb a.begin b.begin) _ h))

pub true_encloses : (a b : Interval) → Encloses a b → encloses a b ≡ true
unfolding encloses
true_encloses a b h = and_both _ _ (le-leb a.begin b.begin h.0) (le-leb b.end a.end h.1)

not_same : (a b : Interval) → same a b ≡ false → One a b → ⊥
not_same a b h k = clash (true_same a b k) h

not_encloses : (a b : Interval) → encloses a b ≡ false → Encloses a b → ⊥
not_encloses a b h k = clash (true_encloses a b k) h

refuted : {P : Type 0} (x : Bool) → (x ≡ true → P) → (P → ⊥) → x ≡ false
refuted true h none = absurd (none (h refl))
refuted false h none = refl

same_false : (a b : Interval) → (One a b → ⊥) → same a b ≡ false
same_false a b = refuted (same a b) (same_true a b)

encloses_false : (a b : Interval) → (Encloses a b → ⊥) → encloses a b ≡ false
encloses_false a b = refuted (encloses a b) (encloses_true a b)

-- ---- the answer, by the tests

module _ (a b : Interval) where
  pub compare_same : same a b ≡ true → compare a b ≡ Same
  unfolding compare
  compare_same e = rw (e, compare)

  module _ (other : same a b ≡ false) where
    pub compare_holds : encloses a b ≡ true → compare a b ≡ Holds
    unfolding compare
    compare_holds e = rw (other, e, compare)

    module _ (outside : encloses a b ≡ false) where
      pub compare_held : encloses b a ≡ true → compare a b ≡ Held
      unfolding compare
      compare_held e = rw (other, outside, e, compare)

      module _ (apart : encloses b a ≡ false) where
        pub compare_earlier : ltb a.begin b.begin ≡ true → compare a b ≡ Earlier
        unfolding compare
        compare_earlier e = rw (other, outside, apart, e, compare)

        pub compare_later : ltb a.begin b.begin ≡ false → compare a b ≡ Later
        unfolding compare
        compare_later e = rw (other, outside, apart, e, compare)

-- ---- exactly one answer

-- of two that begin together, one holds the other
begins_after : (a b : Interval) → (Encloses a b → ⊥) → (Encloses b a → ⊥) → b.begin ≤ a.begin → b.begin < a.begin
begins_after a b outside apart le =
    ⊎_elim
    (λ (h : a.begin ≤ b.begin). ⊎_elim (λ (k : b.end ≤ a.end). absurd (outside (h, k))) (λ (k : a.end < b.end). absurd (apart (le, omega arith))) (le_or b.end a.end))
    (λ (h : b.begin < a.begin). h)
    (le_or a.begin b.begin)

pub compare_lies : (a b : Interval) → Lies (compare a b) a b
unfolding compare
compare_lies a b = go (same a b) refl (encloses a b) refl (encloses b a) refl (ltb a.begin b.begin) refl
  where
    go : (x : Bool) → same a b ≡ x → (y : Bool) → encloses a b ≡ y → (z : Bool) → encloses b a ≡ z → (w : Bool) → ltb a.begin b.begin ≡ w
        → Lies (elim x [ true ↦ Same | false ↦ elim y [ true ↦ Holds | false ↦ elim z [ true ↦ Held | false ↦ elim w [ true ↦ Earlier | false ↦ Later ] ] ] ]) a b
    go true e y f z g w h = same_true a b e
    go false e true f z g w h = (encloses_true a b f, not_same a b e)
    go false e false f true g w h = (encloses_true b a g, not_same a b e)
    go false e false f false g true h = (not_encloses a b f, not_encloses b a g, ltb-true a.begin b.begin h)
    go false e false f false g false h = (not_encloses a b f, not_encloses b a g, begins_after a b (not_encloses a b f) (not_encloses b a g) (ltb-false a.begin b.begin h))

pub lies_compare : (r : Relation) (a b : Interval) → Lies r a b → compare a b ≡ r
lies_compare Same a b h = compare_same a b (true_same a b h)
lies_compare Holds a b h = compare_holds a b (same_false a b h.1) (true_encloses a b h.0)
lies_compare Held a b h = compare_held a b (same_false a b h.1) (encloses_false a b (λ k. h.1 (omega (arith, h.0, k), omega (arith, h.0, k)))) (true_encloses b a h.0)
lies_compare Earlier a b h = compare_earlier a b (same_false a b (λ k. omega (arith, h.2, k.0))) (encloses_false a b h.0) (encloses_false b a h.1) (lt-ltb a.begin b.begin h.2)
lies_compare Later a b h = compare_later a b (same_false a b (λ k. omega (arith, h.2, k.0))) (encloses_false a b h.0) (encloses_false b a h.1) (le-ltb a.begin b.begin (omega (arith, h.2)))

pub one_answer : (r : Relation) (a b : Interval) → (compare a b ≡ r) ↔ Lies r a b
one_answer r a b = (λ e. subst (λ (s : Relation). Lies s a b) e (compare_lies a b), lies_compare r a b)

-- ---- the two change places

exchanged_lies : (r : Relation) (a b : Interval) → Lies r a b → Lies (exchanged r) b a
exchanged_lies Same a b h = (sym h.0, sym h.1)
exchanged_lies Holds a b h = (h.0, λ k. h.1 (sym k.0, sym k.1))
exchanged_lies Held a b h = (h.0, λ k. h.1 (sym k.0, sym k.1))
exchanged_lies Earlier a b h = (h.1, h.0, h.2)
exchanged_lies Later a b h = (h.1, h.0, h.2)

pub compare_exchanged : (a b : Interval) → compare b a ≡ exchanged (compare a b)
compare_exchanged a b = lies_compare (exchanged (compare a b)) b a (exchanged_lies (compare a b) a b (compare_lies a b))

-- ---- what the answers say together

-- the first holds the second, in document 01's words
pub compare_contains : (a b : Interval) → contains (compare a b) ≡ encloses a b
compare_contains a b = go (compare a b) (compare_lies a b)
  where
    go : (r : Relation) → Lies r a b → contains r ≡ encloses a b
    go Same h = sym (true_encloses a b (omega (arith, h.0), omega (arith, h.1)))
    go Holds h = sym (true_encloses a b h.0)
    go Held h = sym (encloses_false a b (λ k. h.1 (omega (arith, h.0, k), omega (arith, h.0, k))))
    go Earlier h = sym (encloses_false a b h.0)
    go Later h = sym (encloses_false a b h.0)

pub compare_wider : (a b : Interval) → wider (compare a b) ≡ (not (same a b) && encloses a b)
compare_wider a b = go (compare a b) (compare_lies a b)
  where
    go : (r : Relation) → Lies r a b → wider r ≡ (not (same a b) && encloses a b)
    go Same h = ap (λ (x : Bool). not x && encloses a b) (sym (true_same a b h))
    go Holds h = sym (λ i. not (same_false a b h.1 i) && true_encloses a b h.0 i)
    go Held h = sym (λ i. not (same_false a b h.1 i) && encloses_false a b (λ k. h.1 (omega (arith, h.0, k), omega (arith, h.0, k))) i)
    go Earlier h = sym (λ i. not (same_false a b (λ k. omega (arith, h.2, k.0)) i) && encloses_false a b h.0 i)
    go Later h = sym (λ i. not (same_false a b (λ k. omega (arith, h.2, k.0)) i) && encloses_false a b h.0 i)

-- where two that begin together are one
pub compare_begins_first : (a b : Interval) → (a.begin ≡ b.begin → One a b) → begins_first (compare a b) ≡ ltb a.begin b.begin
compare_begins_first a b alone = go (compare a b) (compare_lies a b)
  where
    first : Encloses a b → (One a b → ⊥) → a.begin < b.begin
    first h other = ⊎_elim (λ (e : a.begin ≡ b.begin). absurd (other (alone e))) (λ (d : a.begin ≡ b.begin → ⊥). omega (arith, h.0, d)) (same_or a.begin b.begin)

    go : (r : Relation) → Lies r a b → begins_first r ≡ ltb a.begin b.begin
    go Same h = sym (le-ltb a.begin b.begin (omega (arith, h.0)))
    go Holds h = sym (lt-ltb a.begin b.begin (first h.0 h.1))
    go Held h = sym (le-ltb a.begin b.begin h.0.0)
    go Earlier h = sym (lt-ltb a.begin b.begin h.2)
    go Later h = sym (le-ltb a.begin b.begin (omega (arith, h.2)))
