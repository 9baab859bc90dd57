-- The look for the first wrong entry of an order: a slot is seen exactly if its literal stands before. Assumes nothing.
use Prim.Native.Nat.{ℕ, suc, ◌+◌, ◌*◌, ◌-◌, ◌≤◌, ◌<◌}
use native.Mathlib.Numerals.{add-one}
use native.Mathlib.Omega.{arith}
use mathlib.Core.Path.{◌≡◌, sym, ap, subst, ◌∙◌}
use mathlib.Core.Bool.{Bool, true, false, not, ◌||◌, false≢true, or-true, or-false}
use mathlib.Core.Logic.{◌⊎◌, inl, inr, ⊎_elim}
use mathlib.Core.List.Memᴰ
use mathlib.Core.List.{List, [], ◌∷◌, ◌++◌, map, Memᴰ}
use lib.ListN.{length, get_or, set, take, replicate, length-set, length-replicate, get_or-replicate, length-map, get_or-map}
use lib.Seq.{take-suc, get_or-set_same, get_or-set_other, get_or-take, length-take-le}
use lib.IntN.{ℤ, pos, nat_abs}
use borrow.Author.Tests.{not-false}
use Rattle.base.specs.Decide.{eqℤ?, same_or, le_or}
use Rattle.base.specs.Lists.{first}
use Rattle.base.proofs.Booleans.{or_left, or_right}
use Rattle.base.proofs.Lists.{get_d_any, get_d_mem}
use Rattle.base.proofs.Searches.{first_hit, first_next, first_passed}
use Rattle.stamps.specs.Fresh.{Times}
use Rattle.stamps.proofs.Indexing.{every_time_hit}
use Rattle.literal.specs.Literals.{in_range, slot_of}
use Rattle.literal.specs.Clauses.{has}
use Rattle.literal.proofs.Laws.{slot_below, slot_same}
use Rattle.literal.proofs.Distinct.{has_snoc, has_at}
use Rattle.literal.proofs.Signed.{eq_eq_z, ne_eq_z, InRange, in_range_lem}
use Rattle.stamp.specs.Stamp.{bad_entry, first_bad}
use Rattle.stamp.specs.Asking.{Full}

-- ---- one more entry

same_or_not : (a b : ℤ) → (a ≡ b) ⊎ (a ≡ b → ⊥)
same_or_not a b = elim (eqℤ? a b) [ yes e ↦ inl e | no n ↦ inr n ]

-- ---- the loop

pub record Looking (v : ℕ) (order : List ℤ) (seen : List Bool) (i : ℕ) : Type 0 where
  pub within : i ≤ length order
  pub size : length seen ≡ 2048
  pub marks : (l : ℤ) → 0 < nat_abs l → nat_abs l ≤ v → get_or seen (slot_of l) false ≡ has l (take i order)
  pub left : first (bad_entry v order) (length order - i) i ≡ first (bad_entry v order) (length order) 0

pub looking_none : (v : ℕ) (order : List ℤ) → v ≤ 1024 → Looking v order (replicate 2048 false) 0
looking_none v order few = record {
  within = omega arith;
  size = length-replicate 2048 false;
  marks = λ l a b. get_or-replicate 2048 (slot_of l) false false (omega (arith, slot_below l v a b));
  left = ap (λ (n : ℕ). first (bad_entry v order) n 0) (let e : length order - 0 ≡ length order = omega arith in e);
}

module _ {v : ℕ} {order : List ℤ} {seen : List Bool} {i : ℕ} (few : v ≤ 1024) (L : Looking v order seen i) (lt : i < length order) where
  abbrev entry : ℤ
  entry = get_or order i (pos 0)

  stops : bad_entry v order i ≡ true → i ≡ first_bad v order
  unfolding first_bad
  stops e = sym (first_hit (bad_entry v order) (length order - i) i (omega arith) e) ∙ L.left

  -- no literal of the variables
  pub outside : in_range entry v ≡ false → i ≡ first_bad v order
  outside e = stops (ap (λ (b : Bool). not b || has entry (take i order)) e)

  module _ (ranged : in_range entry v ≡ true) (above : 0 < nat_abs entry) (within : nat_abs entry ≤ v) where
    -- it stands before
    pub repeated : get_or seen (slot_of entry) false ≡ true → i ≡ first_bad v order
    repeated e = stops (ap (λ (b : Bool). not b || has entry (take i order)) ranged ∙ sym (L.marks entry above within) ∙ e)

    longer : take (i + 1) order ≡ take i order ++ (entry ∷ [])
    longer = ap (λ (k : ℕ). take k order) (add-one i) ∙ take-suc order i (pos 0) lt

    pub new : get_or seen (slot_of entry) false ≡ false → Looking v order (set seen (slot_of entry) true) (i + 1)
    new e = record {
      within = omega arith;
      size = length-set seen (slot_of entry) true ∙ L.size;
      marks = λ l a b.
          ⊎_elim
          (λ (same : entry ≡ l).
          ap (λ (z : ℤ). get_or (set seen (slot_of entry) true) (slot_of z) false) (sym same)
          ∙ get_or-set_same seen (slot_of entry) true false (omega (arith, slot_below entry v above within, L.size))
          ∙ sym (ap (has l) longer ∙ has_snoc l (take i order) entry ∙ ap (λ (b : Bool). has l (take i order) || b) (eq_eq_z entry l same) ∙ or-true (has l (take i order))))
          (λ (other : entry ≡ l → ⊥).
          get_or-set_other seen (slot_of entry) (slot_of l) true false (λ s. other (slot_same entry l above a (sym s)))
          ∙ L.marks l a b
          ∙ sym (ap (has l) longer ∙ has_snoc l (take i order) entry ∙ ap (λ (b : Bool). has l (take i order) || b) (ne_eq_z entry l other) ∙ or-false (has l (take i order))))
          (same_or_not entry l);
      left =
          let fine : bad_entry v order i ≡ false = ap (λ (b : Bool). not b || has entry (take i order)) ranged ∙ sym (L.marks entry above within) ∙ e in
          let many : length order - i ≡ suc (length order - (i + 1)) = omega arith in
          ap (first (bad_entry v order) (length order - (i + 1))) (add-one i)
          ∙ sym (first_next (bad_entry v order) (length order - (i + 1)) i fine)
          ∙ ap (λ (n : ℕ). first (bad_entry v order) n i) (sym many)
          ∙ L.left;
    }

pub looked : {v : ℕ} {order : List ℤ} {seen : List Bool} {i : ℕ} → Looking v order seen i → length order ≤ i → i ≡ first_bad v order
unfolding first_bad first
looked {v} {order} {seen} {i} L over = sym (ap (λ (n : ℕ). first (bad_entry v order) n i) (let e : length order - i ≡ 0 = omega arith in e)) ∙ L.left

-- ---- an order with no wrong entry has every literal

module _ (v : ℕ) (order : List ℤ) (many : length order ≡ 2 * v) (good : 2 * v ≤ first_bad v order) where
  fine : (i : ℕ) → i < 2 * v → bad_entry v order i ≡ false
  unfolding first_bad
  fine i lt = first_passed (bad_entry v order) (length order) 0 i (omega arith) (omega arith)

  entry_in : (i : ℕ) → i < 2 * v → InRange (get_or order i (pos 0)) v
  entry_in i lt = in_range_lem (get_or order i (pos 0)) v (not-false (in_range (get_or order i (pos 0)) v) (or_left (not (in_range (get_or order i (pos 0)) v)) (has (get_or order i (pos 0)) (take i order)) (fine i lt)))

  earlier : (j k : ℕ) → j < k → k < 2 * v → get_or order j (pos 0) ≡ get_or order k (pos 0) → ⊥
  earlier j k lt lk e =
      let h = has_at (get_or order k (pos 0)) (take k order) j (omega (arith, length-take-le k order (omega arith))) (get_or-take k order j (pos 0) lt ∙ e) in
      false≢true (sym (or_right (not (in_range (get_or order k (pos 0)) v)) (has (get_or order k (pos 0)) (take k order)) (fine k lk)) ∙ h)

  -- the slots, each with 1 added, are 1 to 2v once each
  abbrev numbers : List ℕ
  numbers = map (λ l. slot_of l + 1) order

  number_at : (k : ℕ) → k < 2 * v → get_or numbers k 0 ≡ slot_of (get_or order k (pos 0)) + 1
  number_at k lt = get_d_any numbers k 0 (slot_of (pos 0) + 1) (omega (arith, length-map order (λ l. slot_of l + 1))) ∙ get_or-map (λ l. slot_of l + 1) order k (pos 0)

  once_each : Times (2 * v) numbers
  once_each = record {
    ranged = λ k lt. (omega (arith, number_at k lt), omega (arith, number_at k lt, slot_below (get_or order k (pos 0)) v (entry_in k lt).above (entry_in k lt).within));
    once = λ j lj k lk e.
        let slots : slot_of (get_or order j (pos 0)) ≡ slot_of (get_or order k (pos 0)) = omega (arith, e, number_at j lj, number_at k lk) in
        let same = slot_same (get_or order j (pos 0)) (get_or order k (pos 0)) (entry_in j lj).above (entry_in k lk).above slots in
        ⊎_elim (λ (i : j ≡ k). i)
        (λ (d : j ≡ k → ⊥). absurd (⊎_elim (λ (le : j ≤ k). earlier j k (omega arith) lk same) (λ (gt : k < j). earlier k j gt lj (sym same)) (le_or j k)))
        (same_or j k);
  }

  pub good_full : Full v order
  good_full = record {
    many = many;
    each = λ i lt. let R = entry_in i (omega arith) in record { above = R.above; within = R.within };
    all = λ q lt.
        let h = every_time_hit (2 * v) numbers once_each (q + 1) (omega arith) (omega arith) in
        let e : slot_of (get_or order h.0 (pos 0)) ≡ q = omega (arith, h.2, number_at h.0 h.1) in
        subst (λ (x : ℕ). Memᴰ x (map slot_of order)) e (Memᴰ.map slot_of (get_d_mem order h.0 (pos 0) (omega (arith, h.1))));
  }
