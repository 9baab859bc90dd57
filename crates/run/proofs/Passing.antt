-- The order of a round has every literal once: Stamp's check finds no wrong entry in it, so that a run meets no refusal 8. Assumes nothing.
use Prim.Native.Nat.{ℕ, zero, suc, ◌+◌, ◌*◌, ◌-◌, ◌≤◌, ◌<◌}
use native.Mathlib.Omega.{arith}
use mathlib.Core.Path.{◌≡◌, refl, sym, ap, ap₂, ◌∙◌}
use mathlib.Core.Bool.{Bool, true, false, not, ◌||◌}
use mathlib.Core.List.{List, [], ◌∷◌, ◌++◌}
use lib.ListN.{length, get_or, take, get_or-append}
use lib.Seq.{get_or-append-add, get_or-take, length-take-le}
use lib.Dec.{ltb}
use lib.IntN.{ℤ, pos}
use borrow.Author.Tests.{lt-ltb, le-ltb, ltb-true, ltb-false}
use Rattle.base.specs.Lists.{numbers}
use Rattle.base.proofs.Searches.{first_none}
use Rattle.literal.specs.Literals.{Literal, in_range, slot_of, lit_at}
use Rattle.literal.specs.Clauses.{has}
use Rattle.literal.proofs.Laws.{slot_lit, lit_var, literal_tested}
use Rattle.literal.proofs.Signed.{ne_eq_z}
use Rattle.stamp.specs.Stamp.{bad_entry, first_bad}
use Rattle.round_order.specs.Order.{turn_by, order_of}
use Rattle.round_order.proofs.Orders.{listed, listed_length, turn_le, order_is, order_length}

-- ---- searches that find nothing

has_none : (l : ℤ) (xs : List ℤ) → ((j : ℕ) → j < length xs → get_or xs j (pos 0) ≡ l → ⊥) → has l xs ≡ false
has_none l [] h = refl
has_none l (x ∷ xs) h = ap₂ (λ (a b : Bool). a || b) (ne_eq_z x l (h 0 (omega arith))) (has_none l xs (λ j lt. h (suc j) (omega arith)))

-- ---- the entries

listed_at : (k n i : ℕ) → i < n → get_or (listed k n) i (pos 0) ≡ lit_at (k + i)
unfolding numbers
listed_at k zero i lt = absurd (omega arith)
listed_at k (suc n) zero lt = ap lit_at (let q : k ≡ k + 0 = omega arith in q)
listed_at k (suc n) (suc i) lt = listed_at (suc k) n i (omega arith) ∙ ap lit_at (let q : suc k + i ≡ k + suc i = omega arith in q)

module _ (v k : ℕ) where
  abbrev turn : ℕ
  turn = turn_by k (2 * v)

  abbrev size : ℕ
  size = 2 * v - turn

  -- the slot of entry i
  abbrev at : ℕ → ℕ
  at i = elim (ltb i size) [ true ↦ turn + i | false ↦ i - size ]

  at_front : (i : ℕ) → i < size → at i ≡ turn + i
  at_front i lt = ap (λ (b : Bool). elim b as (λ x. ℕ) [ true ↦ turn + i | false ↦ i - size ]) (lt-ltb i size lt)

  at_back : (i : ℕ) → size ≤ i → at i ≡ i - size
  at_back i le = ap (λ (b : Bool). elim b as (λ x. ℕ) [ true ↦ turn + i | false ↦ i - size ]) (le-ltb i size le)

  entry : (i : ℕ) → i < 2 * v → get_or (order_of v k) i (pos 0) ≡ lit_at (at i)
  entry i lt = ap (λ (l : List ℤ). get_or l i (pos 0)) (order_is v k) ∙ go (ltb i size) refl
    where
      go : (b : Bool) → ltb i size ≡ b → get_or (listed turn size ++ listed 0 turn) i (pos 0) ≡ lit_at (at i)
      go true e =
          let h = ltb-true i size e in
          get_or-append (listed turn size) (listed 0 turn) (pos 0) i (omega (arith, h, listed_length turn size)) ∙ listed_at turn size i h ∙ ap lit_at (sym (at_front i h))
      go false e =
          let h = ltb-false i size e in
          ap (λ (j : ℕ). get_or (listed turn size ++ listed 0 turn) j (pos 0)) (let q : i ≡ length (listed turn size) + (i - size) = omega (arith, h, listed_length turn size) in q)
          ∙ get_or-append-add (listed turn size) (listed 0 turn) (i - size) (pos 0) ∙ listed_at 0 turn (i - size) (omega (arith, h, lt, turn_le k (2 * v)))
          ∙ ap lit_at (let q : 0 + (i - size) ≡ at i = omega (arith, at_back i h) in q)

  at_below : (i : ℕ) → i < 2 * v → at i < 2 * v
  at_below i lt = go (ltb i size) refl
    where
      go : (b : Bool) → ltb i size ≡ b → at i < 2 * v
      go true e = omega (arith, ltb-true i size e, at_front i (ltb-true i size e), turn_le k (2 * v))
      go false e = omega (arith, ltb-false i size e, at_back i (ltb-false i size e), lt)

  at_once : (j i : ℕ) → j < i → i < 2 * v → at j ≡ at i → ⊥
  at_once j i lj li same = go (ltb j size) refl (ltb i size) refl
    where
      go : (a : Bool) → ltb j size ≡ a → (b : Bool) → ltb i size ≡ b → ⊥
      go true p true q = omega (arith, at_front j (ltb-true j size p), at_front i (ltb-true i size q), same, lj)
      go true p false q = omega (arith, at_front j (ltb-true j size p), ltb-false i size q, at_back i (ltb-false i size q), same, li, turn_le k (2 * v))
      go false p true q = omega (arith, ltb-false j size p, ltb-true i size q, lj)
      go false p false q = omega (arith, ltb-false j size p, ltb-false i size q, at_back j (ltb-false j size p), at_back i (ltb-false i size q), same, lj)

  -- ---- the check of refusal 8

  module _ (few : v ≤ 1024) where
    ranged : (i : ℕ) → i < 2 * v → in_range (get_or (order_of v k) i (pos 0)) v ≡ true
    ranged i lt =
        let L : Literal v (lit_at (at i)) = record { above = omega (arith, lit_var (at i)); within = omega (arith, lit_var (at i), at_below i lt) } in
        ap (λ (l : ℤ). in_range l v) (entry i lt) ∙ literal_tested (omega arith) L

    once : (i : ℕ) → i < 2 * v → has (get_or (order_of v k) i (pos 0)) (take i (order_of v k)) ≡ false
    once i lt = has_none (get_or (order_of v k) i (pos 0)) (take i (order_of v k)) (λ j h e.
        let size_is : length (take i (order_of v k)) ≡ i = length-take-le i (order_of v k) (omega (arith, order_length v k, lt)) in
        let lj : j < i = omega (arith, h, size_is) in
        at_once j i lj lt (sym (slot_lit (at j)) ∙ ap slot_of (sym (entry j (omega arith)) ∙ sym (get_or-take i (order_of v k) j (pos 0) lj) ∙ e ∙ entry i lt) ∙ slot_lit (at i)))

    right : (i : ℕ) → i < 2 * v → bad_entry v (order_of v k) i ≡ false
    right i lt = ap₂ (λ (a b : Bool). not a || b) (ranged i lt) (once i lt)

    -- THE LAW: no entry is 0, out of range or repeated
    pub order_passes : first_bad v (order_of v k) ≡ 2 * v
    unfolding first_bad
    order_passes = first_none (bad_entry v (order_of v k)) (length (order_of v k)) 0 (λ j a b. right j (omega (arith, b, order_length v k))) ∙ (let q : 0 + length (order_of v k) ≡ 2 * v = omega (arith, order_length v k) in q)
