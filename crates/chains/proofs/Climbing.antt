-- One step up along the parents, under fresh stamps, from a literal that another holds: it goes to a literal that is held as well and has an interval that is wider by two times at least. Assumes nothing.
use Prim.Native.Nat.{ℕ, ◌+◌, ◌*◌, ◌≤◌, ◌<◌}
use native.Mathlib.Omega.{arith}
use mathlib.Core.Path.{◌≡◌, sym}
use mathlib.Core.Logic.{⊎_elim}
use mathlib.Core.List.{List}
use lib.IntN.{ℤ}
use Rattle.base.specs.Decide.{le_or}
use Rattle.literal.specs.Literals.{Literal, slot_of}
use Rattle.literal.proofs.Laws.{slot_below, slot_same}
use Rattle.stamps.specs.Fresh.{discovery_in, finish_in, parent_in, Holds, FreshStamps}
use Rattle.stamps.proofs.Local.{same_slot, same_finish}

module _ {v : ℕ} {times : List ℕ} {links : List ℤ} (F : FreshStamps v times links) where
  abbrev pub D : ℤ → ℕ
  D l = discovery_in times (slot_of l)

  abbrev pub E : ℤ → ℕ
  E l = finish_in times (slot_of l)

  -- a literal's slot is one of the 2v
  pub slot_in : {l : ℤ} → Literal v l → slot_of l < 2 * v
  slot_in {l} L = slot_below l v L.above L.within

  -- the times of a literal are 1 to 4v
  pub times_in : {l : ℤ} → Literal v l → (0 < D l) × (D l < E l) × (E l ≤ 4 * v)
  times_in {l} L =
      let s = slot_in L in
      ((F.every_time.ranged (2 * slot_of l) (omega (arith, s))).0, F.forward (slot_of l) s, (F.every_time.ranged (2 * slot_of l + 1) (omega (arith, s))).1)

  -- an interval around another's is wider on both sides
  strictly : (p q : ℕ) → p < 2 * v → q < 2 * v → (p ≡ q → ⊥) → Holds times p q → (discovery_in times p < discovery_in times q) × (finish_in times q < finish_in times p)
  strictly p q lp lq d h = (
    ⊎_elim (λ (k : discovery_in times q ≤ discovery_in times p). absurd (d (same_slot v times F.every_time p q lp lq (omega (arith, h.0, k))))) (λ k. k) (le_or (discovery_in times q) (discovery_in times p)),
    ⊎_elim (λ (k : finish_in times p ≤ finish_in times q). absurd (d (same_finish v times F.every_time p q lp lq (omega (arith, h.1, k))))) (λ k. k) (le_or (finish_in times p) (finish_in times q)),
  )

  abbrev pub up : ℤ → ℤ
  up l = parent_in links (slot_of l)

  pub record Step (top l : ℤ) : Type 0 where
    pub literal : Literal v (up l)
    pub other : up l ≡ l → ⊥
    pub around : Holds times (slot_of (up l)) (slot_of l)
    pub held : Holds times (slot_of top) (slot_of (up l))
    pub wider : E l + D (up l) + 2 ≤ E (up l) + D l

  pub step : {top l : ℤ} → Literal v top → Literal v l → Holds times (slot_of top) (slot_of l) → (l ≡ top → ⊥) → Step top l
  step {top} {l} T L h d =
      let P = F.parent_literal (slot_of l) (slot_in L) in
      let other : slot_of top ≡ slot_of l → ⊥ = λ e. d (sym (slot_same top l T.above L.above e)) in
      ⊎_elim
      (λ alone. absurd (other (alone.1 (slot_of top) (slot_in T) h)))
      (λ near.
      let w = strictly (slot_of (up l)) (slot_of l) (slot_in P) (slot_in L) near.0 near.1 in
      record {
        literal = P;
        other = λ e. near.0 (λ i. slot_of (e i));
        around = near.1;
        held = near.2 (slot_of top) (slot_in T) other h;
        wider = omega (arith, w.0, w.1);
      })
      (F.parent (slot_of l) (slot_in L))
