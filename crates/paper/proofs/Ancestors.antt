-- Under fresh stamps an interval holds another exactly if its literal is the other's, or an ancestor of it by parents. Assumes nothing.
use Prim.Native.Nat.{ℕ, zero, suc, ◌*◌, ◌≤◌, ◌<◌}
use native.Mathlib.Nat.{le_refl}
use native.Mathlib.Omega.{arith}
use mathlib.Core.Path.{◌≡◌, ap, subst}
use mathlib.Core.Logic.{⊎_elim}
use lib.IntN.{ℤ}
use Rattle.base.specs.Decide.{same_or}
use Rattle.literal.specs.Literals.{Literal, slot_of}
use Rattle.literal.proofs.Laws.{slot_below, slot_same}
use Rattle.stamps.specs.Fresh.{discovery_in, finish_in, Narrowest, Outermost, FreshStamps}
use Rattle.stamps.proofs.Local.{same_slot}
use Rattle.tables.specs.Tables.{Tables}
use Rattle.paper.specs.Records.{discovered, parent, Holds, Ancestor, self, up}

module _ (v : ℕ) (t : Tables) (F : FreshStamps v t.times t.links) where
  slot : {p : ℤ} → Literal v p → slot_of p < 2 * v
  slot {p} L = slot_below p v L.above L.within

  -- two literals that are discovered together are one
  pub same_literal : (p q : ℤ) → Literal v p → Literal v q → discovered t p ≡ discovered t q → p ≡ q
  same_literal p q Lp Lq e = slot_same p q Lp.above Lq.above (same_slot v t.times F.every_time (slot_of p) (slot_of q) (slot Lp) (slot Lq) e)

  pub ancestor_holds : {p q : ℤ} → Literal v q → Ancestor t p q → Holds t p q
  ancestor_holds L self = (le_refl _, le_refl _)
  ancestor_holds L (up {q = q} a) =
      let h = ancestor_holds (F.parent_literal (slot_of q) (slot L)) a in
      ⊎_elim
      (λ (k : (slot_of (parent t q) ≡ slot_of q) × Outermost (2 * v) t.times (slot_of q)). (omega (arith, h.0, ap (discovery_in t.times) k.0), omega (arith, h.1, ap (finish_in t.times) k.0)))
      (λ (k : Narrowest (2 * v) t.times (slot_of q) (slot_of (parent t q))). (omega (arith, h.0, k.1.0), omega (arith, h.1, k.1.1)))
      (F.parent (slot_of q) (slot L))

  -- one step of the climb from q
  step : (p q : ℤ) → Literal v p → Literal v q → Holds t p q → (discovered t (parent t q) < discovered t q → Holds t p (parent t q) → Ancestor t p (parent t q)) → Ancestor t p q
  step p q Lp Lq h further =
      ⊎_elim
      (λ (e : slot_of p ≡ slot_of q). subst (Ancestor t p) (slot_same p q Lp.above Lq.above e) self)
      (λ (d : slot_of p ≡ slot_of q → ⊥).
      ⊎_elim
      (λ (k : (slot_of (parent t q) ≡ slot_of q) × Outermost (2 * v) t.times (slot_of q)). absurd (d (k.1 (slot_of p) (slot Lp) h)))
      (λ (k : Narrowest (2 * v) t.times (slot_of q) (slot_of (parent t q))). up (further (below k) (k.2 (slot_of p) (slot Lp) d h)))
      (F.parent (slot_of q) (slot Lq)))
      (same_or (slot_of p) (slot_of q))
    where
      below : Narrowest (2 * v) t.times (slot_of q) (slot_of (parent t q)) → discovered t (parent t q) < discovered t q
      below k =
          ⊎_elim
          (λ (e : discovered t (parent t q) ≡ discovered t q). absurd (k.0 (ap slot_of (same_literal (parent t q) q (F.parent_literal (slot_of q) (slot Lq)) Lq e))))
          (λ (d : discovered t (parent t q) ≡ discovered t q → ⊥). omega (arith, k.1.0, d))
          (same_or (discovered t (parent t q)) (discovered t q))

  -- discoveries fall along the parents: n bounds the steps
  climbed : (n : ℕ) (p q : ℤ) → discovered t q ≤ n → Literal v p → Literal v q → Holds t p q → Ancestor t p q
  climbed zero p q le Lp Lq h = step p q Lp Lq h (λ lt k. absurd (omega (arith, le, lt)))
  climbed (suc n) p q le Lp Lq h = step p q Lp Lq h (λ lt k. climbed n p (parent t q) (omega (arith, le, lt)) Lp (F.parent_literal (slot_of q) (slot Lq)) k)

  pub holds_ancestor : (p q : ℤ) → Literal v p → Literal v q → Holds t p q → Ancestor t p q
  holds_ancestor p q Lp Lq h = climbed (discovered t q) p q (le_refl _) Lp Lq h
