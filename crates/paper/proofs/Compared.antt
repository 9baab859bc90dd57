-- THE THEOREM on the comparison: on tables that keep the shape rule, with fresh stamps, the call answers for any two literals, and each of the five answers means what document 02 says. Assumes nothing.
use Prim.Native.Nat.{ℕ, ◌*◌, ◌<◌}
use native.Mathlib.Omega.{arith}
use mathlib.Core.Path.{◌≡◌, sym, ap}
use mathlib.Core.Bool.{true}
use mathlib.Core.Logic.{inl, inr, ◌↔◌}
use lib.IntN.{ℤ}
use Rattle.literal.specs.Literals.{Literal, slot_of}
use Rattle.literal.proofs.Laws.{slot_below}
use Rattle.state.specs.declared.State.{State}
use Rattle.intervals.specs.declared.Interval.{Interval}
use Rattle.intervals.specs.declared.Relation.{Relation}
use Rattle.intervals.specs.declared.Relation.TheVariants.{Same, Holds, Held, Earlier, Later}
use Rattle.intervals.specs.Intervals.{compare, One, Encloses}
use Rattle.intervals.specs.Intervals as intervals
use Rattle.intervals.proofs.Comparing.{one_answer}
use Rattle.stamps.specs.Fresh.{NestedOrApart, FreshStamps}
use Rattle.tables.specs.Tables.{Tables}
use Rattle.shape.specs.Shape.{Shape}
use Rattle.std.specs.Prelude.{Ok}
use Rattle.compare.specs.Compare.{interval_of, compare_call}
use Rattle.compare.proofs.Comparing.{answered, literal_has_record}
use Rattle.paper.specs.Records.{discovered, finished}
use Rattle.paper.specs.Comparing.{Apart, Compared}
use Rattle.paper.proofs.Ancestors.{same_literal, ancestor_holds, holds_ancestor}

module _ (v : ℕ) (t : Tables) (F : FreshStamps v t.times t.links) (p q : ℤ) (Lp : Literal v p) (Lq : Literal v q) where
  abbrev a : Interval
  a = interval_of t.times p

  abbrev b : Interval
  b = interval_of t.times q

  slot_p : slot_of p < 2 * v
  slot_p = slot_below p v Lp.above Lp.within

  slot_q : slot_of q < 2 * v
  slot_q = slot_below q v Lq.above Lq.within

  one : p ≡ q → One a b
  one e = (ap (discovered t) e, ap (finished t) e)

  one_literal : One a b → p ≡ q
  one_literal h = same_literal v t F p q Lp Lq h.0

  -- an answer is given exactly if it holds of the intervals
  by : (r : Relation) {P : Type 0} → (intervals.Lies r a b → P) → (P → intervals.Lies r a b) → (compare a b ≡ r) ↔ P
  by r there back = let k = one_answer r a b in (λ e. there (k.0 e), λ h. k.1 (back h))

  -- neither holds the other: they are apart
  apart : (Encloses a b → ⊥) → (Encloses b a → ⊥) → Apart t p q
  apart outside beside = go (F.nested (slot_of p) slot_p (slot_of q) slot_q)
    where
      go : NestedOrApart t.times (slot_of p) (slot_of q) → Apart t p q
      go (inl (inl h)) = absurd (outside h)
      go (inl (inr h)) = absurd (beside h)
      go (inr h) = h

  -- and those that are apart do not hold each other
  not_encloses : Apart t p q → Encloses a b → ⊥
  not_encloses (inl h) k = omega (arith, h, k, F.forward (slot_of q) slot_q)
  not_encloses (inr h) k = omega (arith, h, k, F.forward (slot_of q) slot_q)

  not_within : Apart t p q → Encloses b a → ⊥
  not_within (inl h) k = omega (arith, h, k, F.forward (slot_of p) slot_p)
  not_within (inr h) k = omega (arith, h, k, F.forward (slot_of p) slot_p)

  pub fresh_compared : Compared t p q (compare a b)
  fresh_compared = record {
    same = by Same one_literal one;
    holds = by Holds (λ h. (holds_ancestor v t F p q Lp Lq h.0, λ e. h.1 (one e))) (λ h. (ancestor_holds v t F Lq h.0, λ o. h.1 (one_literal o)));
    held = by Held (λ h. (holds_ancestor v t F q p Lq Lp h.0, λ e. h.1 (one (sym e)))) (λ h. (ancestor_holds v t F Lp h.0, λ o. h.1 (sym (one_literal o))));
    earlier = by Earlier (λ h. (apart h.0 h.1, h.2)) (λ h. (not_encloses h.0, not_within h.0, h.1));
    later = by Later (λ h. (apart h.0 h.1, h.2)) (λ h. (not_encloses h.0, not_within h.0, h.1));
  }

pub compare_fresh : (t : Tables) (st : State) → Shape t st → st.fresh ≡ true → (p q : ℤ) → Literal st.v p → Literal st.v q
    → (r : Relation) × (compare_call t.times st.v p q ≡ Ok r) × Compared t p q r
compare_fresh t st S fresh p q Lp Lq = (
  compare (interval_of t.times p) (interval_of t.times q),
  answered t.times st.v p q S.long.times (literal_has_record S.v_limit Lp) (literal_has_record S.v_limit Lq),
  fresh_compared st.v t (S.stamps fresh) p q Lp Lq,
)
