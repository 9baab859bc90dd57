-- A literal stays exactly if the slot of its complement is among the slots.
use Rattle.std.proofs.Common.{◌≡◌, ◌<◌, ℕ, List, length, get_or, arith, refl, sym, ◌∙◌}
use lib.IntN.{pos, neg_ℤ}
use mathlib.Core.List.{[]}
use Rattle.base.specs.Lists.{filter}
use Rattle.literal.specs.Literals.{slot_of}
use Rattle.literal.proofs.Compact.{finish}
use Rattle.literal.proofs.Signed.{back, neg_is}
use Rattle.clause_slots.proofs.Mapping.{literal_small}
use Rattle.hidden_literals.specs.Figures.{kept_by}
use Rattle.hidden_literals.proofs.Loops.{moving_literal, moving_stays, moving_goes}
use Rattle.hidden_literals.proofs.keep_part.Goals as goal
use Rattle.hidden_literals.proofs.keep_part.Goals.{then-has_slot, else-has_slot}

nothing_left : (slots : List ℕ) → kept_by slots [] ≡ []
unfolding filter
nothing_left slots = refl

pub loop-i-preserved : goal.loop-i-preserved
loop-i-preserved c =
    let at = c.loop-i in
    let lt : at.i < length at.part = omega arith in
    let small = literal_small (moving_literal at.invariant lt c.requires.lits) in
    let slot : c.slot_of-s.result ≡ slot_of (neg_ℤ (get_or at.part at.i (pos 0))) = rw (neg_is small) at c.slot_of-s.ensures in
    elim c.if-has_slot.branch [
      | then-has_slot w ↦ rw (w.part-is, w.n-is, back small) (moving_stays at.invariant lt (rw slot at (sym c.has_slot.ensures ∙ w.if-has_slot.true)))
      | else-has_slot w ↦ rw (w.part-is, w.n-is) (moving_goes at.invariant lt (rw slot at (sym c.has_slot.ensures ∙ w.if-has_slot.false)))
    ]

pub returns : goal.returns
returns c = finish c.loop-i.invariant.compact (omega arith) (λ s. nothing_left c.args.slots.now) c.zero_from.ensures
