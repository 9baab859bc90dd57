use Rattle.std.proofs.Common.{ℤ, pos, map, ap, sym, ◌∙◌, arith}
use Rattle.std.proofs.Math.ListN.{get_or-map}
use Rattle.std.proofs.lemmas.List.{length-map}
use Rattle.literal.specs.Literals.{slot_of, Literal, Small}
use Rattle.literal.proofs.Signed.{back}
use Rattle.stamp_walk.proofs.Copying.{filling_as, filling_done}
use Rattle.stamp_walk.proofs.list_slots.Goals as goal

small : {l : ℤ} → Literal 1024 l → Small l
small L = record { small = omega (arith, L.within) }

pub loop-i-preserved : goal.loop-i-preserved
loop-i-preserved c =
    let order = c.args.order.now in
    let i = c.loop-i.i in
    filling_as (map slot_of order) c.args.slots.now c.loop-i.slots i (slot_of (pos 0)) c.slot_of.result
    (c.slot_of.ensures ∙ ap slot_of (back (small (c.requires.0.each i c.loop-i-test.true))) ∙ sym (get_or-map slot_of order i (pos 0)))
    (omega (arith, length-map order slot_of)) c.loop-i.invariant

pub returns : goal.returns
returns c =
    let many = length-map c.args.order.now slot_of in
    filling_done (map slot_of c.args.order.now) c.args.slots.now c.loop-i.slots c.loop-i.i (omega arith) (omega arith) c.loop-i.invariant
