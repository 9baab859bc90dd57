-- A slot that is held by the one that stayed last goes, and any other stays.
use Rattle.std.proofs.Common.{◌<◌, length, arith}
use Rattle.hidden_literals.proofs.Loops.{widening_time, widening_stays, widening_goes, widening_done}
use Rattle.hidden_literals.proofs.keep_outer.Goals as goal
use Rattle.hidden_literals.proofs.keep_outer.Goals.{then-not-wider, else-not-wider}

pub interval-t-requires : goal.interval-t-requires
interval-t-requires c = widening_time c.loop-i.invariant (omega arith) c.requires

pub loop-i-preserved : goal.loop-i-preserved
loop-i-preserved c =
    let lt : c.loop-i.i < length c.loop-i.slots = omega arith in
    elim c.if-not-wider.branch [
      | then-not-wider w ↦ rw (w.slots-is, w.last-is, w.n-is) (widening_stays c.loop-i.invariant lt c.interval-t.result c.interval-t.ensures c.compare.ensures c.wider.ensures w.if-not-wider.true)
      | else-not-wider w ↦ rw (w.slots-is, w.last-is, w.n-is) (widening_goes c.loop-i.invariant lt c.interval-t.result c.interval-t.ensures c.compare.ensures c.wider.ensures w.if-not-wider.false)
    ]

pub returns : goal.returns
returns c = widening_done c.loop-i.invariant (omega arith)
