-- A slot that holds the one that stayed last goes, and any other stays.
use Rattle.hidden_literals.proofs.Loops.{narrowing_none, narrowing_time, narrowing_stays, narrowing_goes}
use Rattle.hidden_literals.proofs.keep_inner.Goals as goal

pub loop-i-init : goal.loop-i-init
loop-i-init c = narrowing_none c.args.times.now c.args.slots.now

pub interval-t-requires : goal.interval-t-requires
interval-t-requires c = narrowing_time c.loop-i.invariant c.loop-i-test.true c.requires

pub loop-i-preserved-then-not-wider : goal.loop-i-preserved-then-not-wider
loop-i-preserved-then-not-wider c = narrowing_stays c.loop-i.invariant c.loop-i-test.true c.interval-t.result c.interval-t.ensures c.compare.ensures c.wider.ensures c.if-not-wider.true

pub loop-i-preserved : goal.loop-i-preserved
loop-i-preserved c = narrowing_goes c.loop-i.invariant c.loop-i-test.true c.interval-t.result c.interval-t.ensures c.compare.ensures c.wider.ensures c.if-not-wider.false
