-- `failed::climb` meets its contract: a slot that does not hold the twin leaves the climb to its parent. Assumes nothing.
use Rattle.std.proofs.Common.{sym, ◌∙◌}
use Rattle.failed.proofs.Climbing.{climbing_none, climbing_timed, climbing_twin, climbing_on, climbing_ends}
use Rattle.failed.proofs.climb.Goals as goal

pub loop-x-init : goal.loop-x-init
loop-x-init c = climbing_none c.requires c.twin_of-t.ensures

pub holds-requires : goal.holds-requires
holds-requires c = (climbing_timed c.loop-x.invariant, climbing_twin c.loop-x.invariant)

pub loop-x-smaller : goal.loop-x-smaller
loop-x-smaller c = rw c.parent-x.ensures (climbing_on c.loop-x.invariant (sym (c.holds.ensures c.args.links.now) ∙ c.loop-x-test.true)).earlier

pub loop-x-preserved : goal.loop-x-preserved
loop-x-preserved c = rw c.parent-x.ensures (climbing_on c.loop-x.invariant (sym (c.holds.ensures c.args.links.now) ∙ c.loop-x-test.true)).again

pub returns : goal.returns
returns c = climbing_ends c.loop-x.invariant (sym (c.holds.ensures c.args.links.now) ∙ c.loop-x-test.false)
