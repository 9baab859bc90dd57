-- `occurrences::PendingClauses::set_pending` meets its contract: the place at which the walk stands is in the table, and the next lies before it. Assumes nothing.
use Rattle.std.proofs.Common.{arith}
use Rattle.occurrences.proofs.Pending.{walk_inside, walk_less, walking_next}
use Rattle.occurrences.proofs.PendingClauses.set_pending.Goals as goal

pub overflow_mul-i : goal.overflow_mul-i
overflow_mul-i c = omega (arith, (walk_inside c.requires c.loop-p.invariant c.loop-p-test.true).0)

pub overflow_add-i : goal.overflow_add-i
overflow_add-i c = omega (arith, (walk_inside c.requires c.loop-p.invariant c.loop-p-test.true).0)

pub offset_bounds-chains-q : goal.offset_bounds-chains-q
offset_bounds-chains-q c = omega (arith, (walk_inside c.requires c.loop-p.invariant c.loop-p-test.true).0)

pub bounds-chains-q : goal.bounds-chains-q
bounds-chains-q c = omega (arith, (walk_inside c.requires c.loop-p.invariant c.loop-p-test.true).0)

pub loop-p-smaller : goal.loop-p-smaller
loop-p-smaller c = walk_less c.requires c.loop-p.invariant c.loop-p-test.true

pub loop-p-preserved : goal.loop-p-preserved
loop-p-preserved c = walking_next c.requires c.loop-p.invariant c.loop-p-test.true
