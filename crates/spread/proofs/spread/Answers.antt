-- `spread::spread` meets its contract. Assumes nothing.
use Rattle.std.proofs.Common.{arith}
use Rattle.spread.proofs.Spreading.{spreading_begin, spreading_next, spreading_end}
use Rattle.spread.proofs.spread.Goals as goal

pub loop-w-init : goal.loop-w-init
loop-w-init c = spreading_begin c.requires

pub loop-w-preserved : goal.loop-w-preserved
loop-w-preserved c = rw c.spread_at.ensures (spreading_next c.loop-w.invariant (omega arith))

pub returns : goal.returns
returns c = spreading_end c.loop-w.invariant (omega arith)

pub returns-2 : goal.returns-2
returns-2 c = rw c.spread_at.ensures (spreading_end (spreading_next c.loop-w.invariant (omega arith)) (omega arith))
