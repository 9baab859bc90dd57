-- One place more holds its literal. Assumes nothing.
use Rattle.std.proofs.Common.{◌+◌, arith}
use Rattle.literal.proofs.Laws.{lit_stored}
use Rattle.round_order.proofs.Orders.{listing_none, listing_more}
use Rattle.round_order.proofs.write_slots.Goals as goal

pub loop-i-init : goal.loop-i-init
loop-i-init c = listing_none _ _

pub loop-i-preserved : goal.loop-i-preserved
loop-i-preserved c = listing_more c.loop-i.invariant (omega arith) _ (lit_stored (c.args.slot + c.loop-i.i) _ (omega arith) c.lit_at.ensures)
