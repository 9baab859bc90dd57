use Rattle.round_order.proofs.Orders.{Listing}
use Rattle.round_order.proofs.write_slots.Given as goal

-- the first i places hold their literals
abbrev pub invariant-loop-i : goal.invariant-loop-i
invariant-loop-i l = Listing l.slot l.fn.part l.part l.i
