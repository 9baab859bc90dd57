-- The entries before index i are literals, each once, and the marks are those of their slots.
use Rattle.stamp.proofs.Ordering.{Looking}
use Rattle.stamp.proofs.check_order.Given as goal

abbrev pub invariant-loop-i : goal.invariant-loop-i
invariant-loop-i l = Looking l.v l.order l.seen l.i
