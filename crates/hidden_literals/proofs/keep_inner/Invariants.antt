-- What stays of the slots from i on stands from n on.
use Rattle.hidden_literals.proofs.Loops.{Narrowing}
use Rattle.hidden_literals.proofs.keep_inner.Given as goal

abbrev pub invariant-loop-i : goal.invariant-loop-i
invariant-loop-i l = Narrowing l.times l.fn.slots l.slots l.last l.n l.i
