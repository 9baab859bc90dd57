-- What stays of the literals before i is the first n.
use Rattle.hidden_literals.proofs.Loops.{Moving}
use Rattle.hidden_literals.proofs.keep_part.Given as goal

abbrev pub invariant-loop-i : goal.invariant-loop-i
invariant-loop-i l = Moving l.slots l.fn.part l.part l.n l.i
