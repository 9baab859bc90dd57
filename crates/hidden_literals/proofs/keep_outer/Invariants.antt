-- What stays of the slots before i is the first n.
use Rattle.hidden_literals.proofs.Loops.{Widening}
use Rattle.hidden_literals.proofs.keep_outer.Given as goal

abbrev pub invariant-loop-i : goal.invariant-loop-i
invariant-loop-i l = Widening l.times l.fn.slots l.slots l.last l.n l.i
