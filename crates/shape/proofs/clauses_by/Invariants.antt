-- The loop of `shape::clauses_by`: the first i clauses are right, and `last` has no number above i (`Clausing`).
use Rattle.shape.proofs.Clausing.{Clausing}
use Rattle.shape.proofs.clauses_by.Given as goal

abbrev pub invariant-loop-i : goal.invariant-loop-i
invariant-loop-i l = Clausing l.v l.settled l.mark l.clauses l.literals l.variables l.i l.last
