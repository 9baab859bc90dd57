-- The numbers so far and the size of the clauses to come make up the whole.
use Rattle.join.proofs.Counting.{Counting}
use Rattle.join.proofs.size_in.Given as goal

abbrev pub invariant-loop-i : goal.invariant-loop-i
invariant-loop-i l = Counting l.numbers l.n l.left l.i
