-- What is still to be put, from here on, gives the whole.
use Rattle.join.proofs.Appending.{Appending}
use Rattle.join.proofs.append.Given as goal

abbrev pub invariant-loop-i : goal.invariant-loop-i
invariant-loop-i l = Appending l.initial.numbers l.end l.others l.size l.numbering l.numbers l.i
