-- The loop of `shape::literals_ok`: the literals before this one are right, and `last` has this clause's number at their variables (`Listing`).
use Rattle.shape.proofs.Listing.{Listing}
use Rattle.shape.proofs.literals_ok.Given as goal

abbrev pub invariant-loop-l : goal.invariant-loop-l
invariant-loop-l l = Listing l.v l.literals l.variables l.settled l.start l.number l.l-index l.last
