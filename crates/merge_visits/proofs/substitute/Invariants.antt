-- Class literals stand in front, and what is still to be read is as it was (`Putting`).
use Rattle.merge_visits.proofs.Scanning.{Putting}
use Rattle.merge_visits.proofs.substitute.Given as goal

abbrev pub invariant-loop-l : goal.invariant-loop-l
invariant-loop-l l = Putting l.variables l.fn.part l.part l.l-index
