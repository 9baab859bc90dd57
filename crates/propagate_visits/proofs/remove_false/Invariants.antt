-- Literals move to the front, and what is still to be read is as it was (`Moving`).
use Rattle.propagate_visits.proofs.Scanning.{Moving}
use Rattle.propagate_visits.proofs.remove_false.Given as goal

abbrev pub invariant-loop-i : goal.invariant-loop-i
invariant-loop-i l = Moving l.variables l.fn.part l.part l.n l.i
