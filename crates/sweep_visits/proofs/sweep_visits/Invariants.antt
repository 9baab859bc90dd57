-- The first i clauses are visited.
use Rattle.sweep_visits.proofs.VisitKeeps.{Sweeping}
use Rattle.sweep_visits.proofs.sweep_visits.Given as goal

abbrev pub invariant-loop-i : goal.invariant-loop-i
invariant-loop-i l = Sweeping l.k l.m l.i l.fn.clauses l.fn.literals l.clauses l.literals l.times l.links
