-- The visits that are left from here give what all of them give (`Making`).
use Rattle.propagate_visits.proofs.Stepping.{Making}
use Rattle.propagate_visits.proofs.visit_each.Given as goal

abbrev pub invariant-loop-made : goal.invariant-loop-made
invariant-loop-made l = Making l.n l.steps l.made l.k l.changed l.cursor l.flag l.fn.clauses l.fn.literals l.fn.variables l.clauses l.literals l.variables
