-- The loop of `propagate::visit_skipping`: the visits that are left from here give what all of them give, and a clause that is not pending is settled.
use Rattle.std.proofs.Common.{◌-◌}
use Rattle.propagate.specs.Listed.{Listed}
use Rattle.propagate_visits.proofs.Stepping.{Making}
use Rattle.propagate.proofs.visit_skipping.Given as goal

abbrev pub invariant-loop-visits : goal.invariant-loop-visits
invariant-loop-visits l =
    Making l.n l.steps l.visits l.k l.changed l.initial.k l.initial.changed l.initial.clauses l.initial.literals l.initial.variables l.clauses l.literals l.variables
    × Listed l.n l.chains.heads l.chains.places l.pending.flags l.pending.blocks l.clauses l.literals l.variables

abbrev pub decreases-loop-visits : goal.decreases-loop-visits
decreases-loop-visits l = l.steps - l.visits
