use Rattle.settle.specs.Own.{owns}
use Rattle.settle.proofs.Settling.{Settling}
use Rattle.settle.proofs.settle.Given as goal

-- what is left from here gives what Settle gives
abbrev pub invariant-loop-next : goal.invariant-loop-next
invariant-loop-next l = Settling l.fn.st l.fn.clauses l.fn.literals l.fn.variables l.state l.clauses l.literals l.variables

abbrev pub decreases-loop-next : goal.decreases-loop-next
decreases-loop-next l = owns l.state.v l.variables
