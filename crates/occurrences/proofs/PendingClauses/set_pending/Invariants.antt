-- The walk of `occurrences::PendingClauses::set_pending`: the clauses of the places behind p are pending (`Walking`).
use Rattle.occurrences.proofs.Pending.{Walking}
use Rattle.occurrences.proofs.PendingClauses.set_pending.Given as goal

abbrev pub invariant-loop-p : goal.invariant-loop-p
invariant-loop-p l = Walking l.w l.p l.chains.heads l.chains.places l.initial.self.flags l.self.flags l.self.blocks

abbrev pub decreases-loop-p : goal.decreases-loop-p
decreases-loop-p l = l.p
