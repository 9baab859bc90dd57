-- The loop of `occurrences::PendingClauses::first_between`: no clause before i is pending.
use Rattle.occurrences.specs.Pending.{Skippable}
use Rattle.occurrences.proofs.PendingClauses.first_between.Given as goal

abbrev pub invariant-loop-i : goal.invariant-loop-i
invariant-loop-i l = Skippable l.self.flags l.from l.i
