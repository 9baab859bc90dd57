-- The loop of `occurrences::PendingClauses::next`: the clauses that are pending stay so, and none from k on and before block b is.
use Rattle.std.proofs.Common.{◌≡◌, ◌*◌, ◌≤◌, length}
use Rattle.occurrences.specs.Pending.{Skippable, Covered}
use Rattle.occurrences.proofs.PendingClauses.next.Given as goal

abbrev pub invariant-loop-b : goal.invariant-loop-b
invariant-loop-b l = (l.self.flags ≡ l.initial.self.flags) × (64 ≤ length l.self.blocks) × Skippable l.initial.self.flags l.k (64 * l.b) × Covered l.initial.self.flags l.self.blocks
