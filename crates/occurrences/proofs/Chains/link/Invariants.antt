-- The loop of `occurrences::Chains::link`: the places of the first i clauses are linked.
use Rattle.occurrences.specs.Chains.{Linking, ChainRoom}
use Rattle.occurrences.proofs.Chains.link.Given as goal

abbrev pub invariant-loop-i : goal.invariant-loop-i
invariant-loop-i l = ChainRoom l.self.heads l.self.places × Linking l.i 0 l.clauses l.literals l.self.heads l.self.places
