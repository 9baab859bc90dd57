-- The loop of `occurrences::Chains::link_clause`: the places of the clause before p are linked.
use Rattle.std.proofs.Common.{◌-◌}
use Rattle.occurrences.specs.Chains.{Linking, ChainRoom}
use Rattle.occurrences.proofs.Chains.link_clause.Given as goal

abbrev pub invariant-loop-p : goal.invariant-loop-p
invariant-loop-p l = ChainRoom l.self.heads l.self.places × Linking l.i (l.p - l.start) l.clauses l.literals l.self.heads l.self.places
