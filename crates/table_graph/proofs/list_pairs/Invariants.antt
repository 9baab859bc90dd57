-- What is stored, and what is left to store, make the whole.
use Rattle.implications.specs.EdgeList.{froms_of, tos_of}
use Rattle.table_graph.proofs.Pairing.{Pairing}
use Rattle.table_graph.proofs.list_pairs.Given as goal

abbrev pub invariant-loop-i : goal.invariant-loop-i
invariant-loop-i l = Pairing l.n l.clauses l.literals (froms_of l.initial.edges) (tos_of l.initial.edges) (froms_of l.edges) (tos_of l.edges) l.k l.i
