-- The literals from the loop's index on, and the end of the line, are still to be written.
use Rattle.std.proofs.Common.{drop}
use Rattle.printing.specs.Printing.{clause_text}
use Rattle.printing.proofs.Storing.{Remains}
use Rattle.printing.proofs.Writer.put_clause.Given as goal

abbrev pub invariant-loop-l : goal.invariant-loop-l
invariant-loop-l l = Remains (clause_text (drop l.l-index l.clause)) (clause_text l.clause) l.fn.self l.self
