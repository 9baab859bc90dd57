-- The bytes from the loop's index on are still to be written.
use Rattle.std.proofs.Common.{drop}
use Rattle.printing.proofs.Storing.{Remains}
use Rattle.printing.proofs.Writer.put_text.Given as goal

abbrev pub invariant-loop-b : goal.invariant-loop-b
invariant-loop-b l = Remains (drop l.b-index l.s) l.s l.fn.self l.self
