-- What the records from i on give is still to be written (`Putting`).
use Rattle.write.specs.Gathered.{written_at}
use Rattle.write.proofs.Gathering.{Putting}
use Rattle.write.proofs.put_standing.Given as goal

abbrev pub invariant-loop-i : goal.invariant-loop-i
invariant-loop-i l = Putting (written_at l.clauses l.literals) l.n l.fn.writer l.i l.writer
