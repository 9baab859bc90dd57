-- `shape::clauses_by` begins with an empty table of where each variable stood last (`Clausing`). Assumes nothing.
use Rattle.shape.proofs.Clausing.{clausing_begin}
use Rattle.shape.proofs.clauses_by.Goals as goal

pub loop-i-init : goal.loop-i-init
loop-i-init c = let a = c.args in clausing_begin a.v a.settled a.mark a.clauses.now a.literals.now a.variables.now a.last.now c.requires.6
