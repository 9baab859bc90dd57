-- The records of i variables are laid (`Owning`).
use Rattle.load.proofs.Fill.{Owning}
use Rattle.load.proofs.lay_variables.Given as goal

abbrev pub invariant-loop-i : goal.invariant-loop-i
invariant-loop-i l = Owning l.fn.variables l.n l.variables l.i
