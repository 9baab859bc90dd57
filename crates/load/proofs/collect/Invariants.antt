-- What is left of the clause, stored from here on, gives the whole of it (`Collecting`).
use Rattle.std.proofs.Common.{◌+◌}
use Rattle.load.proofs.Steps.{Collecting}
use Rattle.load.proofs.collect.Given as goal

abbrev pub invariant-loop-l : goal.invariant-loop-l
invariant-loop-l l = Collecting l.numbers l.at l.start l.fn.literals l.literals (l.from + l.l-index) l.end
