-- What is left from each code finds what the whole finds.
use Rattle.programmes.proofs.Judging.{Walking}
use Rattle.programmes.proofs.first_offending.Given as goal

abbrev pub invariant-loop-i : goal.invariant-loop-i
invariant-loop-i l = Walking l.codes l.settled l.stamped l.i
