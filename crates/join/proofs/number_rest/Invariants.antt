-- The right variables up to here have their numbers, the others what the links gave them.
use Rattle.join.proofs.Numbering.{Loop}
use Rattle.join.proofs.number_rest.Given as goal

abbrev pub invariant-loop-i : goal.invariant-loop-i
invariant-loop-i l = Loop l.v l.w l.initial.numbering l.numbering l.last l.i
