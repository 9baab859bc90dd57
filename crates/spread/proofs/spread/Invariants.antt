-- The loop of `spread::spread`: what is still to be spread makes the whole (`Spreading`).
use Rattle.spread.proofs.Spreading.{Spreading}
use Rattle.spread.proofs.spread.Given as goal

abbrev pub invariant-loop-w : goal.invariant-loop-w
invariant-loop-w l = Spreading l.v l.initial.variables l.variables l.w
