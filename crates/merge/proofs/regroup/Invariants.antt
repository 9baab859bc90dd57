-- w variables have their new class (`Regrouping`).
use Rattle.merge.proofs.Regrouping.{Regrouping}
use Rattle.merge.proofs.regroup.Given as goal

abbrev pub invariant-loop-w : goal.invariant-loop-w
invariant-loop-w l = Regrouping l.rep l.v l.fn.variables l.variables l.w
