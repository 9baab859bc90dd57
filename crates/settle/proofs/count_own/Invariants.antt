use Rattle.settle.proofs.Owning.{Counting}
use Rattle.settle.proofs.count_own.Given as goal

-- w variables are counted
abbrev pub invariant-loop-w : goal.invariant-loop-w
invariant-loop-w l = Counting l.v l.variables l.count l.w
