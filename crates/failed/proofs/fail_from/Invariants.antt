-- The loop of `failed::fail_from`: what is left from variable w + 1 on gives what the whole gives (`Failing`).
use Rattle.failed.proofs.Failing.{Failing}
use Rattle.failed.proofs.fail_from.Given as goal

abbrev pub invariant-loop-w : goal.invariant-loop-w
invariant-loop-w l = Failing l.v l.times l.links l.initial.variables l.variables l.w l.set
