use Rattle.repeats.proofs.Keeping.{Keeping}
use Rattle.repeats.proofs.keep_first.Given as goal

-- the first of each literal of the first i stand in front, with their marks
abbrev pub invariant-loop-i : goal.invariant-loop-i
invariant-loop-i l = Keeping l.fn.part l.part l.marks l.n l.both l.i
