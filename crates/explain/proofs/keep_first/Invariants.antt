-- What stays of the literals that are passed is the first n of the rest.
use Rattle.explain.proofs.Searching.{Keeping}
use Rattle.explain.proofs.keep_first.Given as goal

abbrev pub invariant-loop-l : goal.invariant-loop-l
invariant-loop-l l = Keeping l.times l.part l.rest l.n l.l-index
