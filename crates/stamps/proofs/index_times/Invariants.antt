-- The places before k are entered.
use Rattle.stamps.proofs.Indexing.{Indexing}
use Rattle.stamps.proofs.index_times.Given as goal

abbrev pub invariant-loop-k : goal.invariant-loop-k
invariant-loop-k l = Indexing l.n l.times l.index l.k
