-- The chains from k on are still to be written.
use Rattle.write.proofs.Gathering.{Putting}
use Rattle.chains.specs.Chains.{chain_at}
use Rattle.chains.proofs.put_chains.Given as goal

abbrev pub invariant-loop-k : goal.invariant-loop-k
invariant-loop-k l = Putting (chain_at l.links l.ends) l.n l.initial.writer l.k l.writer
