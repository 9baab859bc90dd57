use Rattle.window.specs.Window.{places}
use Rattle.window.proofs.Checking.{Checking}
use Rattle.window.proofs.clauses_ok.Given as goal

-- the first k clauses are right, and their literals are counted
abbrev pub invariant-loop-k : goal.invariant-loop-k
invariant-loop-k l = Checking l.v (places l.sizes l.learnt l.window) l.k l.total l.last
