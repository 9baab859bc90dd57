-- `failed::fail_from` meets its contract. Assumes nothing.
use Rattle.failed.proofs.Failing.{failing_ends, failing_goes, failing_done}
use Rattle.failed.proofs.fail_from.Goals as goal

pub returns-then-t : goal.returns-then-t
returns-then-t c = let t = c.fail_variable-t in failing_ends c.loop-w.invariant c.loop-w-test.true t.result t.new.variables t.ensures c.if-t.true

pub loop-w-preserved : goal.loop-w-preserved
loop-w-preserved c = let t = c.fail_variable-t in failing_goes c.loop-w.invariant c.loop-w-test.true t.result t.new.variables t.ensures c.if-t.false

pub returns : goal.returns
returns c = failing_done c.loop-w.invariant c.loop-w-test.false
