-- The tests are those of the definition. Assumes nothing.
use Rattle.std.proofs.Common.{rules}
use Rattle.c_numbers.specs.WindowCalls.{ready_with}
use Rattle.c_numbers.proofs.ready_with.Goals as goal

pub returns-then-window-ge2 : goal.returns-then-window-ge2
unfolding ready_with
returns-then-window-ge2 c = search rules

pub returns-else-window-ge2 : goal.returns-else-window-ge2
unfolding ready_with
returns-else-window-ge2 c = search rules
