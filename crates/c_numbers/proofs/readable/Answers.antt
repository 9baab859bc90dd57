-- The tests are those of the definition. Assumes nothing.
use Rattle.std.proofs.Common.{rules}
use Rattle.c_numbers.specs.StateNumbers.{readable}
use Rattle.c_numbers.proofs.readable.Goals as goal

pub returns-then-state-le1-2 : goal.returns-then-state-le1-2
unfolding readable
returns-then-state-le1-2 c = search rules

pub returns-else-state-le1-2 : goal.returns-else-state-le1-2
unfolding readable
returns-else-state-le1-2 c = search rules
