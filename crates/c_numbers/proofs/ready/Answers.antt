-- The tests are those of the definition. Assumes nothing.
use Rattle.std.proofs.Common.{rules}
use Rattle.c_numbers.specs.CCalls.{ready}
use Rattle.c_numbers.proofs.ready.Goals as goal

pub returns-then-answer-ge4 : goal.returns-then-answer-ge4
unfolding ready
returns-then-answer-ge4 c = search rules

pub returns-else-answer-ge4 : goal.returns-else-answer-ge4
unfolding ready
returns-else-answer-ge4 c = search rules
