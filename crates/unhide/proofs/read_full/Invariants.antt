-- The bytes that have come lie in the text, whose length stays.
use Rattle.std.proofs.Common.{length, ◌-◌, ◌≤◌}
use Rattle.unhide.proofs.read_full.Given as goal

abbrev pub invariant-loop-n : goal.invariant-loop-n
invariant-loop-n g l = l.n ≤ length l.text

abbrev pub decreases-loop-n : goal.decreases-loop-n
decreases-loop-n g l = length l.text - l.n
