-- The line from here on ends where the whole line ends. The measure is what is left of the text.
use Rattle.std.proofs.Common.{◌≡◌, ◌+◌, ◌-◌, ◌≤◌, length, drop}
use Rattle.dimacs.specs.Words.{is_line_byte, span}
use Rattle.dimacs.proofs.blocks_end.Given as goal

abbrev pub invariant-loop-end : goal.invariant-loop-end
invariant-loop-end l = (l.end ≤ length l.text) × (l.end + span is_line_byte (drop l.end l.text) ≡ l.at + span is_line_byte (drop l.at l.text))

abbrev pub decreases-loop-end : goal.decreases-loop-end
decreases-loop-end l = length l.text - l.end
