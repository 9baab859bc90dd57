-- The line from here on ends where the whole line ends.
use Rattle.std.proofs.Common.{◌≡◌, ◌+◌, drop}
use Rattle.dimacs.specs.Words.{is_line_byte, span}
use Rattle.dimacs.proofs.line_feed_at.Given as goal

abbrev pub invariant-loop-i : goal.invariant-loop-i
invariant-loop-i l = l.start + l.i + span is_line_byte (drop (l.start + l.i) l.text) ≡ l.at + span is_line_byte (drop l.at l.text)
