-- An LF was found exactly if the run of other bytes from the start ends before here.
use Rattle.std.proofs.Common.{◌≡◌, ltb}
use Rattle.dimacs.specs.Words.{is_line_byte, span}
use Rattle.dimacs.proofs.has_line_feed.Given as goal

abbrev pub invariant-loop-b : goal.invariant-loop-b
invariant-loop-b l = l.found ≡ ltb (span is_line_byte l.block) l.b-index
