-- The run from here on ends where the whole run ends. The measure is what is left of the text.
use Rattle.std.proofs.Common.{◌≡◌, ◌+◌, ◌-◌, length, drop}
use Rattle.dimacs.specs.Words.{is_sep, span}
use Rattle.dimacs.proofs.separators_end.Given as goal

abbrev pub invariant-loop-end : goal.invariant-loop-end
invariant-loop-end l = l.end + span is_sep (drop l.end l.text) ≡ l.at + span is_sep (drop l.at l.text)

abbrev pub decreases-loop-end : goal.decreases-loop-end
decreases-loop-end l = length l.text - l.end
