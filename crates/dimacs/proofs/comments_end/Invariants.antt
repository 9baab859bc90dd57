-- What the definition gives from here on is what it gives from the start. The measure is what is left of the text.
use Rattle.std.proofs.Common.{◌≡◌, ◌-◌, false, length, drop}
use Rattle.dimacs.specs.Header.{comments}
use Rattle.dimacs.proofs.comments_end.Given as goal

abbrev pub invariant-loop-at : goal.invariant-loop-at
invariant-loop-at l = comments false (drop l.at l.text) l.at ≡ comments false l.text 0

abbrev pub decreases-loop-at : goal.decreases-loop-at
decreases-loop-at l = length l.text - l.at
