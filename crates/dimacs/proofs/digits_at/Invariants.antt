-- The digits read and those to come give the value, cut at 65,535, and the run from here on ends where the whole run ends. The measure is
-- what is left of the text.
use Rattle.std.proofs.Common.{◌≡◌, ◌+◌, ◌-◌, ◌≤◌, min, length, drop}
use Rattle.dimacs.specs.Words.{is_digit, span, front}
use Rattle.dimacs.specs.Tokens.{decimal, decimal_from}
use Rattle.dimacs.proofs.digits_at.Given as goal

abbrev pub invariant-loop-next : goal.invariant-loop-next
invariant-loop-next l =
    (l.value ≤ 65535)
    × (min (decimal_from l.value (front is_digit (drop l.next l.text))) 65535 ≡ min (decimal (front is_digit (drop l.at l.text))) 65535)
    × (l.next + span is_digit (drop l.next l.text) ≡ l.at + span is_digit (drop l.at l.text))

abbrev pub decreases-loop-next : goal.decreases-loop-next
decreases-loop-next l = length l.text - l.next
