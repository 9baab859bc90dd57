-- What the definition gives from here on is what it gives from the start.
use Rattle.std.proofs.Common.{◌≡◌, drop}
use Rattle.dimacs.specs.Header.{expect}
use Rattle.dimacs.proofs.expect_bytes.Given as goal

abbrev pub invariant-loop-b : goal.invariant-loop-b
invariant-loop-b l = expect (drop l.b-index l.wanted) (drop l.next l.text) l.next ≡ expect l.wanted (drop l.at l.text) l.at
