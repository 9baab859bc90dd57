-- `literal::lit_at` meets its contract. Assumes nothing.
use Prim.Native.Nat.{◌+◌, ◌/◌}
use lib.IntN.{pos}
use native.Mathlib.Omega.{arith}
use borrow.Author.Rules.{rules}
use borrow.Author.Tests.{eq-eqb, ne_eqb}
use Rattle.literal.specs.Literals.{Small}
use Rattle.literal.proofs.Signed.{neg_fits, neg_is, back}
use Rattle.literal.proofs.lit_at.Statement.{statement}
use Rattle.literal.proofs.lit_at.Tie as tie

var : (c : tie.Start) → Small (pos (c.args.slot / 2 + 1))
var c = record { small = omega arith }

add-v : tie.Need-overflow_add-v
add-v c = search rules

cast-v : tie.Need-overflow_cast-v
cast-v c = search rules

sub-result : tie.Need-overflow_sub-result
sub-result c = neg_fits (var c.before)

returns : tie.Need-returns-then-slot-eq0
returns c = rw (back (var c.before), eq-eqb _ _ c.if-slot-eq0.true)

returns-2 : tie.Need-returns-else-slot-eq0
returns-2 c = rw (neg_is (var c.before), ne_eqb _ _ c.if-slot-eq0.false)

pub lit_at_spec : {M : Type 1} → statement M
lit_at_spec = tie.close (tie.spec
    add-v
    cast-v
    sub-result
    returns
    returns-2)
