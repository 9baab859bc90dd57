-- `write::literal_of` meets its contract. Assumes nothing.
use native.Mathlib.Omega.{arith}
use lib.IntN.{pos}
use borrow.Author.Rules.{rules}
use Rattle.literal.specs.Literals.{Small}
use Rattle.literal.proofs.Signed.{neg_fits, neg_is, back, tested_neg, tested_pos}
use Rattle.write.proofs.literal_of.Statement.{statement}
use Rattle.write.proofs.literal_of.Tie as tie

var : (c : tie.Start) → Small (pos c.args.w)
var c = record { small = omega arith }

cast-l : tie.Need-overflow_cast-l
cast-l c = search rules

sub-result : tie.Need-overflow_sub-result
sub-result c = neg_fits (var c.before)

returns : tie.Need-returns-then-value-lt0
returns c = rw (neg_is (var c.before), tested_neg c.ranges.value c.if-value-lt0.true)

returns-2 : tie.Need-returns-else-value-lt0
returns-2 c = rw (back (var c.before), tested_pos c.ranges.value c.if-value-lt0.false)

pub literal_of_spec : {M : Type 1} → statement M
literal_of_spec = tie.close (tie.spec
    cast-l
    sub-result
    returns
    returns-2)
