-- `literal::signed_by` meets its contract. Assumes nothing.
use Rattle.literal.proofs.Signed.{neg_fits, neg_is, back, tested_neg, tested_pos}
use Rattle.literal.proofs.signed_by.Statement.{statement}
use Rattle.literal.proofs.signed_by.Tie as tie

sub-result : tie.Need-overflow_sub-result
sub-result c = neg_fits c.requires

returns : tie.Need-returns-then-l-lt0
returns c = rw (neg_is c.requires, tested_neg c.ranges.l c.if-l-lt0.true)

returns-2 : tie.Need-returns-else-l-lt0
returns-2 c = rw (back c.requires, tested_pos c.ranges.l c.if-l-lt0.false)

pub signed_by_spec : {M : Type 1} → statement M
signed_by_spec = tie.close (tie.spec
    sub-result
    returns
    returns-2)
