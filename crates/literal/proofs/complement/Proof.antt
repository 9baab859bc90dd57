-- `literal::complement` meets its contract. Assumes nothing.
use Rattle.literal.proofs.Signed.{signed}
use Rattle.literal.proofs.complement.Statement.{statement}
use Rattle.literal.proofs.complement.Tie as tie

sub-result : tie.Need-overflow_sub-result
sub-result c = search signed

returns : tie.Need-returns
returns c = search signed

pub complement_spec : {M : Type 1} → statement M
complement_spec = tie.close (tie.spec
    sub-result
    returns)
