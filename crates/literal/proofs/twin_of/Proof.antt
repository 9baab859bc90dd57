-- `literal::twin_of` meets its contract. Assumes nothing.
use Rattle.literal.proofs.Twins.{twin_even, twin_odd}
use mathlib.Core.Path.{sym}
use borrow.Author.Rules.{rules}
use Rattle.literal.proofs.twin_of.Statement.{statement}
use Rattle.literal.proofs.twin_of.Tie as tie
use Rattle.literal.proofs.twin_of.Reads as reads
use Rattle.literal.proofs.twin_of.Lts as lts

add-result : tie.Need-overflow_add-result
add-result c = search rules

sub-result : tie.Need-overflow_sub-result
sub-result c = search rules

returns : tie.Need-returns-then-slot-eq0
returns c = sym (twin_even c.args.slot c.if-slot-eq0.true)

returns-2 : tie.Need-returns-else-slot-eq0
returns-2 c = sym (twin_odd c.args.slot c.if-slot-eq0.false)

pub twin_of_spec : {M : Type 1} → statement M
twin_of_spec = tie.close (tie.spec
    add-result
    sub-result
    returns
    returns-2)
