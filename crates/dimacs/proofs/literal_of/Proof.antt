-- `dimacs::literal_of` meets its contract: a magnitude of at most 1,024 and its complement are i32. Assumes nothing.
use Rattle.literal.specs.Literals.{Small}
use Rattle.literal.proofs.Signed.{neg_fits, neg_is, back}
use lib.IntN.{pos}
use native.Mathlib.Omega.{arith}
use borrow.Author.Rules.{rules}
use Rattle.dimacs.proofs.literal_of.Statement.{statement}
use Rattle.dimacs.proofs.literal_of.Tie as tie

small : (s : tie.Start) → Small (pos s.args.magnitude)
small s = record { small = omega (arith, s.requires) }

cast-m : tie.Need-overflow_cast-m
cast-m c = search rules

sub-result : tie.Need-overflow_sub-result
sub-result c = neg_fits (small c.before)

returns : tie.Need-returns-then-negative
returns c = rw c.if-negative.true (neg_is (small c.before))

returns-2 : tie.Need-returns-else-negative
returns-2 c = rw c.if-negative.false (back (small c.before))

pub literal_of_spec : {M : Type 1} → statement M
literal_of_spec = tie.close (tie.spec
    cast-m
    sub-result
    returns
    returns-2)
