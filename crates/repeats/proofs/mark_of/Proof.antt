-- `repeats::mark_of` meets its contract: the sum is the place of the mark. Assumes nothing.
use native.Mathlib.Omega.{arith}
use mathlib.Core.Path.{◌≡◌, sym, ap, ◌∙◌, subst}
use lib.IntN.{ℤ, pos, nat_abs, ◌+ℤ◌}
use mir.Syntax.{w32}
use mir.Val.{SFits, of_z, to_z}
use Rattle.literal.specs.Literals.{Small}
use Rattle.literal.proofs.Signed.{back, small_fits}
use Rattle.repeats.specs.Marks.{mark_of}
use Rattle.repeats.proofs.Marks.{mark_plus, mark_below}
use Rattle.repeats.proofs.mark_of.Statement.{statement}
use Rattle.repeats.proofs.mark_of.Tie as tie

module _ (c : tie.Start) where
  literal-small : Small c.args.l
  literal-small = record { small = omega (arith, c.requires.within) }

  -- the sum, as it is computed
  sum : to_z w32 (of_z w32 c.args.l) +ℤ pos 1024 ≡ pos (mark_of c.args.l)
  sum = ap (λ (z : ℤ). z +ℤ pos 1024) (back literal-small) ∙ mark_plus c.args.l c.requires

  small : Small (pos (mark_of c.args.l))
  small = record { small = omega (arith, mark_below c.args.l c.requires) }

  stored : to_z w32 (of_z w32 (to_z w32 (of_z w32 c.args.l) +ℤ pos 1024)) ≡ pos (mark_of c.args.l)
  stored = ap (λ (z : ℤ). to_z w32 (of_z w32 z)) sum ∙ back small

add-result : tie.Need-overflow_add-result
add-result c = subst (SFits w32) (sym (sum c)) (small_fits (small c))

cast-result : tie.Need-overflow_cast-result
cast-result c = rw (stored c) (tt, omega (arith, mark_below c.args.l c.requires))

returns : tie.Need-returns
returns c = ap nat_abs (stored c)

pub mark_of_spec : {M : Type 1} → statement M
mark_of_spec = tie.close (tie.spec
    add-result
    cast-result
    returns)
