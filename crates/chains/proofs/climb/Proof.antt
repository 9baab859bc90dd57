-- `chains::climb` meets its contract. The loop's invariant: the row behind the place holds what was passed (`Rowed`). Assumes nothing.
use native.Mathlib.Omega.{arith}
use mathlib.Core.Path.{◌≡◌, sym, ap, subst, ◌∙◌}
use mir.Syntax.{w32}
use mir.Val.{Fits, to_z, of_z}
use mir.Facts.{to_z_inj, Fits-of_z}
use borrow.Author.Rules.{rules}
use Prim.Native.Nat.{◌-◌}
use lib.IntN.{ℤ}
use lib.ListN.{set}
use Rattle.literal.specs.Literals.{Small}
use Rattle.literal.proofs.Signed.{small_fits, back}
use Rattle.chains.specs.Chains.{ends, chain_of}
use Rattle.chains.specs.Climbing.{Climbable}
use Rattle.chains.proofs.Rowed.{Rowed, rowed_begin, rowed_parented, rowed_room, rowed_step, rowed_end, end_small, here_small}
use Rattle.chains.proofs.climb.Statement.{statement}
use Rattle.chains.proofs.climb.Tie as tie

abbrev invariant-loop : tie.invariant-loop-l
invariant-loop links top bottom row₀ at₀ l₀ row at l = Rowed links (to_z w32 top) (to_z w32 bottom) row at (to_z w32 l) × Fits w32 l

abbrev decreases-loop : tie.decreases-loop-l
decreases-loop links top bottom row₀ at₀ l₀ row at l = at

-- the ends that were handed in
same : (c : tie.Start invariant-loop decreases-loop) → ends (to_z w32 (of_z w32 c.args.top)) (to_z w32 (of_z w32 c.args.bottom)) ≡ ends c.args.top c.args.bottom
same c = λ i. ends (back (end_small c.requires.0).0 i) (back (end_small c.requires.0).1 i)

-- l is not the top
other : (c : tie.After-parent-l invariant-loop decreases-loop) → to_z w32 c.loop-l.l-bits ≡ to_z w32 (of_z w32 c.args.top) → ⊥
other c e = c.loop-l-test.true (to_z_inj c.loop-l.invariant.1 (Fits-of_z (small_fits (end_small c.requires.0).0)) e)

mul-l : tie.Need-offset_bounds-row-at invariant-loop decreases-loop
mul-l c = search rules

slice-set-from-l : tie.Need-bounds-row-at invariant-loop decreases-loop
slice-set-from-l c = omega (arith, c.requires.1)

loop-holds : tie.Need-loop-l-init invariant-loop decreases-loop
loop-holds c = (rowed_begin c.args.row.now (subst (Climbable c.args.links.now) (sym (same c)) c.requires.0) c.requires.1, Fits-of_z (small_fits (end_small c.requires.0).1))

parent-requires : tie.Need-parent-l-requires invariant-loop decreases-loop
parent-requires c κs = rowed_parented c.loop-l.invariant.0

sub_at : tie.Need-overflow_sub-at invariant-loop decreases-loop
sub_at c = rowed_room c.loop-l.invariant.0 (other c)

mul-l-2 : tie.Need-offset_bounds-row-at-in-loop-l invariant-loop decreases-loop
mul-l-2 c = omega (arith, c.loop-l.invariant.0.within)

slice-set-from-l-2 : tie.Need-bounds-row-at-in-loop-l invariant-loop decreases-loop
slice-set-from-l-2 c = let R = c.loop-l.invariant.0 in omega (arith, R.within, R.size)

loop-less : tie.Need-loop-l-smaller invariant-loop decreases-loop
loop-less c = omega (arith, rowed_room c.loop-l.invariant.0 (other c))

loop-again : tie.Need-loop-l-preserved invariant-loop decreases-loop
loop-again c =
    let l = c.loop-l in
    let R = rowed_step l.invariant.0 (other c) in
    let small = here_small R in
    let e = ap (λ (z : ℤ). to_z w32 (of_z w32 z)) c.parent-l.ensures ∙ back small in
    (subst (λ (z : ℤ). Rowed c.args.links.now (to_z w32 (of_z w32 c.args.top)) (to_z w32 (of_z w32 c.args.bottom)) (set l.row (l.at - 1) z) (l.at - 1) z) (sym e) R, Fits-of_z (small_fits (subst Small (sym c.parent-l.ensures) small)))

same_length : tie.Need-shape_of-row invariant-loop decreases-loop
same_length c = c.loop-l.invariant.0.size ∙ sym c.requires.1

returns : tie.Need-returns invariant-loop decreases-loop
returns c = let R = c.loop-l.invariant.0 in (R.within, rowed_end R (ap (to_z w32) c.loop-l-test.false) ∙ ap (chain_of c.args.links.now) (same c.before.before))

pub climb_spec : {M : Type 1} → statement M
climb_spec =
    tie.close
    (tie.spec
    invariant-loop
    decreases-loop
    mul-l
    slice-set-from-l
    loop-holds
    parent-requires
    sub_at
    mul-l-2
    slice-set-from-l-2
    loop-less
    loop-again
    same_length
    returns)
