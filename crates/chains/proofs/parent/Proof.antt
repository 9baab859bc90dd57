-- `chains::parent` meets its contract. Assumes nothing.
use native.Mathlib.Omega.{arith}
use Prim.Native.Nat.{◌*◌, ◌<◌}
use mathlib.Core.Path.{◌≡◌, sym, ap, subst, ◌∙◌}
use lib.IntN.{ℤ, nat_abs, pos}
use lib.ListN.{get_or}
use Rattle.literal.specs.Literals.{Small, slot_of}
use Rattle.literal.proofs.Laws.{slot_below}
use Rattle.literal.proofs.Signed.{back, read}
use Rattle.chains.proofs.parent.Statement.{statement}
use Rattle.chains.proofs.parent.Tie as tie

small : (c : tie.Start) → Small c.args.l
small c = record { small = omega (arith, c.requires.literal.within) }

slot : (c : tie.After-slot_of) → c.slot_of.result ≡ slot_of c.args.l
slot c = c.slot_of.ensures ∙ ap slot_of (back (small c.before))

within : (c : tie.After-slot_of) → slot_of c.args.l < 2048
within c = let L = c.requires.literal in slot_below c.args.l 1024 L.above L.within

slot-of-requires : tie.Need-slot_of-requires
slot-of-requires c κs = subst (λ (z : ℤ). (0 < nat_abs z) × Small z) (sym (back (small c))) (c.requires.literal.above, small c)

mul-result : tie.Need-overflow_mul-result
mul-result c = omega (arith, slot c, within c)

mul-result-2 : tie.Need-offset_bounds-links-slot_of
mul-result-2 c = omega (arith, slot c, within c)

shared-slice-copy-out-result : tie.Need-bounds-links-slot_of
shared-slice-copy-out-result c = omega (arith, slot c, c.requires.room)

returns : tie.Need-returns
returns c = read c.args.links.now (2 * c.slot_of.result) c.result-1.given ∙ ap (λ k. get_or c.args.links.now (2 * k) (pos 0)) (slot c.before)

pub parent_spec : {M : Type 1} → statement M
parent_spec = tie.close (tie.spec
    slot-of-requires
    mul-result
    mul-result-2
    shared-slice-copy-out-result
    returns)
