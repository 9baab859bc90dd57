use Rattle.std.proofs.Common.{arith, rules, ap, ◌∙◌, ◌*◌, ◌<◌, ◌≡◌, get_or, pos, ℤ}
use mir.Facts.{to_z-of_z}
use borrow.Author.Rules.{sfits_of}
use Rattle.literal.specs.Literals.{slot_of}
use Rattle.literal.proofs.Signed.{read}
use Rattle.merge.proofs.Regrouping.{regrouping_none, regrouping_all, regrouping_step, class_ranged, slot_in}
use Rattle.merge.proofs.regroup.Goals as goal
use Rattle.merge.proofs.regroup.Goals.{After-slot_of-slot}

-- the class that is read
abbrev class : After-slot_of-slot → ℤ
class c = get_or c.loop-w.variables (2 * c.loop-w.w) (pos 0)

slot_is : (c : After-slot_of-slot) → c.slot_of-slot.result ≡ slot_of (class c)
slot_is c = c.slot_of-slot.ensures ∙ ap slot_of (read c.loop-w.variables (2 * c.loop-w.w) (search rules))

slot_below : (c : After-slot_of-slot) → c.slot_of-slot.result < 2 * c.args.v
slot_below c = omega (arith, slot_is c, slot_in c.requires c.loop-w.invariant c.loop-w-test.true)

pub loop-w-init : goal.loop-w-init
loop-w-init c = regrouping_none c.args.rep.now c.args.v c.args.variables.now

pub slot_of-slot-requires : goal.slot_of-slot-requires
slot_of-slot-requires c =
    let ranged = class_ranged c.requires c.loop-w.invariant c.loop-w-test.true in
    rw (read c.loop-w.variables (2 * c.loop-w.w) (search rules)) (ranged.above, record { small = omega (arith, ranged.within, c.requires.few) })

pub bounds-rep-slot : goal.bounds-rep-slot
bounds-rep-slot c = omega (arith, slot_below (goal.at.bounds-rep-slot c).After-slot_of-slot, c.requires.slots)

pub lit_at-requires : goal.lit_at-requires
lit_at-requires c =
    let below = slot_below (goal.at.lit_at-requires c).After-slot_of-slot in
    omega (arith, below, c.requires.below c.slot_of-slot.result below, c.requires.few)

pub loop-w-preserved : goal.loop-w-preserved
loop-w-preserved c =
    let at = slot_is (goal.at.loop-w-preserved c).After-slot_of-slot in
    rw (to_z-of_z {z = c.lit_at.result} (sfits_of c.lit_at.type_inv), c.lit_at.ensures, at) (regrouping_step c.requires c.loop-w.invariant c.loop-w-test.true)

pub returns : goal.returns
returns c = regrouping_all c.loop-w-test.false c.loop-w.invariant
