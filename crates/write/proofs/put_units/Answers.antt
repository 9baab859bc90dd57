use Rattle.std.proofs.Common.{arith, ◌∙◌, w32}
use borrow.Author.Rules.{sfits_of}
use mir.Facts.{to_z-of_z}
use Rattle.write.proofs.Gathering.{unit_of, putting_room, putting_step, putting_end}
use Rattle.write.proofs.put_units.Goals as goal

pub put_unit-requires : goal.put_unit-requires
put_unit-requires c =
    let w = c.loop-w.w in
    let value = to_z-of_z {w = w32} (sfits_of c.own_value.type_inv) ∙ c.own_value.ensures in
    rw value (omega arith, putting_room c.loop-w.invariant (omega arith) (unit_of c.args.variables.now w (omega arith)) c.requires.2)

pub loop-w-preserved : goal.loop-w-preserved
loop-w-preserved c =
    let w = c.loop-w.w in
    let value = to_z-of_z {w = w32} (sfits_of c.own_value.type_inv) ∙ c.own_value.ensures in
    let stored = rw value at c.put_unit.ensures in
    putting_step c.loop-w.invariant (omega arith) (unit_of c.args.variables.now w (omega arith)) (omega arith) stored

pub returns : goal.returns
returns c = putting_end c.loop-w.invariant (omega arith)

-- behind the last variable
pub returns-2 : goal.returns-2
returns-2 c =
    let w = c.loop-w.w in
    let value = to_z-of_z {w = w32} (sfits_of c.own_value.type_inv) ∙ c.own_value.ensures in
    let stored = rw value at c.put_unit.ensures in
    putting_end (putting_step c.loop-w.invariant (omega arith) (unit_of c.args.variables.now w (omega arith)) {j = w} (omega arith) stored) (omega arith)
