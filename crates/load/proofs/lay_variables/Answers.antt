use Rattle.std.proofs.Common.{arith, ◌*◌, ◌∙◌, refl, rules, pos, w32}
use mir.Facts.{to_z_pos}
use Rattle.load.proofs.Fill.{cleared_part, own_step, own_end}
use Rattle.load.proofs.lay_variables.Goals as goal

pub loop-i-preserved : goal.loop-i-preserved
loop-i-preserved c = own_step c.loop-i.invariant c.loop-i-test.true (to_z_pos w32 (omega (arith, c.loop-i.invariant.small))) refl

pub returns : goal.returns
returns c =
    let laid = c.loop-i.invariant in
    cleared_part (pos 0) c.loop-i.variables (2 * c.args.v) 2048 (omega (arith, laid.small)) laid.room (c.fill.ensures.after (search rules)) ∙ own_end laid c.loop-i-test.false
