use Rattle.std.proofs.Common.{arith, ap, sym, ◌∙◌, pos}
use borrow.Author.Rules.{sfits_of}
use Rattle.literal.proofs.Signed.{not_zero, is_lit}
use Rattle.write.specs.Gathered.{unit_for}
use Rattle.write.proofs.Records.{unit_none, unit_some}
use Rattle.write.proofs.Gathering.{unit_of, counting_step, counting_end}
use Rattle.write.proofs.count_units.Goals as goal
use Rattle.write.proofs.count_units.Goals.{then-own_value-ne0, else-own_value-ne0}

pub loop-w-preserved : goal.loop-w-preserved
loop-w-preserved c =
    let w = c.loop-w.w in
    let r = c.own_value in
    let gives = unit_of c.args.variables.now w (omega arith) ∙ ap (unit_for w) (sym r.ensures) in
    elim c.if-own_value-ne0.branch [
      | then-own_value-ne0 b ↦ (
        omega arith,
        counting_step c.loop-w.invariant.1 (omega arith) (gives ∙ unit_some w r.result (not_zero {z = r.result} (sfits_of r.type_inv) b.if-own_value-ne0.true)) (omega arith) b.count-is,
      )
      | else-own_value-ne0 b ↦ (
        omega arith,
        counting_step c.loop-w.invariant.1 (omega arith) (gives ∙ unit_none w r.result (is_lit (sfits_of r.type_inv) (pos 0) tt b.if-own_value-ne0.false)) (omega arith) (omega arith),
      )
    ]

pub returns : goal.returns
returns c = counting_end c.loop-w.invariant.1 (omega arith)

-- behind the last variable
pub returns-after-own_value-ne0 : goal.returns-after-own_value-ne0
returns-after-own_value-ne0 c =
    let w = c.loop-w.w in
    let r = c.own_value in
    let gives = unit_of c.args.variables.now w (omega arith) ∙ ap (unit_for w) (sym r.ensures) in
    elim c.if-own_value-ne0.branch [
      | then-own_value-ne0 b ↦
          counting_end (counting_step c.loop-w.invariant.1 (omega arith) (gives ∙ unit_some w r.result (not_zero {z = r.result} (sfits_of r.type_inv) b.if-own_value-ne0.true)) {j = w} (omega arith) b.count-is) (omega arith)
      | else-own_value-ne0 b ↦
          counting_end (counting_step c.loop-w.invariant.1 (omega arith) (gives ∙ unit_none w r.result (is_lit (sfits_of r.type_inv) (pos 0) tt b.if-own_value-ne0.false)) {j = w} (omega arith) (omega arith)) (omega arith)
    ]
