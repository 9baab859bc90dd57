use Rattle.std.proofs.Common.{arith, rules, ◌∙◌, pos}
use Rattle.literal.proofs.Signed.{small_fits, bits_eq, bits_ne}
use Rattle.tables.specs.Tables.{class_of}
use Rattle.write.proofs.Records.{class_none, class_some}
use Rattle.write.proofs.Gathering.{class_clauses_of, counting_step, counting_end}
use Rattle.write.proofs.count_classes.Goals as goal
use Rattle.write.proofs.count_classes.Goals.{then-variables-w, else-variables-w}

pub loop-w-preserved : goal.loop-w-preserved
loop-w-preserved c =
    let w = c.loop-w.w in
    let class = class_of c.args.variables.now w in
    let gives = class_clauses_of c.args.variables.now w (omega arith) in
    elim c.if-variables-w.branch [
      | then-variables-w b ↦ (
        omega arith,
        counting_step c.loop-w.invariant.1 (omega arith) (gives ∙ class_some w class (bits_ne class (pos w) b.if-variables-w.true)) (omega arith) b.count-is,
      )
      | else-variables-w b ↦ (
        omega arith,
        counting_step c.loop-w.invariant.1 (omega arith) (gives ∙ class_none w class (bits_eq (search rules) (small_fits {z = pos w} (record { small = omega arith })) b.if-variables-w.false)) (omega arith) (omega arith),
      )
    ]

pub returns : goal.returns
returns c = counting_end c.loop-w.invariant.1 (omega arith)

-- behind the last variable
pub returns-after-variables-w : goal.returns-after-variables-w
returns-after-variables-w c =
    let w = c.loop-w.w in
    let class = class_of c.args.variables.now w in
    let gives = class_clauses_of c.args.variables.now w (omega arith) in
    elim c.if-variables-w.branch [
      | then-variables-w b ↦ counting_end (counting_step c.loop-w.invariant.1 (omega arith) (gives ∙ class_some w class (bits_ne class (pos w) b.if-variables-w.true)) {j = w} (omega arith) b.count-is) (omega arith)
      | else-variables-w b ↦
          counting_end (counting_step c.loop-w.invariant.1 (omega arith) (gives ∙ class_none w class (bits_eq (search rules) (small_fits {z = pos w} (record { small = omega arith })) b.if-variables-w.false)) {j = w} (omega arith) (omega arith)) (omega arith)
    ]
