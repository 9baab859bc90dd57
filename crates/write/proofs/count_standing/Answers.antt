use Rattle.std.proofs.Common.{arith, refl}
use Rattle.tables.specs.Tables.{standing}
use Rattle.tables.specs.Clauses.{literals_of}
use Rattle.write.proofs.Records.{clause_none, clause_some}
use Rattle.write.proofs.Gathering.{counting_step, counting_end}
use Rattle.write.proofs.count_standing.Goals as goal
use Rattle.write.proofs.count_standing.Goals.{then-clauses-i-ne0, else-clauses-i-ne0}

pub loop-i-preserved : goal.loop-i-preserved
loop-i-preserved c =
    let i = c.loop-i.i in
    let xs = c.args.clauses.now in
    elim c.if-clauses-i-ne0.branch [
      | then-clauses-i-ne0 w ↦ (
        omega arith,
        λ ls. counting_step (c.loop-i.invariant.1 ls) c.loop-i-test.true (clause_some (standing xs i) (literals_of xs ls i) w.if-clauses-i-ne0.true) refl w.count-is,
      )
      | else-clauses-i-ne0 w ↦ (
        omega arith,
        λ ls. counting_step (c.loop-i.invariant.1 ls) c.loop-i-test.true (clause_none (standing xs i) (literals_of xs ls i) w.if-clauses-i-ne0.false) refl (omega arith),
      )
    ]

pub returns : goal.returns
returns c = λ ls. counting_end (c.loop-i.invariant.1 ls) c.loop-i-test.false
