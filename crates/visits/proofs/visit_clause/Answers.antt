use Rattle.std.proofs.Common.{refl}
use Rattle.visits.proofs.Composing.{Bounds, lent_is, back_is}
use Rattle.visits.proofs.visit_clause.Goals as goal

pub returns-clause-seen : goal.returns-clause-seen
returns-clause-seen g c = λ stands.
    let b : Bounds c.args.k c.args.clauses.now c.part_start-start.result c.part_end-end.result = record { starts = c.part_start-start.ensures; ends = c.part_end-end.ensures } in (
      c.visit-seen.new.arg2,
      record { shown = _; shows = lent_is b c.args.literals.now; left = _; called = c.visit-seen.ensures; leaves = refl },
      c.put_record.ensures,
      back_is b c.args.literals.now c.visit-seen.new.arg2,
    )
