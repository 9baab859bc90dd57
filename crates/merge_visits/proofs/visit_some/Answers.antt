use Rattle.tables.specs.Tables.{tables}
use Rattle.visits.proofs.Composing.{visit_tables}
use Rattle.merge_visits.specs.Clause.{merge_clause}
use Rattle.merge_visits.proofs.Passing.{passing_one, passing_next, passing_done}
use Rattle.merge_visits.proofs.visit_some.Goals as goal

pub visit_clause-requires : goal.visit_clause-requires
visit_clause-requires c = (passing_one c.loop-i.invariant.0 c.loop-i-test.true, c.loop-i.invariant.1)

pub loop-i-preserved : goal.loop-i-preserved
loop-i-preserved c =
    let v = c.visit_clause in
    let at = c.loop-i in
    let w = c.args.variables.now in (
      passing_next at.invariant.0 c.loop-i-test.true v.new.clauses v.new.literals (λ times links. visit_tables (merge_clause w) at.i (tables at.clauses at.literals w times links) (v.ensures.0 times links)) v.auto.clauses v.auto.literals,
      v.ensures.1,
    )

pub returns : goal.returns
returns c = passing_done c.loop-i.invariant.0 c.loop-i-test.false
