use Rattle.std.proofs.Common.{ap, ◌∙◌}
use Rattle.state.specs.declared.Outcome.{Outcome}
use Rattle.tables.specs.Tables.{Tables, tables}
use Rattle.tables.specs.Calls.{after}
use Rattle.stamp.proofs.Asking.{acyclic_by}
use Rattle.stamp.proofs.stamp_acyclic.Goals as goal

pub returns : goal.returns
returns c = λ variables.
    let a = c.args in
    let w = c.write_stamps-cyclic in
    let u : Tables = tables a.clauses.now a.literals.now variables w.new.times w.new.links in
    ap (λ (o : Outcome). after o u) c.answer.ensures
    ∙ acyclic_by a.order.now (tables a.clauses.now a.literals.now variables a.times.now a.links.now) a.st u w.result w.ensures.0 (w.ensures.1 variables)
