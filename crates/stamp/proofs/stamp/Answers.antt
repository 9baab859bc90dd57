-- `stamp::stamp` meets its contract. Assumes nothing.
use Rattle.std.proofs.Common.{sym, ◌∙◌}
use Rattle.tables.specs.Tables.{tables}
use Rattle.stamp.proofs.Asking.{fit_known, known_proper, known_records, call_refused, call_fit}
use Rattle.stamp.proofs.stamp.Goals as goal

pub stamp_acyclic-requires-clause-proper : goal.stamp_acyclic-requires-clause-proper
stamp_acyclic-requires-clause-proper c =
    let t = tables c.args.clauses.now c.args.literals.now c.args.variables.now c.args.times.now c.args.links.now in
    let K = fit_known t c.args.st c.args.order.now (sym c.ask.ensures ∙ c.in-Ok.is) in
    (known_proper K, K.full)

pub stamp_acyclic-requires-clause-records : goal.stamp_acyclic-requires-clause-records
stamp_acyclic-requires-clause-records c =
    let t = tables c.args.clauses.now c.args.literals.now c.args.variables.now c.args.times.now c.args.links.now in
    let K = fit_known t c.args.st c.args.order.now (sym c.ask.ensures ∙ c.in-Ok.is) in
    known_records K

pub returns-in-Err : goal.returns-in-Err
returns-in-Err c =
    let t = tables c.args.clauses.now c.args.literals.now c.args.variables.now c.args.times.now c.args.links.now in
    call_refused c.args.order.now t c.args.st c.in-Err.refusal (sym c.ask.ensures ∙ c.in-Err.is)

pub returns-in-Ok : goal.returns-in-Ok
returns-in-Ok c =
    let t = tables c.args.clauses.now c.args.literals.now c.args.variables.now c.args.times.now c.args.links.now in
    c.stamp_acyclic.ensures c.args.variables.now ∙ call_fit c.args.order.now t c.args.st (sym c.ask.ensures ∙ c.in-Ok.is)
