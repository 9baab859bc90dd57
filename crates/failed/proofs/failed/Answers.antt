-- `failed::failed` meets its contract: the call is its definition. Assumes nothing.
use Rattle.std.proofs.Common.{sym, ◌∙◌}
use Rattle.tables.specs.Tables.{tables}
use Rattle.failed.proofs.Calling.{call_refused, call_granted, granted_callable}
use Rattle.failed.proofs.failed.Goals as goal

pub unless_stale-requires : goal.unless_stale-requires
unless_stale-requires c =
    let t = tables c.args.clauses.now c.args.literals.now c.args.variables.now c.args.times.now c.args.links.now in
    granted_callable t c.args.st (sym c.may_open.ensures ∙ c.in-Ok.is)

pub returns-in-Err : goal.returns-in-Err
returns-in-Err c =
    let t = tables c.args.clauses.now c.args.literals.now c.args.variables.now c.args.times.now c.args.links.now in
    call_refused t c.args.st c.in-Err.refusal (sym c.may_open.ensures ∙ c.in-Err.is)

pub returns-in-Ok : goal.returns-in-Ok
returns-in-Ok c =
    let t = tables c.args.clauses.now c.args.literals.now c.args.variables.now c.args.times.now c.args.links.now in
    c.unless_stale.ensures c.args.clauses.now c.args.literals.now ∙ call_granted t c.args.st (sym c.may_open.ensures ∙ c.in-Ok.is)
