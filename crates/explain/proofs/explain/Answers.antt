-- `explain::explain` meets its contract: the call is its definition. Assumes nothing.
use Rattle.std.proofs.Common.{sym, ◌∙◌}
use Rattle.std.proofs.lemmas.Result.{err_from_is_err_and}
use Rattle.tables.specs.Tables.{tables}
use Rattle.explain.proofs.Entering.{granted_ready, call_refused, call_granted}
use Rattle.explain.proofs.explain.Goals as goal

pub unless_stale-requires : goal.unless_stale-requires
unless_stale-requires c =
    let t = tables c.args.clauses.now c.args.literals.now c.args.variables.now c.args.times.now c.args.links.now in
    granted_ready t c.args.st (sym c.may_open.ensures ∙ c.in_ok-may_open.was)

pub returns-in_err-may_open : goal.returns-in_err-may_open
returns-in_err-may_open c =
    let t = tables c.args.clauses.now c.args.literals.now c.args.variables.now c.args.times.now c.args.links.now in
    let p = err_from_is_err_and c.from_residual.result c.from_residual.ensures.1 in
    rw (p.1, p.2) (call_refused c.args.number t c.args.st c.args.out.now c.in_err-may_open.field-0.0 (sym c.may_open.ensures ∙ c.in_err-may_open.was))

pub returns : goal.returns
returns c =
    let t = tables c.args.clauses.now c.args.literals.now c.args.variables.now c.args.times.now c.args.links.now in
    c.unless_stale.ensures c.args.variables.now ∙ call_granted c.args.number t c.args.st c.args.out.now (sym c.may_open.ensures ∙ c.in_ok-may_open.was)
