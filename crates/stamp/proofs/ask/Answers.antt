-- `stamp::ask` meets its contract: each return is a case of `ask_of`. Assumes nothing.
use Rattle.std.proofs.Common.{sym, ◌∙◌, Ok, Err}
use Rattle.std.proofs.lemmas.Result.{err_from_is_err_and}
use Rattle.tables.specs.Tables.{tables}
use Rattle.stamp.proofs.Asking.{ask_by_lem, granted_formed}
use Rattle.stamp.proofs.ask.Goals as goal

pub returns-in_err-may_open : goal.returns-in_err-may_open
returns-in_err-may_open c =
    let t = tables c.args.clauses.now c.args.literals.now c.args.variables.now c.args.times.now c.args.links.now in
    let p = err_from_is_err_and c.from_residual.result c.from_residual.ensures.1 in
    rw (p.1, p.2) (ask_by_lem c.args.order.now t c.args.st (Err c.in_err-may_open.field-0.0) (sym c.may_open.ensures ∙ c.in_err-may_open.was))

pub ask_ordered-requires : goal.ask_ordered-requires
ask_ordered-requires c =
    let t = tables c.args.clauses.now c.args.literals.now c.args.variables.now c.args.times.now c.args.links.now in
    granted_formed t c.args.st (sym c.may_open.ensures ∙ c.in_ok-may_open.was)

pub returns : goal.returns
returns c =
    let t = tables c.args.clauses.now c.args.literals.now c.args.variables.now c.args.times.now c.args.links.now in
    c.ask_ordered.ensures c.args.times.now c.args.links.now ∙ ask_by_lem c.args.order.now t c.args.st (Ok tt) (sym c.may_open.ensures ∙ c.in_ok-may_open.was)
