-- `run::run` meets its contract: the call is its definition. Assumes nothing.
use Rattle.std.proofs.Common.{sym, ◌∙◌}
use Rattle.tables.specs.Tables.{tables}
use Rattle.run.proofs.Calling.{granted_runs, call_refused, call_granted}
use Rattle.run.proofs.run.Goals as goal

pub run_entered-requires : goal.run_entered-requires
run_entered-requires c =
    let t = tables c.args.clauses.now c.args.literals.now c.args.variables.now c.args.times.now c.args.links.now in
    granted_runs t c.args.st (sym c.may_open.ensures ∙ c.in-Ok.is)

pub returns-in-Err : goal.returns-in-Err
returns-in-Err c =
    let t = tables c.args.clauses.now c.args.literals.now c.args.variables.now c.args.times.now c.args.links.now in
    call_refused c.args.n t c.args.st c.in-Err.refusal (sym c.may_open.ensures ∙ c.in-Err.is)

pub returns-in-Ok : goal.returns-in-Ok
returns-in-Ok c =
    let t = tables c.args.clauses.now c.args.literals.now c.args.variables.now c.args.times.now c.args.links.now in
    c.run_entered.ensures ∙ call_granted c.args.n t c.args.st (sym c.may_open.ensures ∙ c.in-Ok.is)
