-- `propagate::propagate` meets its contract: the call is its definition. Assumes nothing.
use Rattle.std.proofs.Common.{sym, ap, ◌∙◌}
use Rattle.std.specs.Prelude.{Ok}
use Rattle.tables.specs.Tables.{tables}
use Rattle.propagate.proofs.Calling.{call_refused, call_opens, call_resumes, opens_formed, resumes_before}
use Rattle.propagate.proofs.propagate.Goals as goal

pub open_pass-requires : goal.open_pass-requires
open_pass-requires c =
    let t = tables c.args.clauses.now c.args.literals.now c.args.variables.now c.args.times.now c.args.links.now in
    opens_formed c.args.n t c.args.st (sym c.entry_of.ensures ∙ c.in-Ok-Opens.is ∙ ap Ok c.in-Ok-Opens.field-0-is)

pub propagate_from-requires : goal.propagate_from-requires
propagate_from-requires c =
    let t = tables c.args.clauses.now c.args.literals.now c.args.variables.now c.args.times.now c.args.links.now in
    resumes_before c.args.n t c.args.st c.in-Ok-Resumes.k c.in-Ok-Resumes.changed (sym c.entry_of.ensures ∙ c.in-Ok-Resumes.is ∙ ap Ok c.in-Ok-Resumes.field-0-is)

pub returns-in-Err : goal.returns-in-Err
returns-in-Err c =
    let t = tables c.args.clauses.now c.args.literals.now c.args.variables.now c.args.times.now c.args.links.now in
    call_refused c.args.n t c.args.st c.in-Err.refusal (sym c.entry_of.ensures ∙ c.in-Err.is)

pub returns-in-Ok-Opens : goal.returns-in-Ok-Opens
returns-in-Ok-Opens c =
    let t = tables c.args.clauses.now c.args.literals.now c.args.variables.now c.args.times.now c.args.links.now in
    c.open_pass.ensures c.args.times.now c.args.links.now ∙ call_opens c.args.n t c.args.st (sym c.entry_of.ensures ∙ c.in-Ok-Opens.is ∙ ap Ok c.in-Ok-Opens.field-0-is)

pub returns-in-Ok-Resumes : goal.returns-in-Ok-Resumes
returns-in-Ok-Resumes c =
    let t = tables c.args.clauses.now c.args.literals.now c.args.variables.now c.args.times.now c.args.links.now in
    c.propagate_from.ensures c.args.times.now c.args.links.now
    ∙ call_resumes c.args.n t c.args.st c.in-Ok-Resumes.k c.in-Ok-Resumes.changed (sym c.entry_of.ensures ∙ c.in-Ok-Resumes.is ∙ ap Ok c.in-Ok-Resumes.field-0-is)
