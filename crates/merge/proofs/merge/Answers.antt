-- `merge::merge` meets its contract: the call is its definition. Assumes nothing.
use Rattle.std.proofs.Common.{sym, ap, ◌∙◌}
use Rattle.std.specs.Prelude.{Ok}
use Rattle.tables.specs.Tables.{tables}
use Rattle.merge.proofs.Calling.{call_refused, call_opens, call_resumes, opens_formed, resumes_resumable}
use Rattle.merge.proofs.merge.Goals as goal

pub merge_settled-requires : goal.merge_settled-requires
merge_settled-requires c =
    let t = tables c.args.clauses.now c.args.literals.now c.args.variables.now c.args.times.now c.args.links.now in
    opens_formed c.args.n t c.args.st (sym c.entry_of.ensures ∙ c.in-Ok-Opens.is ∙ ap Ok c.in-Ok-Opens.field-0-is)

pub merge_from-requires : goal.merge_from-requires
merge_from-requires c =
    let t = tables c.args.clauses.now c.args.literals.now c.args.variables.now c.args.times.now c.args.links.now in
    resumes_resumable t c.args.st c.in-Ok-Resumes.k c.in-Ok-Resumes.field-0-1 (sym c.entry_of.ensures ∙ c.in-Ok-Resumes.is ∙ ap Ok c.in-Ok-Resumes.field-0-is)

pub returns-in-Err : goal.returns-in-Err
returns-in-Err c =
    let t = tables c.args.clauses.now c.args.literals.now c.args.variables.now c.args.times.now c.args.links.now in
    call_refused c.args.n t c.args.st c.in-Err.refusal (sym c.entry_of.ensures ∙ c.in-Err.is)

pub returns-in-Ok-Opens : goal.returns-in-Ok-Opens
returns-in-Ok-Opens c =
    let t = tables c.args.clauses.now c.args.literals.now c.args.variables.now c.args.times.now c.args.links.now in
    c.merge_settled.ensures c.args.times.now c.args.links.now ∙ call_opens c.args.n t c.args.st (sym c.entry_of.ensures ∙ c.in-Ok-Opens.is ∙ ap Ok c.in-Ok-Opens.field-0-is)

pub returns-in-Ok-Resumes : goal.returns-in-Ok-Resumes
returns-in-Ok-Resumes c =
    let t = tables c.args.clauses.now c.args.literals.now c.args.variables.now c.args.times.now c.args.links.now in
    c.merge_from.ensures c.args.times.now c.args.links.now
    ∙ call_resumes c.args.n t c.args.st c.in-Ok-Resumes.k c.in-Ok-Resumes.field-0-1 (sym c.entry_of.ensures ∙ c.in-Ok-Resumes.is ∙ ap Ok c.in-Ok-Resumes.field-0-is)
