-- `sweep::sweep` meets its contract: the call is its definition. Assumes nothing.
use Rattle.std.proofs.Common.{sym, ap, ◌∙◌, arith}
use Rattle.std.specs.Prelude.{Ok}
use Rattle.tables.specs.Tables.{tables}
use Rattle.entry.specs.declared.PassName.TheVariants as own
use Rattle.entry.proofs.Entering.{opens_entered, resumes_entered}
use Rattle.visits.proofs.Entered.{entered_cursor}
use Rattle.sweep.proofs.Entering.{entered_sweepable, call_refused, call_opens, call_resumes}
use Rattle.sweep.proofs.sweep.Goals as goal

pub sweep_entered-requires : goal.sweep_entered-requires
sweep_entered-requires c =
    let t = tables c.args.clauses.now c.args.literals.now c.args.variables.now c.args.times.now c.args.links.now in
    (entered_sweepable (opens_entered own.Sweep t c.args.st (sym c.entry_of.ensures ∙ c.in-Ok-Opens.is ∙ ap Ok c.in-Ok-Opens.field-0-is)) tt, omega arith)

pub sweep_entered-requires-in-Ok-Resumes : goal.sweep_entered-requires-in-Ok-Resumes
sweep_entered-requires-in-Ok-Resumes c =
    let t = tables c.args.clauses.now c.args.literals.now c.args.variables.now c.args.times.now c.args.links.now in
    let E = resumes_entered own.Sweep t c.args.st c.in-Ok-Resumes.k c.in-Ok-Resumes.field-0-1 (sym c.entry_of.ensures ∙ c.in-Ok-Resumes.is ∙ ap Ok c.in-Ok-Resumes.field-0-is) in
    (entered_sweepable E tt, omega (arith, (entered_cursor E).0))

pub returns-in-Err : goal.returns-in-Err
returns-in-Err c =
    let t = tables c.args.clauses.now c.args.literals.now c.args.variables.now c.args.times.now c.args.links.now in
    call_refused c.args.n t c.args.st c.entry_of.result c.entry_of.ensures c.in-Err.refusal c.in-Err.is

pub returns-in-Ok-Opens : goal.returns-in-Ok-Opens
returns-in-Ok-Opens c =
    let t = tables c.args.clauses.now c.args.literals.now c.args.variables.now c.args.times.now c.args.links.now in
    c.sweep_entered.ensures c.args.variables.now ∙ call_opens c.args.n t c.args.st c.entry_of.result c.entry_of.ensures (c.in-Ok-Opens.is ∙ ap Ok c.in-Ok-Opens.field-0-is)

pub returns-in-Ok-Resumes : goal.returns-in-Ok-Resumes
returns-in-Ok-Resumes c =
    let t = tables c.args.clauses.now c.args.literals.now c.args.variables.now c.args.times.now c.args.links.now in
    c.sweep_entered-in-Ok-Resumes.ensures c.args.variables.now
    ∙ call_resumes c.args.n t c.args.st c.entry_of.result c.entry_of.ensures c.in-Ok-Resumes.k c.in-Ok-Resumes.field-0-1 (c.in-Ok-Resumes.is ∙ ap Ok c.in-Ok-Resumes.field-0-is)
