-- Each code does what the definition says. Assumes nothing.
use Rattle.std.proofs.Common.{arith, ◌∙◌}
use Rattle.tables.specs.Lent.{lent}
use Rattle.settle.specs.Steps.{standing_in}
use Rattle.run.proofs.Running.{code_settle, code_stamp, code_failed, code_sweep, code_none}
use Rattle.run.proofs.follow.Goals as goal

pub returns-in-1 : goal.returns-in-1
returns-in-1 c =
    let a = c.args in
    let stood = standing_in (lent a.clauses.now a.literals.now a.variables.now a.times.now a.links.now) a.st in
    c.settle.ensures a.times.now a.links.now ∙ code_settle a.k a.code stood c.in-1.is

pub returns-in-2 : goal.returns-in-2
returns-in-2 c =
    let a = c.args in
    let stood = standing_in (lent a.clauses.now a.literals.now a.variables.now a.times.now a.links.now) a.st in
    c.follow_stamp.ensures ∙ code_stamp a.k a.code stood (λ e. omega (arith, e, c.in-2.is)) c.in-2.is

pub returns-in-3 : goal.returns-in-3
returns-in-3 c =
    let a = c.args in
    let stood = standing_in (lent a.clauses.now a.literals.now a.variables.now a.times.now a.links.now) a.st in
    c.follow_failed.ensures a.clauses.now a.literals.now ∙ code_failed a.k a.code stood (λ e. omega (arith, e, c.in-3.is)) (λ e. omega (arith, e, c.in-3.is)) c.in-3.is

pub returns-in-4 : goal.returns-in-4
returns-in-4 c =
    let a = c.args in
    let stood = standing_in (lent a.clauses.now a.literals.now a.variables.now a.times.now a.links.now) a.st in
    c.follow_sweep.ensures a.variables.now ∙ code_sweep a.k a.code stood (λ e. omega (arith, e, c.in-4.is)) (λ e. omega (arith, e, c.in-4.is)) (λ e. omega (arith, e, c.in-4.is)) c.in-4.is

pub returns-in_default : goal.returns-in_default
returns-in_default c =
    let a = c.args in
    let stood = standing_in (lent a.clauses.now a.literals.now a.variables.now a.times.now a.links.now) a.st in
    code_none a.k a.code stood (λ e. omega (arith, e)) (λ e. omega (arith, e)) (λ e. omega (arith, e)) (λ e. omega (arith, e))
