-- `set_programme::set_programme` meets its contract: the call is its definition. Assumes nothing.
use Rattle.std.proofs.Common.{sym, ap, ◌∙◌}
use Rattle.state.specs.States.{programmed}
use Rattle.state.specs.declared.State.{State}
use Rattle.state.specs.declared.Programme.{Programme}
use Rattle.state.specs.declared.Answer.TheVariants.{Set}
use Rattle.programmes.proofs.Judging.{judge_exact}
use Rattle.tables.specs.Tables.{tables}
use Rattle.tables.specs.Calls.{answered}
use Rattle.set_programme.proofs.Setting.{set_misshapen, set_refused, set_made}
use Rattle.set_programme.proofs.set_programme.Goals as goal

pub returns-then-not-shape_ok : goal.returns-then-not-shape_ok
returns-then-not-shape_ok c =
    set_misshapen c.args.codes.now (tables c.args.clauses.now c.args.literals.now c.args.variables.now c.args.times.now c.args.links.now) c.args.st
    (sym c.shape_ok.ensures ∙ c.if-not-shape_ok.true)

pub programme_of-programme-requires : goal.programme_of-programme-requires
programme_of-programme-requires c = ((judge_exact c.args.codes.now).0 (sym c.in-Ok.ensures)).few

pub returns-in-Err : goal.returns-in-Err
returns-in-Err c =
    set_refused c.args.codes.now (tables c.args.clauses.now c.args.literals.now c.args.variables.now c.args.times.now c.args.links.now) c.args.st
    (sym c.shape_ok.ensures ∙ c.if-not-shape_ok.false) c.in-Err.index (sym c.in-Err.ensures)

pub returns-in-Ok : goal.returns-in-Ok
returns-in-Ok c =
    let t = tables c.args.clauses.now c.args.literals.now c.args.variables.now c.args.times.now c.args.links.now in
    ap (λ (st : State). answered Set st t) (c.programmed.ensures ∙ ap (λ (p : Programme). programmed p c.args.st) c.programme_of-programme.ensures)
    ∙ set_made c.args.codes.now t c.args.st (sym c.shape_ok.ensures ∙ c.if-not-shape_ok.false) (sym c.in-Ok.ensures)
