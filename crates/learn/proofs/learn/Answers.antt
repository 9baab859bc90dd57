-- `learn::learn` meets its contract: the call is its definition. Assumes nothing.
use Rattle.std.proofs.Common.{sym, ◌∙◌}
use Rattle.tables.specs.Tables.{tables}
use Rattle.window.specs.Window.{places}
use Rattle.learn.proofs.Entering.{ready, call_misshapen, call_unruled, call_denied, call_granted}
use Rattle.learn.proofs.learn.Goals as goal

pub window_ok-requires : goal.window_ok-requires
window_ok-requires c =
    let t = tables c.args.clauses.now c.args.literals.now c.args.variables.now c.args.times.now c.args.links.now in
    let R = ready t c.args.st (sym c.shape_ok.ensures ∙ c.if-not-shape_ok.false) in
    (R.few, R.room)

pub learn_entered-requires : goal.learn_entered-requires
learn_entered-requires c =
    let t = tables c.args.clauses.now c.args.literals.now c.args.variables.now c.args.times.now c.args.links.now in
    (ready t c.args.st (sym c.shape_ok.ensures ∙ c.if-not-shape_ok.false), record { vars = c.args.st.v; rule = c.window_ok.ensures.holds c.if-not-window_ok.false })

pub returns-then-not-shape_ok : goal.returns-then-not-shape_ok
returns-then-not-shape_ok c =
    let t = tables c.args.clauses.now c.args.literals.now c.args.variables.now c.args.times.now c.args.links.now in
    let w = places c.args.sizes.now c.args.learnt.now c.args.window in
    c.refused.ensures t c.args.sizes.now c.args.learnt.now ∙ call_misshapen c.args.newcomer.now t c.args.st w (sym c.shape_ok.ensures ∙ c.if-not-shape_ok.true)

pub returns-then-not-window_ok : goal.returns-then-not-window_ok
returns-then-not-window_ok c =
    let t = tables c.args.clauses.now c.args.literals.now c.args.variables.now c.args.times.now c.args.links.now in
    let w = places c.args.sizes.now c.args.learnt.now c.args.window in
    c.refused-then-not-window_ok.ensures t c.args.sizes.now c.args.learnt.now
    ∙ call_unruled c.args.newcomer.now t c.args.st w (sym c.shape_ok.ensures ∙ c.if-not-shape_ok.false) c.window_ok.ensures c.if-not-window_ok.true

pub returns-in-Err : goal.returns-in-Err
returns-in-Err c =
    let t = tables c.args.clauses.now c.args.literals.now c.args.variables.now c.args.times.now c.args.links.now in
    let w = places c.args.sizes.now c.args.learnt.now c.args.window in
    c.refused-in-Err.ensures t c.args.sizes.now c.args.learnt.now
    ∙ call_denied c.args.newcomer.now t c.args.st w (sym c.shape_ok.ensures ∙ c.if-not-shape_ok.false) c.window_ok.ensures c.if-not-window_ok.false c.opening_by.result c.opening_by.ensures c.in-Err.refusal c.in-Err.is

pub returns-in-Ok : goal.returns-in-Ok
returns-in-Ok c =
    let t = tables c.args.clauses.now c.args.literals.now c.args.variables.now c.args.times.now c.args.links.now in
    let w = places c.args.sizes.now c.args.learnt.now c.args.window in
    c.learn_entered.ensures c.args.clauses.now c.args.literals.now
    ∙ call_granted c.args.newcomer.now t c.args.st w (sym c.shape_ok.ensures ∙ c.if-not-shape_ok.false) c.window_ok.ensures c.if-not-window_ok.false c.opening_by.result c.opening_by.ensures c.in-Ok.is
