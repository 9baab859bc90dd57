-- `learn::learn_entered` meets its contract. Assumes nothing.
use mathlib.Core.Path.{◌∙◌}
use borrow.Author.Tests.{not-true, not-false}
use Rattle.tables.specs.Tables.{tables}
use Rattle.window.specs.Window.{places}
use Rattle.learn.proofs.Entering.{can_judge, stale_is, forbidden_is, judged_is}
use borrow.Author.Rules.{rules}
use Rattle.learn.proofs.learn_entered.Statement.{statement}
use Rattle.learn.proofs.learn_entered.Tie as tie

refused-requires : tie.Need-refused-requires
refused-requires c κs = search rules

returns : tie.Need-returns-then-not-st
returns c = λ clauses literals. c.refused.ensures (tables clauses literals c.args.variables.now c.args.times.now c.args.links.now) c.args.sizes.now c.args.learnt.now ∙ stale_is c.args.newcomer.now (tables clauses literals c.args.variables.now c.args.times.now c.args.links.now) c.args.st (places c.args.sizes.now c.args.learnt.now c.args.window) (not-true _ c.if-not-st.true)

newcomer-ok-requires : tie.Need-newcomer_ok-requires
newcomer-ok-requires c κs = search rules

refused-requires-2 : tie.Need-refused-requires-then-not-newcomer_ok
refused-requires-2 c κs = search rules

returns-2 : tie.Need-returns-then-not-newcomer_ok
returns-2 c = λ clauses literals. c.refused-then-not-newcomer_ok.ensures (tables clauses literals c.args.variables.now c.args.times.now c.args.links.now) c.args.sizes.now c.args.learnt.now ∙ forbidden_is c.args.newcomer.now (tables clauses literals c.args.variables.now c.args.times.now c.args.links.now) c.args.st (places c.args.sizes.now c.args.learnt.now c.args.window) (not-false _ c.if-not-st.false) c.newcomer_ok.ensures c.if-not-newcomer_ok.true

learn-judged-requires : tie.Need-learn_judged-requires
learn-judged-requires c κs = let N = c.newcomer_ok.ensures.holds c.if-not-newcomer_ok.false in (can_judge c.args.newcomer.now c.requires.0 (not-false _ c.if-not-st.false) N, N.few, c.requires.1)

same_length : tie.Need-shape_of-sizes
same_length c = search rules

same-length-2 : tie.Need-shape_of-learnt
same-length-2 c = search rules

returns-3 : tie.Need-returns
returns-3 c = λ clauses literals. c.learn_judged.ensures (tables clauses literals c.args.variables.now c.args.times.now c.args.links.now) ∙ judged_is c.args.newcomer.now (tables clauses literals c.args.variables.now c.args.times.now c.args.links.now) c.args.st (places c.args.sizes.now c.args.learnt.now c.args.window) (not-false _ c.if-not-st.false) c.newcomer_ok.ensures c.if-not-newcomer_ok.false

pub learn_entered_spec : {M : Type 1} → statement M
learn_entered_spec =
    tie.close
    (tie.spec
    refused-requires
    returns
    newcomer-ok-requires
    refused-requires-2
    returns-2
    learn-judged-requires
    same_length
    same-length-2
    returns-3)
