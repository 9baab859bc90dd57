-- A call that was made has the number 0 in its reply, and the window is emptied; a refused one leaves it.
use Rattle.std.proofs.Common.{arith, rules, pos}
use Rattle.state.proofs.Numbers.{number_ok}
use Rattle.tables.specs.Calls.{after}
use Rattle.window.specs.Window.{places}
use Rattle.load.proofs.Emptying.{window_emptied}
use Rattle.load.proofs.Fill.{cleared_front}
use Rattle.load.proofs.empty_window.Goals as goal

pub returns : goal.returns
returns c =
    let sizes = cleared_front 0 c.args.sizes.now 64 (omega (arith, c.requires.sizes)) (c.fill.ensures.after (search rules)) in
    let learnt = cleared_front (pos 0) c.args.learnt.now 4096 (omega (arith, c.requires.learnt)) (c.fill-2.ensures.after (search rules)) in
    λ t. window_emptied (after c.args.outcome t) (places c.args.sizes.now c.args.learnt.now c.args.window) (number_ok c.args.outcome.answer c.if-is_err.ensures.negation) sizes learnt c.empty.ensures
