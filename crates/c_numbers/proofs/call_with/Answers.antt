-- Numbers that can be read are long enough.
use Rattle.std.proofs.Common.{sym, ◌∙◌}
use Rattle.c_numbers.proofs.Reading.{ready_long, with_ready, with_long}
use Rattle.c_numbers.proofs.call_with.Goals as goal

pub state_at-st-requires : goal.state_at-st-requires
state_at-st-requires g c = (ready_long c.args.state.now c.args.answer.now (with_ready c.args.state.now c.args.answer.now c.args.window.now (sym c.ready_with.ensures ∙ c.if-not-ready_with.false))).0

pub window_at-w-requires : goal.window_at-w-requires
window_at-w-requires g c = with_long c.args.state.now c.args.answer.now c.args.window.now (sym c.ready_with.ensures ∙ c.if-not-ready_with.false)

pub finish_window-requires : goal.finish_window-requires
finish_window-requires g c = with_long c.args.state.now c.args.answer.now c.args.window.now (sym c.ready_with.ensures ∙ c.if-not-ready_with.false)

pub finish-requires : goal.finish-requires
finish-requires g c = ready_long c.args.state.now c.args.answer.now (with_ready c.args.state.now c.args.answer.now c.args.window.now (sym c.ready_with.ensures ∙ c.if-not-ready_with.false))
