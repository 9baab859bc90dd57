-- Numbers that can be read are long enough.
use Rattle.std.proofs.Common.{sym, ◌∙◌}
use Rattle.c_numbers.proofs.Reading.{ready_long}
use Rattle.c_numbers.proofs.call_text.Goals as goal

pub state_at-st-requires : goal.state_at-st-requires
state_at-st-requires g c = (ready_long c.args.state.now c.args.answer.now (sym c.ready.ensures ∙ c.if-not-ready.false)).0

pub put_answer-requires : goal.put_answer-requires
put_answer-requires g c = (ready_long c.args.state.now c.args.answer.now (sym c.ready.ensures ∙ c.if-not-ready.false)).1
