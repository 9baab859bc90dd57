-- A right text that fits, behind a left one that does.
use Rattle.std.proofs.Common.{rules, sym, ◌∙◌}
use Rattle.join.proofs.Judging.{text_kept, right_judged}
use Rattle.join.proofs.judge_right.Goals as goal

pub judge_linked-requires : goal.judge_linked-requires
judge_linked-requires c = let h = c.in_ok-header.header in
    (c.requires, text_kept c.args.right.now _ c.judge_text.ensures {v = h.v} {n = h.n} {body = h.body} c.in_ok-header.was (search rules))

pub returns : goal.returns
returns c = let a = c.args in let judged = c.judge_text.ensures in let h = c.in_ok-header.header in
    right_judged a.v a.n a.numbers.now a.right.now a.pairs.now _ {w = h.v} {m = h.n} {body = h.body} _ (sym judged.is ∙ c.in_ok-header.was) (judged.kept h.v h.n h.body c.in_ok-header.was) c.judge_linked.ensures
