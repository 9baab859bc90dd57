-- The left text is refused, or the right one is judged behind it.
use Rattle.std.proofs.Common.{rules, sym, ◌∙◌, ap, Err}
use Rattle.std.proofs.lemmas.Result.{err_from_is_err_and}
use Rattle.state.specs.declared.Refusal.{Refusal}
use Rattle.join.proofs.Judging.{text_kept, left_refused, left_judged}
use Rattle.join.proofs.judge_join.Goals as goal

pub returns-in_err-header : goal.returns-in_err-header
returns-in_err-header c = let a = c.args in
    let p = err_from_is_err_and c.from_residual.result c.from_residual.ensures.1 in
    left_refused a.left.now a.right.now a.pairs.now _ (p.1 ∙ ap (λ (d : Refusal). Err d) p.2) (sym c.judge_text.ensures.is ∙ c.in_err-header.was)

pub judge_right-requires : goal.judge_right-requires
judge_right-requires c = let h = c.in_ok-header.header in
    text_kept c.args.left.now _ c.judge_text.ensures {v = h.v} {n = h.n} {body = h.body} c.in_ok-header.was (search rules)

pub returns : goal.returns
returns c = let a = c.args in let judged = c.judge_text.ensures in let h = c.in_ok-header.header in
    left_judged a.left.now a.right.now a.pairs.now _ {v = h.v} {n = h.n} {body = h.body} _ (sym judged.is ∙ c.in_ok-header.was) (judged.kept h.v h.n h.body c.in_ok-header.was) c.judge_right.ensures
