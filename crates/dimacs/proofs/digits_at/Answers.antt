-- One digit more.
use Rattle.std.proofs.Common.{sym, ◌∙◌, arith}
use Rattle.dimacs.specs.Words.{is_digit}
use Rattle.dimacs.proofs.Runs.{span_more, capped_step}
use Rattle.dimacs.proofs.digits_at.Goals as goal

pub loop-next-preserved : goal.loop-next-preserved
loop-next-preserved c = let s = c.args.text.now in
    let l = c.loop-next in
    let h = c.loop-next-test.true in
    let d = sym c.is_digit.ensures ∙ c.if-is_digit.true in
    let e = c.with_digit-value.ensures in
    (omega arith, capped_step s l.value c.with_digit-value.result h d e ∙ l.invariant.1, sym (span_more is_digit s l.next h d) ∙ l.invariant.2)
