-- A comment line, and one that has no LF.
use Rattle.std.proofs.Common.{sym, ◌∙◌}
use Rattle.dimacs.proofs.Head.{comments_line, comments_open}
use Rattle.dimacs.proofs.comments_end.Goals as goal

pub returns-then-text-lf : goal.returns-then-text-lf
returns-then-text-lf c = let l = c.loop-at in
    sym (comments_open c.args.text.now l.at c.loop-at-test.true c.line_feed_at-lf.result c.if-text-at-eq99.true c.line_feed_at-lf.ensures c.if-text-lf.true) ∙ l.invariant

pub loop-at-preserved : goal.loop-at-preserved
loop-at-preserved c = let l = c.loop-at in
    sym (comments_line c.args.text.now l.at c.loop-at-test.true c.line_feed_at-lf.result c.if-text-at-eq99.true c.line_feed_at-lf.ensures c.if-text-lf.false) ∙ l.invariant
