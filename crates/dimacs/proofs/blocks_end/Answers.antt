-- A block without an LF.
use Rattle.std.proofs.Common.{◌≡◌, ◌+◌, ◌-◌, ◌≤◌, length, sym, ◌∙◌, arith}
use borrow.Author.Tests.{ltb-false}
use Rattle.dimacs.specs.Words.{is_line_byte}
use Rattle.dimacs.proofs.Runs.{span_block}
use Rattle.dimacs.proofs.blocks_end.Goals as goal

pub loop-end-preserved : goal.loop-end-preserved
loop-end-preserved c = let s = c.args.text.now in
    let l = c.loop-end in
    let q : l.end + 16 - l.end ≡ 16 = omega arith in
    let h : l.end + 16 ≤ length s = omega arith in
    (h, span_block is_line_byte 16 s l.end h (ltb-false _ _ (rw q at (sym c.has_line_feed.ensures ∙ c.if-not-has_line_feed.true))) ∙ l.invariant.1)
