-- The text's end, or a byte that is not the one wanted.
use Rattle.std.proofs.Common.{sym, ◌∙◌}
use Rattle.dimacs.proofs.Head.{expect_other, expect_end}
use Rattle.dimacs.proofs.expect_bytes.Goals as goal
use Rattle.dimacs.proofs.expect_bytes.Goals.{then-text-next-via-then-text-next, then-text-next-via-else-text-next+then-text-next-2}

pub returns-then-text-next : goal.returns-then-text-next
returns-then-text-next c = let s = c.args.text.now in
    let ps = c.args.wanted.now in
    let l = c.loop-b in
    elim c.then-text-next.branch [
      | then-text-next-via-then-text-next w ↦ sym (expect_end s l.next w.if-text-next.true ps l.b-index c.loop-b-test.true) ∙ l.invariant
      | then-text-next-via-else-text-next+then-text-next-2 w ↦ sym (expect_other s l.next w.if-text-next.false ps l.b-index c.loop-b-test.true w.if-text-next-2.true) ∙ l.invariant
    ]
