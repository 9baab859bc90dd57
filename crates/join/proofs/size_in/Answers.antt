-- The next number, a clause's end or a literal.
use Rattle.std.proofs.Common.{ℕ, ◌+◌, ◌<◌, pos, get_or, sym, ap, subst, arith}
use mir.Syntax.{w32}
use mir.Val.{of_z}
use lib.Signed.{mag}
use borrow.Author.Rules.{sfits_of}
use Rattle.literal.proofs.Signed.{is_lit}
use Rattle.join.proofs.Counting.{Counting, counting_nought, counting_literal, counted}
use Rattle.join.proofs.size_in.Goals as goal
use Rattle.join.proofs.size_in.Goals.{then-x-eq0, else-x-eq0}

pub returns-then-left-eq0 : goal.returns-then-left-eq0
returns-then-left-eq0 c = counted c.loop-i.invariant c.if-left-eq0.true

pub loop-i-preserved : goal.loop-i-preserved
loop-i-preserved c = let a = c.args in let l = c.loop-i in
    let some : 0 < l.left = omega arith in
    let fits : mag (get_or a.numbers.now l.i (pos 0)) < 2147483648 = omega arith in
    elim c.if-x-eq0.branch [
      | then-x-eq0 w ↦ subst (λ (k : ℕ). Counting a.numbers.now a.n k (l.i + 1)) (sym w.left-is) (counting_nought l.invariant some (is_lit (sfits_of fits) (pos 0) tt w.if-x-eq0.true))
      | else-x-eq0 w ↦ subst (λ (k : ℕ). Counting a.numbers.now a.n k (l.i + 1)) (sym w.left-is) (counting_literal l.invariant some (λ e. w.if-x-eq0.false (ap (of_z w32) e)))
    ]
