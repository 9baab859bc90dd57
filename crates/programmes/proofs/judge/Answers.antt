-- `programmes::judge` meets its contract. Assumes nothing.
use Rattle.std.proofs.Common.{◌≡◌, ℕ, ◌≤◌, false, eqb, length, arith, sym, ◌∙◌}
use borrow.Author.Tests.{eqb-true, eqb-false}
use Rattle.programmes.proofs.Judging.{judge_none, judge_many, judge_found, judge_passes}
use Rattle.programmes.proofs.judge.Goals as goal
use Rattle.programmes.proofs.judge.Goals.{then-is_empty-via-then-is_empty, then-is_empty-via-else-is_empty+then-codes-gt32}

pub returns-then-is_empty : goal.returns-then-is_empty
returns-then-is_empty c = elim c.then-is_empty.branch [
  | then-is_empty-via-then-is_empty w ↦ judge_none c.args.codes.now (omega (arith, eqb-true (length c.args.codes.now) 0 (sym c.is_empty.ensures ∙ w.if-is_empty.true)))
  | then-is_empty-via-else-is_empty+then-codes-gt32 w ↦ judge_many c.args.codes.now w.if-codes-gt32.true
]

some : (n : ℕ) → eqb n 0 ≡ false → 1 ≤ n
some n e = omega (arith, eqb-false n 0 e)

pub returns-in-Some : goal.returns-in-Some
returns-in-Some c = judge_found c.args.codes.now (some _ (sym c.is_empty.ensures ∙ c.if-is_empty.false)) c.if-codes-gt32.false c.in-Some.at c.in-Some.ensures

pub returns-in-None : goal.returns-in-None
returns-in-None c = judge_passes c.args.codes.now (some _ (sym c.is_empty.ensures ∙ c.if-is_empty.false)) c.if-codes-gt32.false c.in-None.ensures
