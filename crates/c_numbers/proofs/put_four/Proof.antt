-- `c_numbers::put_four` meets its contract: four stores are four numbers over the front. Assumes nothing.
use native.Mathlib.Omega.{arith}
use lib.ListN.{length-set}
use Rattle.c_numbers.proofs.Over.{four_over}
use borrow.Author.Rules.{rules}
use Rattle.c_numbers.proofs.put_four.Statement.{statement}
use Rattle.c_numbers.proofs.put_four.Tie as tie

slice-write-answer : tie.Need-bounds-answer-0
slice-write-answer c = search rules

slice-write-answer-2 : tie.Need-bounds-answer-1
slice-write-answer-2 c = simp length-set (omega arith)

slice-write-answer-3 : tie.Need-bounds-answer-2
slice-write-answer-3 c = simp length-set (omega arith)

slice-write-answer-4 : tie.Need-bounds-answer-3
slice-write-answer-4 c = search rules

same_length : tie.Need-shape_of-answer
same_length c = search rules

returns : tie.Need-returns
returns c = four_over _ _ _ _ c.args.answer.now c.requires

pub put_four_spec : {M : Type 1} → statement M
put_four_spec =
    tie.close
    (tie.spec
    slice-write-answer
    slice-write-answer-2
    slice-write-answer-3
    slice-write-answer-4
    same_length
    returns)
