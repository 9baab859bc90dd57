-- `c_numbers::refuse_unread` meets its contract: by the length of the answer. Assumes nothing.
use native.Mathlib.Omega.{arith}
use mathlib.Core.Path.{refl, ◌∙◌}
use mir.Syntax.{w64}
use mir.Facts.{to_z-of_z}
use borrow.Author.Rules.{sfits_of, rules}
use Rattle.c_numbers.proofs.Answered.{short_stays, long_told}
use borrow.Author.Rules.{rules}
use Rattle.c_numbers.proofs.refuse_unread.Statement.{statement}
use Rattle.c_numbers.proofs.refuse_unread.Tie as tie

returns : tie.Need-returns-then-answer-lt4
returns c = (refl, short_stays c.args.answer.now c.if-answer-lt4.true)

put-answer-requires : tie.Need-put_answer-requires
put-answer-requires c κs = search rules

same_length : tie.Need-shape_of-answer
same_length c = search rules

returns-2 : tie.Need-returns
returns-2 c = (to_z-of_z {w = w64} {z = c.put_answer.result} (sfits_of c.put_answer.type_inv) ∙ c.put_answer.ensures.0, c.put_answer.ensures.1 ∙ long_told c.args.answer.now (omega (arith, c.if-answer-lt4.false)))

pub refuse_unread_spec : {M : Type 1} → statement M
refuse_unread_spec = tie.close (tie.spec
    returns
    put-answer-requires
    same_length
    returns-2)
