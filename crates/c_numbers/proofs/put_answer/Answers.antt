-- By whether the call was made: its values, or the refusal's place and number.
use Rattle.std.proofs.Common.{ℕ, arith, sym, ap, ◌∙◌, w64}
use Rattle.std.specs.Prelude.{Result}
use mir.Facts.{to_z-of_z}
use borrow.Author.Rules.{sfits_of}
use Rattle.state.specs.declared.Answer.{Answer}
use Rattle.state.specs.declared.Refusal.{Refusal}
use Rattle.state.specs.Answers.{reply_of, first_value, result_by}
use Rattle.state.proofs.Numbers.{number_made}
use Rattle.c_numbers.specs.StateNumbers.{put_front}
use Rattle.c_numbers.specs.CCalls.{values_of}
use Rattle.c_numbers.proofs.Answered.{answer_made, answer_refused}
use Rattle.c_numbers.proofs.put_answer.Goals as goal

pub returns-in-Ok : goal.returns-in-Ok
returns-in-Ok c =
    answer_made (reply_of c.args.a) c.args.answer.now _
    (ap (λ (a : Result Answer Refusal). (reply_of a).number) c.in-Ok.is ∙ number_made c.in-Ok.made)
    (c.put_values.ensures ∙ ap (λ (a : Result Answer Refusal). put_front (values_of (reply_of a)) c.args.answer.now) (sym c.in-Ok.is))

pub returns-in-Err : goal.returns-in-Err
returns-in-Err c =
    let number = c.number.ensures.0 ∙ sym (ap (λ (a : Result Answer Refusal). (reply_of a).number) c.in-Err.is) in (
      to_z-of_z {w = w64} {z = c.result.result} (sfits_of c.result.type_inv) ∙ c.result.ensures ∙ ap (λ (n : ℕ). result_by n 0) number,
      answer_refused (reply_of c.args.a) c.args.answer.now _ (λ z. omega (arith, c.number.ensures.1, number, z)) (omega (arith, c.requires)) (c.place.ensures ∙ sym (ap (λ (a : Result Answer Refusal). first_value (reply_of a).values) c.in-Err.is)),
    )
