-- A line of two numbers below 2^64 is short, so the output has room for it.
use Rattle.std.proofs.Common.{arith, ◌≡◌, ℕ, ap, ◌∙◌, length, take}
use Rattle.std.proofs.lemmas.List.{length-replicate}
use Rattle.std.specs.Prelude.{Result, Ok, Err}
use Rattle.state.specs.declared.Answer.{Answer}
use Rattle.state.specs.declared.Refusal.{Refusal}
use Rattle.state.specs.Answers.{reply_of}
use Rattle.state.proofs.Numbers.{number_made, number_bounds}
use Rattle.printing.specs.Printing.{refused_line}
use Rattle.printing.proofs.Storing.{refusal_short, stored_front}
use Rattle.simplify.specs.Texts.{simplify_text}
use Rattle.printed.proofs.Printed.{long_printed, written_printed, refused_printed}
use Rattle.printed.proofs.print_into.Goals as goal

pub put_refusal-requires : goal.put_refusal-requires
put_refusal-requires c = omega (arith, refusal_short 3 65535 (omega arith) (omega arith))

pub returns-then-is_long : goal.returns-then-is_long
returns-then-is_long c =
    let short = refusal_short 3 65535 (omega arith) (omega arith) in
    let S = stored_front c.put_refusal.ensures (omega (arith, short, ap length c.requires, length-replicate {A = ℕ} 65536 0)) in
    (omega (arith, S.0, short), S.1 ∙ long_printed c.args.input.now c.if-is_long.true)

pub returns-in-Ok : goal.returns-in-Ok
returns-in-Ok c =
    let t = c.simplify_text-answer in
    let a : Result Answer Refusal = Ok c.in-Ok.answer in
    let none : (reply_of a).number ≡ 0 = number_made c.in-Ok.answer in
    (omega (arith, c.value.ensures, c.in-Ok.ensures.fits none, ap length c.requires, length-replicate {A = ℕ} 65536 0), ap (λ (k : ℕ). take k t.new.out) c.value.ensures ∙ written_printed c.args.input.now (omega (arith, c.if-is_long.false)) a t.new.out (c.in-Ok.ensures.out_after ∙ ap (simplify_text c.args.input.now 1) c.requires) none)

pub put_refusal-requires-in-Err : goal.put_refusal-requires-in-Err
put_refusal-requires-in-Err c = omega (arith, refusal_short c.number.result c.place.result (omega (arith, c.number.ensures)) (omega (arith, c.place.type_inv)))

pub returns-in-Err : goal.returns-in-Err
returns-in-Err c =
    let t = c.simplify_text-answer in
    let a : Result Answer Refusal = Err c.in-Err.refusal in
    let put = c.put_refusal-in-Err in
    let short = refusal_short c.number.result c.place.result (omega (arith, c.number.ensures)) (omega (arith, c.place.type_inv)) in
    let S = stored_front put.ensures (omega (arith, short, t.auto.out, ap length c.requires, length-replicate {A = ℕ} 65536 0)) in
    (omega (arith, S.0, short), S.1 ∙ (λ i. refused_line (c.number.ensures.0 i) (c.place.ensures i)) ∙ refused_printed c.args.input.now (omega (arith, c.if-is_long.false)) a t.new.out (c.in-Err.ensures.out_after ∙ ap (simplify_text c.args.input.now 1) c.requires) (λ z. omega (arith, (number_bounds c.in-Err.refusal).0, z)))
