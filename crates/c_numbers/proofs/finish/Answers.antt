-- A refused call leaves the state, another puts it back.
use Rattle.std.proofs.Common.{◌≡◌, true, false, arith, rules, ◌∙◌, w64}
use Rattle.std.specs.Result.{is_ok}
use mir.Facts.{to_z-of_z}
use borrow.Author.Rules.{sfits_of}
use Rattle.state.proofs.Numbers.{number_ok, number_err}
use Rattle.c_numbers.proofs.Calling.{told_refused, told_made}
use Rattle.c_numbers.proofs.finish.Goals as goal

pub returns-then-is_refused : goal.returns-then-is_refused
returns-then-is_refused c =
    let put = c.put_answer in
    told_refused c.args.outcome c.args.state.now c.args.answer.now _ _ (to_z-of_z {w = w64} {z = put.result} (sfits_of put.type_inv) ∙ put.ensures.0) put.ensures.1 (λ z. let refused : is_ok c.args.outcome.answer ≡ false = search rules in omega (arith, number_err c.args.outcome.answer refused, z))

pub returns : goal.returns
returns c =
    let put = c.put_answer-2 in
    told_made c.args.outcome c.args.state.now c.args.answer.now _ _ (to_z-of_z {w = w64} {z = put.result} (sfits_of put.type_inv) ∙ put.ensures.0) put.ensures.1 _ (let made : is_ok c.args.outcome.answer ≡ true = search rules in number_ok c.args.outcome.answer made) c.put_state.ensures
