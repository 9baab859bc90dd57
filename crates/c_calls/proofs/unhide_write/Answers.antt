-- The numbers cannot be read, or the call is made on them.
use Rattle.std.proofs.Common.{rules}
use mir.Syntax.{w64}
use mir.Facts.{to_z-of_z}
use borrow.Author.Rules.{sfits_of}
use Rattle.tables.specs.Tables.{tables}
use Rattle.write.specs.Write.{write_call}
use Rattle.c_numbers.proofs.Calling.{given_text}
use Rattle.c_calls.proofs.unhide_write.Goals as goal

pub returns : goal.returns
returns c =
    let v = c.call_text in
    given_text write_call (tables c.args.clauses.now c.args.literals.now c.args.variables.now c.args.times.now c.args.links.now) c.args.state.now c.args.answer.now c.args.out.now _ v.result _ _ (to_z-of_z {w = w64} {z = v.result} (sfits_of v.type_inv))
    (λ unready. let it = v.ensures.unread unready in (it.0, it.1, search rules))
    (λ able. let it = v.ensures.made able in (it.0, search rules, it.2, it.3))
