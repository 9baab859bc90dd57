-- The numbers cannot be read, or the call is made on them.
use Rattle.std.proofs.Common.{rules}
use mir.Syntax.{w64}
use mir.Facts.{to_z-of_z}
use borrow.Author.Rules.{sfits_of}
use Rattle.tables.specs.Tables.{tables}
use Rattle.run.specs.Run.{run_call}
use Rattle.c_numbers.proofs.Calling.{given_call}
use Rattle.c_calls.proofs.unhide_run.Goals as goal

pub returns : goal.returns
returns c =
    let v = c.call in
    given_call (run_call c.args.count) (tables c.args.clauses.now c.args.literals.now c.args.variables.now c.args.times.now c.args.links.now) c.args.state.now c.args.answer.now _ v.result _ _ _ (to_z-of_z {w = w64} {z = v.result} (sfits_of v.type_inv))
    (λ unready. let it = v.ensures.unread unready in (it.0, it.1, it.2, search rules))
    (λ able. let it = v.ensures.made able in (it.0, search rules, it.2))
