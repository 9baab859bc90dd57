-- The numbers cannot be read, or the call is made on them.
use Rattle.std.proofs.Common.{rules}
use mir.Syntax.{w64}
use mir.Facts.{to_z-of_z}
use borrow.Author.Rules.{sfits_of}
use Rattle.tables.specs.Tables.{tables}
use Rattle.load.specs.Load.{join_with}
use Rattle.c_numbers.proofs.CallingWith.{given_load}
use Rattle.c_calls.proofs.unhide_join.Goals as goal

pub returns : goal.returns
returns c =
    let v = c.call_with in
    given_load (join_with c.args.left.now c.args.right.now c.args.pairs.now) (tables c.args.clauses.now c.args.literals.now c.args.variables.now c.args.times.now c.args.links.now) c.args.state.now c.args.answer.now c.args.sizes.now c.args.learnt.now c.args.window.now _ v.result _ _ _ _ _ _ (to_z-of_z {w = w64} {z = v.result} (sfits_of v.type_inv))
    (λ unready. let it = v.ensures.unread unready in (it.0, it.1, it.2, it.3, search rules, search rules, search rules))
    (λ able. let it = v.ensures.made able in (it.0, search rules, it.2, it.3))
