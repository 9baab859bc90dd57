-- `window::keep` meets its contract. Assumes nothing.
use Rattle.window.proofs.Returning.{put_record, keep_full, keep_room}
use Rattle.window.proofs.Keeping.{rule_full, rule_room, left_ruled, left_few}
use Rattle.window.specs.Window.{places}
use Rattle.window.specs.Rule.{Room}
use mathlib.Core.Path.{sym, ap, subst, ◌∙◌}
use native.Mathlib.Omega.{arith}
use borrow.Author.Rules.{rules}
use Rattle.window.proofs.keep.Statement.{statement}
use Rattle.window.proofs.keep.Tie as tie

leave-requires : tie.Need-leave-left-requires
leave-requires c κs = rule_full c.requires.0.rule c.if-window-eq64.true

put-requires : tie.Need-put-requires
put-requires c κs = let full = c.if-window-eq64.true in (subst Room (sym c.leave-left.ensures) (rule_room (left_ruled c.requires.0.rule full) (left_few (places c.args.sizes.now c.args.learnt.now c.args.window) full)), c.requires.1, c.requires.2)

same_length : tie.Need-shape_of-sizes-then-window-eq64
same_length c = search rules

same-length-2 : tie.Need-shape_of-learnt-then-window-eq64
same-length-2 c = search rules

returns : tie.Need-returns-then-window-eq64
returns c = λ C r e. c.put.ensures ∙ ap (put_record c.args.row.now c.args.size) c.leave-left.ensures ∙ keep_full C c.args.row.now c.args.size (places c.args.sizes.now c.args.learnt.now c.args.window) r e c.if-window-eq64.true

put-requires-2 : tie.Need-put-requires-2
put-requires-2 c κs = (rule_room c.requires.0.rule (omega (arith, c.requires.0.rule.few, c.if-window-eq64.false)), c.requires.1, c.requires.2)

same-length-3 : tie.Need-shape_of-sizes
same-length-3 c = search rules

same-length-4 : tie.Need-shape_of-learnt
same-length-4 c = search rules

returns-2 : tie.Need-returns
returns-2 c = λ C r e. c.put-2.ensures ∙ keep_room C c.args.row.now c.args.size (places c.args.sizes.now c.args.learnt.now c.args.window) r e c.if-window-eq64.false

pub keep_spec : {M : Type 1} → statement M
keep_spec =
    tie.close
    (tie.spec
    leave-requires
    put-requires
    same_length
    same-length-2
    returns
    put-requires-2
    same-length-3
    same-length-4
    returns-2)
