-- `merge::merge_open` meets its contract. Assumes nothing.
use mathlib.Core.Path.{◌∙◌}
use mathlib.Core.List.{[]}
use Rattle.tables.specs.Tables.{tables}
use Rattle.merge.proofs.Calling.{opens_clash, opens_resumable, opens_visits}
use borrow.Author.Rules.{rules}
use Rattle.merge.proofs.merge_open.Statement.{statement}
use Rattle.merge.proofs.merge_open.Tie as tie

merge-classes-requires : tie.Need-merge_classes-requires
merge-classes-requires c κs = search rules

marked-requires : tie.Need-marked-requires
marked-requires c κs = search rules

same_length : tie.Need-shape_of-clauses-then-merge_classes
same_length c = search rules

same-length-2 : tie.Need-shape_of-literals-then-merge_classes
same-length-2 c = search rules

same-length-3 : tie.Need-shape_of-variables-then-merge_classes
same-length-3 c = search rules

returns : tie.Need-returns-then-merge_classes
returns c = λ times links. rw c.marked.ensures (let a = c.args in
    let o = c.merge_classes in
    opens_clash a.steps a.st (tables a.clauses.now a.literals.now a.variables.now times links) o.result o.new.variables o.ensures.0 o.ensures.1 c.if-merge_classes.true)

merge-from-requires : tie.Need-merge_from-requires
merge-from-requires c κs = let a = c.args in
    let o = c.merge_classes in
    opens_resumable a.steps a.st (tables a.clauses.now a.literals.now a.variables.now [] []) o.result o.new.variables o.ensures.0 o.ensures.1 c.if-merge_classes.false c.requires.formed (c.requires.settled [] [])

same-length-4 : tie.Need-shape_of-clauses
same-length-4 c = search rules

same-length-5 : tie.Need-shape_of-literals
same-length-5 c = search rules

same-length-6 : tie.Need-shape_of-variables
same-length-6 c = search rules

returns-2 : tie.Need-returns
returns-2 c = λ times links. let a = c.args in
    let o = c.merge_classes in
    c.merge_from.ensures times links
    ∙ opens_visits a.steps a.st (tables a.clauses.now a.literals.now a.variables.now times links) o.result o.new.variables o.ensures.0 o.ensures.1 c.if-merge_classes.false

pub merge_open_spec : {M : Type 1} → statement M
merge_open_spec =
    tie.close
    (tie.spec
    merge-classes-requires
    marked-requires
    same_length
    same-length-2
    same-length-3
    returns
    merge-from-requires
    same-length-4
    same-length-5
    same-length-6
    returns-2)
