-- The passes follow one another, up to the mark; and a Merge has found a group exactly if it leaves fewer variables their own class. Assumes nothing.
use borrow.Author.Tests.{lt-ltb, le-ltb}
use Rattle.settle.proofs.Once.{once_contradicted, once_variables, once_openable, once_clash, once_variables_again, once_counted}
use Rattle.settle.proofs.settle_once.Goals as goal

pub returns-then-propagated : goal.returns-then-propagated
returns-then-propagated c =
    let p = c.propagate_whole-propagated in
    once_contradicted c.args.st c.requires p.result p.new.clauses p.new.literals p.new.variables p.ensures c.if-propagated.true

pub count_own-before-requires : goal.count_own-before-requires
count_own-before-requires c =
    let p = c.propagate_whole-propagated in
    once_variables c.args.st c.requires p.result p.new.clauses p.new.literals p.new.variables p.ensures c.if-propagated.false

pub merge_whole-merged-requires : goal.merge_whole-merged-requires
merge_whole-merged-requires c =
    let p = c.propagate_whole-propagated in
    once_openable c.args.st c.requires p.result p.new.clauses p.new.literals p.new.variables p.ensures c.if-propagated.false

pub returns-then-merged : goal.returns-then-merged
returns-then-merged c =
    let p = c.propagate_whole-propagated in
    let m = c.merge_whole-merged in
    once_clash c.args.st c.requires p.result p.new.clauses p.new.literals p.new.variables p.ensures c.if-propagated.false m.result m.new.clauses m.new.literals m.new.variables m.ensures c.if-merged.true

pub count_own-after-requires : goal.count_own-after-requires
count_own-after-requires c =
    let p = c.propagate_whole-propagated in
    let m = c.merge_whole-merged in
    once_variables_again c.args.st c.requires p.result p.new.clauses p.new.literals p.new.variables p.ensures c.if-propagated.false m.result m.new.clauses m.new.literals m.new.variables m.ensures c.if-merged.false

pub returns-then-after-before : goal.returns-then-after-before
returns-then-after-before c =
    let p = c.propagate_whole-propagated in
    let m = c.merge_whole-merged in
    let b = c.count_own-before in
    let a = c.count_own-after in
    once_counted c.args.st c.requires p.result p.new.clauses p.new.literals p.new.variables p.ensures c.if-propagated.false m.result m.new.clauses m.new.literals m.new.variables m.ensures c.if-merged.false b.result a.result b.ensures a.ensures (lt-ltb a.result b.result c.if-after-before.true)

pub returns-else-after-before : goal.returns-else-after-before
returns-else-after-before c =
    let p = c.propagate_whole-propagated in
    let m = c.merge_whole-merged in
    let b = c.count_own-before in
    let a = c.count_own-after in
    once_counted c.args.st c.requires p.result p.new.clauses p.new.literals p.new.variables p.ensures c.if-propagated.false m.result m.new.clauses m.new.literals m.new.variables m.ensures c.if-merged.false b.result a.result b.ensures a.ensures (le-ltb a.result b.result c.if-after-before.false)
