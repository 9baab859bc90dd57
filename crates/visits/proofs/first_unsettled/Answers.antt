-- `visits::first_unsettled` meets its contract. Assumes nothing.
use Rattle.std.proofs.Common.{sym, ◌∙◌, arith}
use Rattle.tables.specs.Tables.{tables}
use Rattle.visits.proofs.Looking.{found_none, found_here, found_next, found_end}
use Rattle.visits.proofs.first_unsettled.Goals as goal

pub loop-i-init : goal.loop-i-init
loop-i-init c times links = found_none (tables c.args.clauses.now c.args.literals.now c.args.variables.now times links) c.args.n

pub returns-then-is_unsettled : goal.returns-then-is_unsettled
returns-then-is_unsettled c times links =
    let a = c.args in
    (found_here (tables a.clauses.now a.literals.now a.variables.now times links) a.n c.loop-i.i c.loop-i-test.true (c.loop-i.invariant times links) (sym c.if-is_unsettled.true ∙ c.is_unsettled.ensures times links), c.loop-i-test.true)

pub loop-i-preserved : goal.loop-i-preserved
loop-i-preserved c times links =
    let a = c.args in
    found_next (tables a.clauses.now a.literals.now a.variables.now times links) a.n c.loop-i.i c.loop-i-test.true (c.loop-i.invariant times links) (sym c.if-is_unsettled.false ∙ c.is_unsettled.ensures times links)

pub returns : goal.returns
returns c times links =
    let a = c.args in
    sym (found_end (tables a.clauses.now a.literals.now a.variables.now times links) a.n c.loop-i.i (omega arith) c.loop-i-test.false (c.loop-i.invariant times links))
