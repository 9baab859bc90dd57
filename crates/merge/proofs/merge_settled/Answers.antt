-- `merge::merge_settled` meets its contract. Assumes nothing.
use Rattle.std.proofs.Common.{◌∙◌, sym, [], arith}
use Rattle.tables.specs.Tables.{tables}
use Rattle.merge.proofs.Calling.{first_refused, first_opens}
use Rattle.merge.proofs.merge_settled.Goals as goal

pub overflow_cast-result : goal.overflow_cast-result
overflow_cast-result c = let lt = (c.in-Some.ensures [] []).1 in omega (arith, c.requires.number)

pub overflow_add-result : goal.overflow_add-result
overflow_add-result c = let lt = (c.in-Some.ensures [] []).1 in omega (arith, c.requires.number)

pub returns-in-Some : goal.returns-in-Some
returns-in-Some c = λ times links. let a = c.args in let e = c.in-Some.ensures times links in
    first_refused a.steps a.st (tables a.clauses.now a.literals.now a.variables.now times links) c.in-Some.first e.0 e.1

pub returns : goal.returns
returns c = λ times links. let a = c.args in
    c.merge_open.ensures times links
    ∙ first_opens a.steps a.st (tables a.clauses.now a.literals.now a.variables.now times links) a.st.n (sym (c.in_default.ensures times links)) (omega arith)
