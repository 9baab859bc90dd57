-- `stamp::ask_ordered` meets its contract. Assumes nothing.
use Rattle.std.proofs.Common.{[], arith}
use Rattle.tables.specs.Tables.{tables}
use Rattle.stamp.proofs.Asking.{ask_length, ask_wrong, ask_unsettled, ask_fit}
use Rattle.stamp.proofs.ask_ordered.Goals as goal

pub returns-then-order-st : goal.returns-then-order-st
returns-then-order-st c = λ times links. let a = c.args in ask_length a.order.now (tables a.clauses.now a.literals.now a.variables.now times links) a.st c.if-order-st.true

pub returns-in-Some : goal.returns-in-Some
returns-in-Some c = λ times links. let a = c.args in
    ask_wrong a.order.now (tables a.clauses.now a.literals.now a.variables.now times links) a.st c.if-order-st.false c.in-Some.wrong c.in-Some.ensures.0 (omega (arith, c.in-Some.ensures.1, c.if-order-st.false))

pub overflow_cast-result : goal.overflow_cast-result
overflow_cast-result c = let lt = (c.in-Some-first_unsettled.ensures [] []).1 in omega (arith, c.requires.number)

pub overflow_add-result : goal.overflow_add-result
overflow_add-result c = let lt = (c.in-Some-first_unsettled.ensures [] []).1 in omega (arith, c.requires.number)

pub returns-in-Some-first_unsettled : goal.returns-in-Some-first_unsettled
returns-in-Some-first_unsettled c = λ times links. let a = c.args in let e = c.in-Some-first_unsettled.ensures times links in
    ask_unsettled a.order.now (tables a.clauses.now a.literals.now a.variables.now times links) a.st c.if-order-st.false (omega (arith, c.in_default.ensures, c.if-order-st.false))
    c.in-Some-first_unsettled.unsettled e.0 e.1

pub returns : goal.returns
returns c = λ times links. let a = c.args in
    ask_fit a.order.now (tables a.clauses.now a.literals.now a.variables.now times links) a.st c.if-order-st.false (omega (arith, c.in_default.ensures, c.if-order-st.false))
    (omega (arith, c.in_default-first_unsettled.ensures times links))
