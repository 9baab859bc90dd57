-- `propagate::open_pass` meets its contract. Assumes nothing.
use mathlib.Core.Path.{ap, ◌∙◌}
use mathlib.Core.Bool.{false}
use mathlib.Core.List.{List}
use lib.IntN.{ℤ}
use Rattle.tables.specs.Tables.{tables}
use Rattle.tables.specs.Calls.{after}
use Rattle.spread.specs.Spread.{spread_behind}
use Rattle.propagate.specs.Propagate.{propagate_from}
use Rattle.propagate_visits.specs.Visits.{Progress}
use Rattle.propagate.proofs.Calling.{none_replied, begin_some}
use borrow.Author.Rules.{rules}
use Rattle.propagate.proofs.open_pass.Statement.{statement}
use Rattle.propagate.proofs.open_pass.Tie as tie

spread-requires : tie.Need-spread-requires
spread-requires c κs = search rules

answer-requires : tie.Need-answer-requires
answer-requires c κs = search rules

same_length : tie.Need-shape_of-variables-then-n-eq0
same_length c = search rules

returns : tie.Need-returns-then-n-eq0
returns c = λ times links. let a = c.args in let t = tables a.clauses.now a.literals.now a.variables.now times links in
    ap (λ (x : List ℤ). after c.answer.result (tables a.clauses.now a.literals.now x times links)) c.spread.ensures
    ∙ ap (spread_behind a.st.v) (c.answer.ensures t) ∙ none_replied a.steps a.st t c.if-n-eq0.true

propagate-from-requires : tie.Need-propagate_from-requires
propagate-from-requires c κs = search rules

same-length-2 : tie.Need-shape_of-clauses
same-length-2 c = search rules

same-length-3 : tie.Need-shape_of-literals
same-length-3 c = search rules

same-length-4 : tie.Need-shape_of-variables
same-length-4 c = search rules

returns-2 : tie.Need-returns
returns-2 c = λ times links. let a = c.args in let t = tables a.clauses.now a.literals.now a.variables.now times links in
    c.propagate_from.ensures times links ∙ ap (λ (p : Progress). propagate_from false a.steps p t a.st) (begin_some a.st.n t c.if-n-eq0.false)

pub open_pass_spec : {M : Type 1} → statement M
open_pass_spec =
    tie.close
    (tie.spec
    spread-requires
    answer-requires
    same_length
    returns
    propagate-from-requires
    same-length-2
    same-length-3
    same-length-4
    returns-2)
