-- `propagate::propagate_from` meets its contract. Assumes nothing.
use mathlib.Core.Path.{ap, ◌∙◌}
use mathlib.Core.List.{List}
use lib.IntN.{ℤ}
use Rattle.tables.specs.Tables.{tables}
use Rattle.tables.specs.Calls.{after}
use Rattle.propagate_visits.specs.Visits.{going}
use Rattle.visits.proofs.Counting.{formed_counted, counts_are}
use Rattle.propagate.proofs.Answering.{replied_is, reach_counted, reach_rows}
use borrow.Author.Rules.{rules}
use Rattle.propagate.proofs.propagate_from.Statement.{statement}
use Rattle.propagate.proofs.propagate_from.Tie as tie

cast-count-standing : tie.Need-overflow_cast-n
cast-count-standing c = search rules

count-standing-requires : tie.Need-count_standing-before-requires
count-standing-requires c κs = formed_counted c.requires.0

visit-some-requires : tie.Need-visit_some-reach-requires
visit-some-requires c κs = record { vars = c.args.st.v; formed = c.requires.0; below = c.requires.1 }

spread-requires : tie.Need-spread-requires
spread-requires c κs = let a = c.args in let v = c.visit_some-reach in
    reach_rows a.st.v a.st.n a.steps a.cursor a.flag a.clauses.now a.literals.now a.variables.now v.result v.new.clauses v.new.literals v.new.variables c.requires.0 c.requires.1 v.ensures

cast-count-standing-2 : tie.Need-overflow_cast-n-2
cast-count-standing-2 c = search rules

count-standing-requires-2 : tie.Need-count_standing-left-requires
count-standing-requires-2 c κs = let a = c.args in let v = c.visit_some-reach in
    reach_counted a.st.v a.st.n a.steps a.cursor a.flag a.clauses.now a.literals.now a.variables.now v.result v.new.clauses v.new.literals v.new.variables c.requires.0 c.requires.1 v.ensures

counts-of-requires : tie.Need-counts_of-counts-requires
counts-of-requires c κs = search rules

answer-requires : tie.Need-answer-requires
answer-requires c κs = search rules

same_length : tie.Need-shape_of-clauses
same_length c = search rules

same-length-2 : tie.Need-shape_of-literals
same-length-2 c = search rules

same-length-3 : tie.Need-shape_of-variables
same-length-3 c = search rules

returns : tie.Need-returns
returns c = λ times links. let a = c.args in let v = c.visit_some-reach in
    let t = tables a.clauses.now a.literals.now a.variables.now times links in
    let t' = tables v.new.clauses v.new.literals v.new.variables times links in
    ap (λ (x : List ℤ). after c.answer.result (tables v.new.clauses v.new.literals x times links)) c.spread.ensures
    ∙ replied_is a.fresh a.steps a.st v.result (going a.cursor a.flag t) t t' (v.ensures times links) c.counts_of-counts.result
    (counts_are a.st.n v.result.visits a.clauses.now v.new.clauses c.count_standing-before.result c.count_standing-left.result c.counts_of-counts.result c.count_standing-before.ensures c.count_standing-left.ensures c.counts_of-counts.ensures)
    (after c.answer.result t') (c.answer.ensures t')

pub propagate_from_spec : {M : Type 1} → statement M
propagate_from_spec =
    tie.close
    (tie.spec
    cast-count-standing
    count-standing-requires
    visit-some-requires
    spread-requires
    cast-count-standing-2
    count-standing-requires-2
    counts-of-requires
    answer-requires
    same_length
    same-length-2
    same-length-3
    returns)
