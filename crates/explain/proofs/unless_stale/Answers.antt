-- `explain::unless_stale` meets its contract. Assumes nothing.
use Rattle.std.proofs.Common.{◌-◌, sym, ◌∙◌, rules}
use borrow.Author.Tests.{not-false}
use Rattle.tables.specs.Tables.{tables}
use Rattle.visits.proofs.Composing.{Bounds, lent_is, lent_inside, visitable_placed}
use Rattle.explain.proofs.Standing.{stands_true}
use Rattle.explain.proofs.Entering.{ready_visitable, ready_clause, clause_told}
use Rattle.explain.proofs.unless_stale.Goals as goal

pub overflow_sub-k : goal.overflow_sub-k
overflow_sub-k c = (stands_true c.args.number c.args.st.n c.args.clauses.now (sym c.stands.ensures ∙ c.if-not-stands.false)).above

pub part_start-start-requires : goal.part_start-start-requires
part_start-start-requires c = visitable_placed (ready_visitable c.requires (stands_true c.args.number c.args.st.n c.args.clauses.now (sym c.stands.ensures ∙ c.if-not-stands.false)))

pub part_end-end-requires : goal.part_end-end-requires
part_end-end-requires c = visitable_placed (ready_visitable c.requires (stands_true c.args.number c.args.st.n c.args.clauses.now (sym c.stands.ensures ∙ c.if-not-stands.false)))

-- the clause's part, as it is lent on
pub slice_bounds-explain_part-end : goal.slice_bounds-explain_part-end
slice_bounds-explain_part-end c =
    let b : Bounds (c.args.number - 1) c.args.clauses.now c.part_start-start.result c.part_end-end.result = record { starts = c.part_start-start.ensures; ends = c.part_end-end.ensures } in
    let h = lent_inside (ready_visitable c.requires (stands_true c.args.number c.args.st.n c.args.clauses.now (sym c.stands.ensures ∙ c.if-not-stands.false))) b in
    search rules

pub explain_part-requires : goal.explain_part-requires
explain_part-requires c =
    let b : Bounds (c.args.number - 1) c.args.clauses.now c.part_start-start.result c.part_end-end.result = record { starts = c.part_start-start.ensures; ends = c.part_end-end.ensures } in
    rw (lent_is b c.args.literals.now) (ready_clause c.requires (stands_true c.args.number c.args.st.n c.args.clauses.now (sym c.stands.ensures ∙ c.if-not-stands.false)) (not-false _ c.if-not-st.false))

pub returns : goal.returns
returns c = λ variables.
    let b : Bounds (c.args.number - 1) c.args.clauses.now c.part_start-start.result c.part_end-end.result = record { starts = c.part_start-start.ensures; ends = c.part_end-end.ensures } in
    (rw (lent_is b c.args.literals.now) at c.explain_part.ensures)
    ∙ clause_told c.args.number (tables c.args.clauses.now c.args.literals.now variables c.args.times.now c.args.links.now) c.args.st c.args.out.now (not-false _ c.if-not-st.false) (sym c.stands.ensures ∙ c.if-not-stands.false)
