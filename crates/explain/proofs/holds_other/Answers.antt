-- The two tests are those of the definition, on the slots of the literals.
use Rattle.std.proofs.Common.{not, sym, ap, ◌∙◌}
use borrow.Author.Tests.{eq-eqb}
use Rattle.literal.specs.Literals.{slot_of}
use Rattle.stamp_columns.specs.Columns.{columns}
use Rattle.hidden.specs.Hidden.{holds}
use Rattle.explain.proofs.Searching.{stored_is, other_same, other_differs}
use Rattle.explain.proofs.holds_other.Goals as goal

pub returns-then-b-a : goal.returns-then-b-a
returns-then-b-a c = λ links.
    let σ = columns c.args.times.now links in
    let one = c.slot_of-a.ensures ∙ ap slot_of (stored_is c.requires.1) in
    let other = c.slot_of-b.ensures ∙ ap slot_of (stored_is c.requires.2) in
    c.holds.ensures links ∙ (λ i. holds σ (one i) (other i)) ∙ other_differs σ c.args.l c.args.m (λ e. c.if-b-a.true (other ∙ e ∙ sym one))

pub returns-else-b-a : goal.returns-else-b-a
returns-else-b-a c = λ links.
    let one = c.slot_of-a.ensures ∙ ap slot_of (stored_is c.requires.1) in
    let other = c.slot_of-b.ensures ∙ ap slot_of (stored_is c.requires.2) in
    ap not (eq-eqb _ _ c.if-b-a.false) ∙ other_same (columns c.args.times.now links) c.args.l c.args.m (sym other ∙ c.if-b-a.false ∙ one)
