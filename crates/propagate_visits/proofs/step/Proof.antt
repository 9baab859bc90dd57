-- `propagate_visits::step` meets its contract. Assumes nothing.
use mathlib.Core.Path.{◌∙◌}
use Rattle.tables.specs.Tables.{tables}
use Rattle.propagate_visits.proofs.Stepping.{visit_stands, before_visitable}
use borrow.Author.Rules.{rules}
use Rattle.propagate_visits.proofs.step.Statement.{statement}
use Rattle.propagate_visits.proofs.step.Tie as tie

mul-size : tie.Need-overflow_mul-size
mul-size c = search rules

add-size : tie.Need-overflow_add-size
add-size c = search rules

mul-size-2 : tie.Need-offset_bounds-clauses-at
mul-size-2 c = search rules

slice-read-size : tie.Need-bounds-clauses-at
slice-read-size c = search rules

visit-clause-requires : tie.Need-visit_clause-seen-requires
visit-clause-requires c κs = before_visitable c.requires

stand-after-requires : tie.Need-stand_after-requires
stand-after-requires c κs = search rules

same_length : tie.Need-shape_of-clauses
same_length c = search rules

same-length-2 : tie.Need-shape_of-literals
same-length-2 c = search rules

same-length-3 : tie.Need-shape_of-variables
same-length-3 c = search rules

returns : tie.Need-returns
returns c = λ times links. c.stand_after.ensures (tables c.visit_clause-seen.new.clauses c.visit_clause-seen.new.literals c.visit_clause-seen.new.variables times links) ∙ visit_stands c.args.n c.args.k c.args.changed (tables c.args.clauses.now c.args.literals.now c.args.variables.now times links) c.visit_clause-seen.result (tables c.visit_clause-seen.new.clauses c.visit_clause-seen.new.literals c.visit_clause-seen.new.variables times links) (c.visit_clause-seen.ensures times links)

pub step_spec : {M : Type 1} → statement M
step_spec =
    tie.close
    (tie.spec
    mul-size
    add-size
    mul-size-2
    slice-read-size
    visit-clause-requires
    stand-after-requires
    same_length
    same-length-2
    same-length-3
    returns)
