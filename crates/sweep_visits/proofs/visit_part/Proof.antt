-- `sweep_visits::visit_part` meets its contract. Assumes nothing.
use Rattle.sweep_visits.proofs.Parting.{part_short, part_dropped, part_left, shorten_shorter}
use Rattle.hidden_tautologies.proofs.Judging.{judged_clause}
use Rattle.stamp_columns.specs.Columns.{columns}
use mathlib.Core.List.{[]}
use mathlib.Core.Path.{sym, ◌∙◌}
use native.Mathlib.Omega.{arith}
use borrow.Author.Rules.{rules}
use Rattle.sweep_visits.proofs.visit_part.Statement.{statement}
use Rattle.sweep_visits.proofs.visit_part.Tie as tie

hidden-tautology-requires : tie.Need-hidden_tautology-requires
hidden-tautology-requires c κs = search rules

zero-from-requires : tie.Need-zero_from-requires
zero-from-requires c κs = search rules

same_length : tie.Need-shape_of-part-then-hidden_tautology
same_length c = search rules

same-length-2 : tie.Need-shape_of-slots-then-hidden_tautology
same-length-2 c = search rules

same-length-3 : tie.Need-shape_of-twins-then-hidden_tautology
same-length-3 c = search rules

returns-2 : tie.Need-returns-then-hidden_tautology
returns-2 c = let a = c.args in part_dropped a.times.now a.links.now a.part.now c.zero_from.new.part (omega arith) (sym c.hidden_tautology.ensures.0 ∙ c.if-hidden_tautology.true) c.zero_from.ensures

shorten-part-requires : tie.Need-shorten_part-n-requires
shorten-part-requires c κs = (judged_clause c.requires.0, c.hidden_tautology.ensures.1, c.hidden_tautology.auto.twins ∙ c.requires.3)

cast-t25 : tie.Need-overflow_cast-result
cast-t25 c = let h = shorten_shorter (columns c.args.times.now []) c.args.part.now in omega (arith, h, c.shorten_part-n.ensures.0, c.requires.1)

same-length-4 : tie.Need-shape_of-part
same-length-4 c = search rules

same-length-5 : tie.Need-shape_of-slots
same-length-5 c = search rules

same-length-6 : tie.Need-shape_of-twins
same-length-6 c = search rules

returns-3 : tie.Need-returns
returns-3 c = let a = c.args in part_left a.times.now a.links.now a.part.now c.shorten_part-n.new.part c.shorten_part-n.result (omega arith) (sym c.hidden_tautology.ensures.0 ∙ c.if-hidden_tautology.false) c.shorten_part-n.ensures

-- goals whose names have the test of the literals' number in them are answered in place: an edit of that test is then refused at what it takes away
pub visit_part_spec : {M : Type 1} → statement M
visit_part_spec =
    tie.close
    (tie.spec
    (λ c. let a = c.args in part_short a.times.now a.links.now a.part.now a.part.now (omega arith))
    hidden-tautology-requires
    zero-from-requires
    same_length
    same-length-2
    same-length-3
    returns-2
    shorten-part-requires
    cast-t25
    same-length-4
    same-length-5
    same-length-6
    returns-3)
