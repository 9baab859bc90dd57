-- `merge_visits::visit_part` meets its contract. Assumes nothing.
use native.Mathlib.Omega.{arith}
use mathlib.Core.Path.{◌≡◌, ◌∙◌}
use Rattle.merge_visits.proofs.Parting.{Reduced, part_markable, part_count, part_dropped, part_left}
use Rattle.repeats.specs.Marks.{no_marks}
use borrow.Author.Rules.{rules}
use Rattle.merge_visits.proofs.visit_part.Statement.{statement}
use Rattle.merge_visits.proofs.visit_part.Tie as tie

-- what is left of the part when repeats are out, and the marks
module _ (c : tie.After-remove_repeats-kept) where
  reduced : Reduced c.args.variables.now c.args.part.now c.remove_repeats-kept.new.part c.remove_repeats-kept.result.count c.remove_repeats-kept.result.both
  reduced = record { classes = c.substitute.new.part; substitutes = c.substitute.ensures; count = c.remove_repeats-kept.ensures.0; both = c.remove_repeats-kept.ensures.1; held = c.remove_repeats-kept.ensures.2 }

  marks-blank : c.remove_repeats-kept.new.marks ≡ no_marks
  marks-blank = c.remove_repeats-kept.ensures.3 ∙ c.requires.2

substitute-requires : tie.Need-substitute-requires
substitute-requires c κs = search rules

remove-repeats-requires : tie.Need-remove_repeats-kept-requires
remove-repeats-requires c κs = part_markable c.args.variables.now c.args.part.now c.requires.0 c.requires.2 c.substitute.ensures

zero-from-requires : tie.Need-zero_from-requires
zero-from-requires c κs = search rules

same_length : tie.Need-shape_of-part-then-kept
same_length c = search rules

same-length-2 : tie.Need-shape_of-marks-then-kept
same-length-2 c = search rules

returns : tie.Need-returns-then-kept
returns c = (part_dropped (reduced c.before.before.before.before.before.before.before) c.zero_from.new.part c.if-kept.true c.zero_from.ensures, marks-blank c.before.before.before.before.before.before.before)

cast-t16 : tie.Need-overflow_cast-result
cast-t16 c = let k = part_count (reduced c.before.before.before.before.before) c.requires.1 in omega arith

same-length-3 : tie.Need-shape_of-part
same-length-3 c = search rules

same-length-4 : tie.Need-shape_of-marks
same-length-4 c = search rules

returns-2 : tie.Need-returns
returns-2 c = (part_left (reduced c.before.before.before.before.before) c.if-kept.false, marks-blank c.before.before.before.before.before)

pub visit_part_spec : {M : Type 1} → statement M
visit_part_spec =
    tie.close
    (tie.spec
    substitute-requires
    remove-repeats-requires
    zero-from-requires
    same_length
    same-length-2
    returns
    cast-t16
    same-length-3
    same-length-4
    returns-2)
