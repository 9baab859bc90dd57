-- `hidden_literals::outer_twins` meets its contract. Assumes nothing.
use Rattle.hidden_literals.proofs.Shortened.{twins_given}
use Rattle.clause_slots.proofs.Clause.{inside_small, inside_twins}
use Rattle.discovery_order.proofs.Sorting.{sorted_slots}
use Rattle.stamp_columns.specs.Slots.{Slots}
use mathlib.Core.List.{[]}
use mathlib.Core.Path.{sym, subst}
use borrow.Author.Rules.{rules}
use Rattle.hidden_literals.proofs.outer_twins.Statement.{statement}
use Rattle.hidden_literals.proofs.outer_twins.Tie as tie

-- the complements have times
given : (c : tie.After-sort_slots-arg-1) → Slots c.args.times.now c.twins_of.new.out
given c = subst (Slots c.args.times.now) (sym c.twins_of.ensures) (inside_twins c.requires.0)

twins-of-requires : tie.Need-twins_of-requires
twins-of-requires c κs = (inside_small c.requires.0, c.requires.1)

sort-slots-requires : tie.Need-sort_slots-requires
sort-slots-requires c κs = given c

keep-outer-requires : tie.Need-keep_outer-requires
keep-outer-requires c κs = subst (Slots c.args.times.now) (sym (c.sort_slots.ensures [])) (sorted_slots (given c.before.before.before.before) [])

same_length : tie.Need-shape_of-twins
same_length c = search rules

returns : tie.Need-returns
returns c = twins_given c.args.times.now c.args.slots.now c.twins_of.new.out c.sort_slots.new.slots c.twins_of.ensures c.sort_slots.ensures c.keep_outer.new.slots c.keep_outer.ensures

pub outer_twins_spec : {M : Type 1} → statement M
outer_twins_spec =
    tie.close
    (tie.spec
    twins-of-requires
    sort-slots-requires
    keep-outer-requires
    same_length
    returns)
