-- `hidden_literals::shorten_part` meets its contract. Assumes nothing.
use Rattle.hidden_literals.proofs.Shortening.{outer_twins}
use Rattle.hidden_literals.proofs.Shortened.{clause_slots, clause_inside, clause_sorted, inner_given, inner_many, inner_few, outer_given, part_given}
use Rattle.clause_slots.specs.Stamped.{StampedSlots}
use Rattle.hidden_literals.specs.Sorted.{Sorted}
use Rattle.stamp_columns.specs.Columns.{columns}
use Rattle.discovery_order.proofs.Sorting.{rest_part}
use Rattle.stamp_columns.specs.Slots.{Slots}
use lib.Seq.{length-take-le}
use lib.ListN.{length, take, length-append}
use mathlib.Core.List.{List, [], ◌++◌}
use mathlib.Core.Path.{◌≡◌, sym, subst, ◌∙◌}
use native.Mathlib.Omega.{arith}
use Prim.Native.Nat.{ℕ, ◌-◌, ◌≤◌}
use borrow.Author.Rules.{rules}
use Rattle.hidden_literals.proofs.shorten_part.Statement.{statement}
use Rattle.hidden_literals.proofs.shorten_part.Tie as tie

-- how many slots stay: they have room among the complements
many : (c : tie.After-keep_inner-first) → length c.keep_inner-first.new.slots - c.keep_inner-first.result ≤ length c.args.twins.now
many c = let h = inner_few c.requires.0 c.requires.1 c.keep_inner-first.new.slots c.keep_inner-first.result c.keep_inner-first.ensures.1 in omega (arith, h, c.requires.2)

sized : (c : tie.After-keep_inner-first) → length (take (length c.keep_inner-first.new.slots - c.keep_inner-first.result) c.args.twins.now) ≡ length c.keep_inner-first.new.slots - c.keep_inner-first.result
sized c = length-take-le (length c.keep_inner-first.new.slots - c.keep_inner-first.result) c.args.twins.now (many c)

-- the complements that stay are in the part that was lent
fewer : (c : tie.After-outer_twins-n) → c.outer_twins-n.result ≤ length c.outer_twins-n.new.twins
fewer c = let h = rw (rest_part c.keep_inner-first.result c.keep_inner-first.new.slots) at c.outer_twins-n.ensures.0 in
    omega (arith, h, c.outer_twins-n.auto.twins, sized c.before.before.before.before.before, inner_many c.requires.0 c.requires.1 c.keep_inner-first.new.slots c.keep_inner-first.result c.keep_inner-first.ensures.1)

-- and they are the right ones, whatever stands behind
whole : (c : tie.After-outer_twins-n) (t₂ : List ℕ) → take c.outer_twins-n.result (c.outer_twins-n.new.twins ++ t₂) ≡ outer_twins (columns c.args.times.now []) c.args.part.now
whole c t₂ = outer_given c.requires.0 c.requires.1 c.keep_inner-first.new.slots c.keep_inner-first.result c.keep_inner-first.ensures.1 c.outer_twins-n.result c.outer_twins-n.new.twins t₂ (fewer c) (rw (rest_part c.keep_inner-first.result c.keep_inner-first.new.slots) at c.outer_twins-n.ensures.1)

room : (c : tie.After-outer_twins-n) (t₂ : List ℕ) → c.outer_twins-n.result ≤ length (c.outer_twins-n.new.twins ++ t₂)
room c t₂ = omega (arith, fewer c, length-append c.outer_twins-n.new.twins t₂)

keep-inner-requires : tie.Need-keep_inner-first-requires
keep-inner-requires c κs = subst (Slots c.args.times.now) (sym c.requires.1) (clause_slots c.requires.0)

sub-m : tie.Need-overflow_sub-m
sub-m c = search rules

mul-outer-twins : tie.Need-offset_bounds-slots-first
mul-outer-twins c = search rules

sub-outer-twins : tie.Need-slice_bounds-outer_twins-count
sub-outer-twins c = search rules

part-outer-twins-start : tie.Need-slice_bounds-outer_twins-start
part-outer-twins-start c = search rules

part-outer-twins-end : tie.Need-slice_bounds-outer_twins-end
part-outer-twins-end c = search rules

slice-relend-prefix-outer-twins : tie.Need-slice_bounds-outer_twins-end-2
slice-relend-prefix-outer-twins c = many c.before.before.before

slice-aggregate-outer-twins : tie.Need-slice_bounds-outer_twins-end-3
slice-aggregate-outer-twins c = sym (sized c.before.before.before.before)

outer-twins-requires : tie.Need-outer_twins-n-requires
outer-twins-requires c κs = rw (rest_part c.keep_inner-first.result c.keep_inner-first.new.slots) (subst (StampedSlots c.args.times.now) (sym (inner_given c.requires.0 c.requires.1 c.keep_inner-first.new.slots c.keep_inner-first.result c.keep_inner-first.ensures.1)) (clause_inside c.requires.0), sized c.before.before.before.before ∙ inner_many c.requires.0 c.requires.1 c.keep_inner-first.new.slots c.keep_inner-first.result c.keep_inner-first.ensures.1)

slice-reshare-prefix-keep-part : tie.Need-slice_bounds-keep_part-end
slice-reshare-prefix-keep-part c = room c.before.before.before _

slice-aggregate-keep-part : tie.Need-slice_bounds-keep_part-end-2
slice-aggregate-keep-part c = sym (length-take-le c.outer_twins-n.result _ (room c.before.before.before _))

keep-part-requires : tie.Need-keep_part-requires
keep-part-requires c κs = subst (λ (l : List ℕ). Sorted c.args.times.now l c.args.part.now) (sym (whole c.before.before.before _)) (clause_sorted c.requires.0)

same_length : tie.Need-shape_of-part
same_length c = search rules

same-length-2 : tie.Need-shape_of-slots
same-length-2 c = search rules

same-length-3 : tie.Need-shape_of-twins
same-length-3 c = search rules

returns : tie.Need-returns
returns c = part_given c.requires.0 c.requires.1 c.keep_inner-first.new.slots c.keep_inner-first.result c.keep_inner-first.ensures.1 (whole c.before.before.before.before.before _) c.keep_part.ensures

pub shorten_part_spec : {M : Type 1} → statement M
shorten_part_spec =
    tie.close
    (tie.spec
    keep-inner-requires
    sub-m
    mul-outer-twins
    sub-outer-twins
    part-outer-twins-start
    part-outer-twins-end
    slice-relend-prefix-outer-twins
    slice-aggregate-outer-twins
    outer-twins-requires
    slice-reshare-prefix-keep-part
    slice-aggregate-keep-part
    keep-part-requires
    same_length
    same-length-2
    same-length-3
    returns)
