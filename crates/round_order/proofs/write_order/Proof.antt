-- `round_order::write_order` meets its contract. Assumes nothing.
use Prim.Native.Nat.{ℕ, ◌-◌, ◌<◌}
use native.Mathlib.Nat.{mod-lt}
use native.Mathlib.Omega.{arith}
use mathlib.Core.Path.{◌≡◌, sym, ap, ◌∙◌}
use mathlib.Core.List.{List, ◌++◌}
use lib.ListN.{length, take, drop}
use lib.Seq.{length-take-le}
use lib.IntN.{ℤ}
use Rattle.round_order.proofs.Orders.{listed_length, order_none, rest_length, order_written}
use borrow.Author.Rules.{rules}
use Rattle.round_order.proofs.write_order.Statement.{statement}
use Rattle.round_order.proofs.write_order.Tie as tie

-- the order as it is lent, the turn, and how much comes before it is turned
abbrev l : tie.After-turn_of-turn → List ℤ
l c = c.args.order.now

abbrev r : tie.After-turn_of-turn → ℕ
r c = c.turn_of-turn.result

abbrev m : tie.After-turn_of-turn → ℕ
m c = length (l c) - r c

-- the turn is below the size
turn : (c : tie.After-turn_of-turn) → r c < length (l c)
turn c = omega (arith, c.turn_of-turn.ensures, mod-lt c.args.k (let z : 0 < length (l c) = omega (arith, c.if-size-eq0.false) in z))

-- how much of the order is lent first, and then
front : (c : tie.After-turn_of-turn) → length (take (m c) (l c)) ≡ m c
front c = length-take-le (m c) (l c) (omega arith)

back : (c : tie.After-write_slots) → length (take (length (c.write_slots.new.part ++ drop (m c.before.before) (l c.before.before)) - m c.before.before) (drop (m c.before.before) (c.write_slots.new.part ++ drop (m c.before.before) (l c.before.before)))) ≡ r c.before.before
back c = let h = turn c.before.before in rest_length (l c.before.before) c.write_slots.new.part (m c.before.before) (omega arith) (ap length c.write_slots.ensures ∙ listed_length (r c.before.before) _ ∙ front c.before.before) ∙ (let q : length (l c.before.before) - m c.before.before ≡ r c.before.before = omega arith in q)

returns : tie.Need-returns-then-size-eq0
returns c = order_none c.args.v c.args.k c.args.order.now c.requires.0 c.if-size-eq0.true

turn-of-requires : tie.Need-turn_of-turn-requires
turn-of-requires c κs = search rules

sub-rest : tie.Need-overflow_sub-rest
sub-rest c = omega (arith, turn c)

slice-relend-prefix-write-slots : tie.Need-slice_bounds-write_slots-end
slice-relend-prefix-write-slots c = search rules

slice-aggregate-write-slots : tie.Need-slice_bounds-write_slots-end-2
slice-aggregate-write-slots c = sym (front c.before)

write-slots-requires : tie.Need-write_slots-requires
write-slots-requires c κs = omega (arith, front c.before, turn c.before)

mul-write-slots : tie.Need-offset_bounds-order-rest
mul-write-slots c = search rules

sub-write-slots : tie.Need-slice_bounds-write_slots-count
sub-write-slots c = search rules

part-write-slots-start : tie.Need-slice_bounds-write_slots-start
part-write-slots-start c = search rules

part-write-slots-end : tie.Need-slice_bounds-write_slots-end-3
part-write-slots-end c = search rules

write-slots-requires-2 : tie.Need-write_slots-requires-2
write-slots-requires-2 c κs = omega (arith, back c.before.before, turn c.before.before.before.before)

same_length : tie.Need-shape_of-order
same_length c = search rules

returns-2 : tie.Need-returns
returns-2 c = let s = c in
    order_written s.args.v s.args.k s.args.order.now c.write_slots.new.part c.write_slots-2.new.part s.requires.0 c.if-size-eq0.false (r c.before.before.before.before.before.before) c.turn_of-turn.ensures _ _ (front c.before.before.before.before.before.before) (back c.before.before.before.before) c.write_slots.ensures c.write_slots-2.ensures

pub write_order_spec : {M : Type 1} → statement M
write_order_spec =
    tie.close
    (tie.spec
    returns
    turn-of-requires
    sub-rest
    slice-relend-prefix-write-slots
    slice-aggregate-write-slots
    write-slots-requires
    mul-write-slots
    sub-write-slots
    part-write-slots-start
    part-write-slots-end
    write-slots-requires-2
    same_length
    returns-2)
