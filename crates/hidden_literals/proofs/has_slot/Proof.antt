-- `hidden_literals::has_slot` meets its contract. Assumes nothing.
use Rattle.discovery_order.proofs.Sorting.{slot_at}
use Rattle.hidden_literals.proofs.Loops.{Halving, halving_read, halving_done, halving_up, halving_down, among_at}
use mathlib.Core.Path.{◌≡◌, sym, ◌∙◌}
use mathlib.Core.List.{[]}
use native.Mathlib.Omega.{arith}
use Prim.Native.Nat.{ℕ, ◌+◌, ◌-◌, ◌/◌, ◌≤◌, ◌<◌}
use lib.Dec.{ltb}
use lib.ListN.{get_or}
use Rattle.walk.specs.Walk.{Stamps}
use Rattle.walk.specs.Forest.{discovery_at}
use Rattle.stamp_columns.specs.Columns.{columns}
use borrow.Author.Tests.{ltb-true, ltb-false}
use borrow.Author.Rules.{rules}
use Rattle.hidden_literals.proofs.has_slot.Statement.{statement}
use Rattle.hidden_literals.proofs.has_slot.Tie as tie

abbrev invariant-loop : tie.invariant-loop-low
invariant-loop slots times s t low₀ high₀ low high = Halving slots s low high

abbrev decreases-loop : tie.decreases-loop-low
decreases-loop slots times s t low₀ high₀ low high = high - low

-- the middle lies between
middle : (c : tie.In-loop-low invariant-loop decreases-loop) → (c.loop-low.low ≤ c.loop-low.low + (c.loop-low.high - c.loop-low.low) / 2) × (c.loop-low.low + (c.loop-low.high - c.loop-low.low) / 2 < c.loop-low.high)
middle c = let h = c.loop-low-test.true in (omega arith, omega arith)

-- whether the slot in the middle is discovered before s, as the loop has asked it
module _ (c : tie.After-begins_first invariant-loop decreases-loop) where
  abbrev stamps : Stamps
  stamps = columns c.args.times.now []

  abbrev mid : ℕ
  mid = c.loop-low.low + (c.loop-low.high - c.loop-low.low) / 2

  first : ltb (discovery_at stamps (get_or c.args.slots.now mid 0)) (discovery_at stamps c.args.s) ≡ c.begins_first.result
  first = let m = middle c.before.before.before.before.before in halving_read c.loop-low.invariant c.requires.2 mid m.0 m.1 c.if-m-s.false c.interval.ensures c.interval-t.ensures c.compare.ensures c.begins_first.ensures

interval-requires : tie.Need-interval-t-requires invariant-loop decreases-loop
interval-requires c κs = search rules

loop-holds : tie.Need-loop-low-init invariant-loop decreases-loop
loop-holds c = search rules

sub-mid : tie.Need-overflow_sub-mid invariant-loop decreases-loop
sub-mid c = search rules

add-mid : tie.Need-overflow_add-mid invariant-loop decreases-loop
add-mid c = search rules

mul-m : tie.Need-offset_bounds-slots-mid invariant-loop decreases-loop
mul-m c = search rules

shared-slice-read-m : tie.Need-bounds-slots-mid invariant-loop decreases-loop
shared-slice-read-m c = search rules

returns : tie.Need-returns-then-m-s invariant-loop decreases-loop
returns c = let m = middle c.before.before in sym (among_at c.args.s c.args.slots.now _ (omega (arith, m.1, c.loop-low.invariant.within)) c.if-m-s.true)

interval-requires-2 : tie.Need-interval-requires invariant-loop decreases-loop
interval-requires-2 c κs = let m = middle c.before.before in slot_at c.requires.0 _ (omega (arith, m.1, c.loop-low.invariant.within))

compare-requires : tie.Need-compare-requires invariant-loop decreases-loop
compare-requires c κs = search rules

begins-first-requires : tie.Need-begins_first-requires invariant-loop decreases-loop
begins-first-requires c κs = search rules

add_low : tie.Need-overflow_add-low invariant-loop decreases-loop
add_low c = search rules

loop-less : tie.Need-loop-low-smaller-then-begins_first invariant-loop decreases-loop
loop-less c = search rules

loop-again : tie.Need-loop-low-preserved-then-begins_first invariant-loop decreases-loop
loop-again c = let m = middle c.before.before.before.before.before.before in halving_up c.loop-low.invariant c.requires.2 _ m.0 m.1 c.if-m-s.false (ltb-true _ _ (first c.before ∙ c.if-begins_first.true))

loop-less-2 : tie.Need-loop-low-smaller invariant-loop decreases-loop
loop-less-2 c = search rules

loop-again-2 : tie.Need-loop-low-preserved invariant-loop decreases-loop
loop-again-2 c = let m = middle c.before.before.before.before.before.before in halving_down c.loop-low.invariant c.requires.2 _ m.0 m.1 c.if-m-s.false (ltb-false _ _ (first c.before ∙ c.if-begins_first.false))

returns-2 : tie.Need-returns invariant-loop decreases-loop
returns-2 c = sym (halving_done c.loop-low.invariant c.loop-low-test.false)

pub has_slot_spec : {M : Type 1} → statement M
has_slot_spec =
    tie.close
    (tie.spec
    invariant-loop
    decreases-loop
    interval-requires
    loop-holds
    sub-mid
    add-mid
    mul-m
    shared-slice-read-m
    returns
    interval-requires-2
    compare-requires
    begins-first-requires
    add_low
    loop-less
    loop-again
    loop-less-2
    loop-again-2
    returns-2)
