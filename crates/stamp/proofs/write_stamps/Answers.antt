use Rattle.std.proofs.Common.{◌≡◌, ℕ, ◌*◌, Bool, List, length, take, replicate, map, refl, sym, subst, ◌∙◌, arith}
use lib.IntN.{ℤ}
use Rattle.base.proofs.Lists.{front_zeros, front_filled}
use Rattle.literal.specs.Literals.{slot_of}
use Rattle.walk.specs.declared.SlotStamp.{SlotStamp}
use Rattle.walk.specs.Slots.{discoveries_of, finishes_of, parents_of, starts_of}
use Rattle.walk.proofs.Columns.{blank_stamp}
use Rattle.tables.specs.Clauses.{slots_from}
use Rattle.stamp_walk.specs.Stamping.{ColumnsHold, Ordered, Proper, WalkLeaves}
use Rattle.stamp.specs.Stamp.{stamps_of}
use Rattle.stamp.specs.Asking.{Full, Blank}
use Rattle.stamp.proofs.Writing.{full_ordered, full_literals, blank_columned, blank_walk, records_are, own_blank}
use Rattle.stamp.proofs.Freshness.{entries_below}
use Rattle.stamp.proofs.write_stamps.Goals as goal

module _ {v n : ℕ} {cs : List ℕ} {ls : List ℤ} {order : List ℤ} (P : Proper v n cs ls) (F : Full v order) (slots : List ℕ) (is : slots ≡ map slot_of order) (long : length slots ≡ length (take (2 * v) (replicate {A = ℕ} 2048 0))) where
  -- the stamps before the walk
  abbrev l : List SlotStamp
  l = take (2 * v) (replicate 2048 blank_stamp)

  blanks : Blank v slots (discoveries_of l) (finishes_of l) (parents_of l) (starts_of l)
  blanks = own_blank v P.listed.few slots (long ∙ front_zeros (2 * v) 2048 (omega (arith, P.listed.few)))

  ordered : Ordered (2 * v) slots
  ordered = subst (Ordered (2 * v)) (sym is) (full_ordered F)

  -- the slots are stamped
  module _ (l' : List SlotStamp) (r : Bool) (W : WalkLeaves v n cs ls slots (finishes_of l) (parents_of l) (starts_of l) r (discoveries_of l') (finishes_of l') (parents_of l') (starts_of l')) (len : length l' ≡ length l) where
    size : length l' ≡ 2 * v
    size = len ∙ front_filled (2 * v) 2048 blank_stamp (omega (arith, P.listed.few))

    held : ColumnsHold (stamps_of (slots_from cs ls n 0) (2 * v) (map slot_of order)) (discoveries_of l') (finishes_of l') (parents_of l') (starts_of l')
    held = blank_walk P F blanks slots (discoveries_of l') (finishes_of l') (parents_of l') (starts_of l') is W.stamps_are

pub list_slots-requires : goal.list_slots-requires
list_slots-requires c =
    let P = c.requires.proper.0 in
    let F = c.requires.proper.1 in
    (full_literals F P.listed.few, front_zeros (2 * c.args.v) 2048 (omega (arith, P.listed.few)) ∙ sym F.many)

pub stamp_columns-requires : goal.stamp_columns-requires
stamp_columns-requires c =
    let P = c.requires.proper.0 in
    let F = c.requires.proper.1 in
    let s = c.list_slots in
    record { proper = (P, ordered P F s.new.slots s.ensures s.auto.slots); columned = blank_columned (blanks P F s.new.slots s.ensures s.auto.slots) }

pub copy_times-requires : goal.copy_times-requires
copy_times-requires c =
    let s = c.list_slots in
    let w = c.stamp_columns in
    omega (arith, c.requires.records.first, size c.requires.proper.0 c.requires.proper.1 s.new.slots s.ensures s.auto.slots w.new.stamps w.result w.ensures w.auto.stamps)

pub copy_links-requires : goal.copy_links-requires
copy_links-requires c =
    let P = c.requires.proper.0 in
    let F = c.requires.proper.1 in
    let s = c.list_slots in
    let w = c.stamp_columns in
    let many = size P F s.new.slots s.ensures s.auto.slots w.new.stamps w.result w.ensures w.auto.stamps in
    record {
      starts_len = omega (arith, c.requires.records.second, many);
      by_index = λ q lt. entries_below P F (held P F s.new.slots s.ensures s.auto.slots w.new.stamps w.result w.ensures w.auto.stamps) q (omega (arith, lt, many));
    }

pub returns-then-stamp_columns : goal.returns-then-stamp_columns
returns-then-stamp_columns c = (sym c.if-stamp_columns.true ∙ c.stamp_columns.ensures.cyclic_is, λ variables. refl)

pub returns : goal.returns
returns c =
    let P = c.requires.proper.0 in
    let F = c.requires.proper.1 in
    let s = c.list_slots in
    let w = c.stamp_columns in
    let B = blanks P F s.new.slots s.ensures s.auto.slots in
    let H = held P F s.new.slots s.ensures s.auto.slots w.new.stamps w.result w.ensures w.auto.stamps in
    let many = size P F s.new.slots s.ensures s.auto.slots w.new.stamps w.result w.ensures w.auto.stamps in (
      sym c.if-stamp_columns.false ∙ w.ensures.cyclic_is,
      λ variables. records_are P F B H (length w.new.stamps) many variables c.args.times.now c.copy_times.new.times c.args.links.now c.copy_links.new.links c.copy_times.ensures c.copy_links.ensures,
    )
