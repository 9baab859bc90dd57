-- The places from i on are still to be filled with what is left of the list.
use Rattle.std.proofs.Common.{map}
use Rattle.literal.specs.Literals.{slot_of}
use Rattle.stamp_walk.proofs.Copying.{Filling}
use Rattle.stamp_walk.proofs.list_slots.Given as goal

abbrev pub invariant-loop-i : goal.invariant-loop-i
invariant-loop-i l = Filling (map slot_of l.order) l.initial.slots l.slots l.i
