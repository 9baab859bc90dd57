-- What is copied so far, and the rest, are the slots of the whole.
use lib.IntN.{pos}
use Rattle.literal.specs.Literals.{slot_of}
use Rattle.clause_slots.proofs.Mapping.{Mapping}
use Rattle.clause_slots.proofs.slots_of.Given as goal

abbrev pub invariant-loop-i : goal.invariant-loop-i
invariant-loop-i l = Mapping slot_of (pos 0) l.part l.out l.i
