-- What is copied so far, and the complements of the rest, are the complements of the whole.
use Rattle.literal.specs.Literals.{twin}
use Rattle.clause_slots.proofs.Mapping.{Mapping}
use Rattle.clause_slots.proofs.twins_of.Given as goal

abbrev pub invariant-loop-i : goal.invariant-loop-i
invariant-loop-i l = Mapping twin 0 l.slots l.out l.i
