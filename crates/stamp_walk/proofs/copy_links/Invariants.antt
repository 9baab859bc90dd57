-- The places from 2s on are still to be filled with what is left of the columns.
use Rattle.std.proofs.Common.{map}
use Rattle.literal.specs.Literals.{lit_at}
use Rattle.walk.specs.Slots.{parents_of, starts_of}
use Rattle.stamp_walk.proofs.Copying.{Copying}
use Rattle.stamp_walk.proofs.copy_links.Given as goal

abbrev pub invariant-loop-s : goal.invariant-loop-s
invariant-loop-s l = Copying (map lit_at (parents_of l.stamps)) (map lit_at (starts_of l.stamps)) l.initial.links l.links l.s
