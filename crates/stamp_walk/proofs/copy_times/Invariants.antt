-- The places from 2s on are still to be filled with what is left of the columns.
use Rattle.walk.specs.Slots.{discoveries_of, finishes_of}
use Rattle.stamp_walk.proofs.Copying.{Copying}
use Rattle.stamp_walk.proofs.copy_times.Given as goal

abbrev pub invariant-loop-s : goal.invariant-loop-s
invariant-loop-s l = Copying (discoveries_of l.stamps) (finishes_of l.stamps) l.initial.times l.times l.s
