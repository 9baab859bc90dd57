-- The walk of `failed::climb`: what the whole climb finds is left from slot x on (`Climbing`), and discovery falls from each slot to its parent.
use Rattle.walk.specs.Forest.{discovery_at}
use Rattle.stamp_columns.specs.Columns.{columns}
use Rattle.failed.proofs.Climbing.{Climbing}
use Rattle.failed.proofs.climb.Given as goal

abbrev pub invariant-loop-x : goal.invariant-loop-x
invariant-loop-x l = Climbing l.times l.links l.s l.t l.x

abbrev pub decreases-loop-x : goal.decreases-loop-x
decreases-loop-x l = discovery_at (columns l.times l.links) l.x
