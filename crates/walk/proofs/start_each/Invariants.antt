-- `walk::start_each` meets its contract: the walk of what is left of the order is the whole walk. Assumes nothing.
use Rattle.std.proofs.Common.{length}
use Rattle.walk.specs.Walk.{start_walk}
use Rattle.walk.specs.Compressed.{adj_of}
use Rattle.walk.specs.Slots.{stamps_of}
use Rattle.walk.proofs.Run.{Going}
use Rattle.walk.proofs.start_each.Given as goal

abbrev pub invariant-loop-slot : goal.invariant-loop-slot
invariant-loop-slot l =
    Going (λ n. start_walk n (adj_of l.graph.offsets.now l.graph.targets.now)) (length l.fn.stamps) l.order l.slot-index
    (stamps_of l.time l.fn.stamps) (stamps_of l.t l.stamps)
