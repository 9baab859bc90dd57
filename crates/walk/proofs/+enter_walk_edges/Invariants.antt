-- `walk::enter` and `walk::walk_edges` call each other: the number of slots not yet entered falls, and the walk of the edges that are left is the whole walk. Assumes nothing.
use Rattle.std.proofs.Common.{◌+◌, ◌*◌, length}
use Rattle.walk.specs.Walk.{enters, fresh}
use Rattle.walk.specs.Compressed.{adj_of}
use Rattle.walk.specs.Slots.{discoveries_of, stamps_of}
use Rattle.walk.proofs.Run.{Going}
use Rattle.walk.proofs.+enter_walk_edges.Given as goal

abbrev pub decreases-enter : goal.decreases-enter
decreases-enter l = 2 * fresh (discoveries_of l.stamps.now)

abbrev pub decreases-walk_edges : goal.decreases-walk_edges
decreases-walk_edges l = 2 * fresh (discoveries_of l.stamps.now) + 1

abbrev pub invariant-walk_edges-loop-q : goal.invariant-walk_edges-loop-q
invariant-walk_edges-loop-q l =
    Going (λ n q. enters n (adj_of l.graph.offsets.now l.graph.targets.now) l.start l.slot q) (length l.fn.stamps) l.q-items l.q-index
    (stamps_of l.time l.fn.stamps) (stamps_of l.t l.stamps)
