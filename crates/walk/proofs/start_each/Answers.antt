-- `walk::start_each` meets its contract. Assumes nothing.
use Rattle.std.proofs.Common.{ℕ, List, length, get_or}
use native.Mathlib.Nat.{le_trans}
use Rattle.walk.specs.Walk.{start_walk}
use Rattle.walk.specs.Compressed.{adj_of}
use Rattle.walk.specs.Slots.{stamps_of}
use Rattle.walk.proofs.Run.{enters_less, graph_inside, going_step, going_done}
use Rattle.walk.proofs.start_each.Goals as goal

pub loop-slot-preserved : goal.loop-slot-preserved
unfolding start_walk
loop-slot-preserved c =
    let a = c.args in
    let l = c.loop-slot in
    let slot : ℕ = get_or a.order.now l.slot-index 0 in
    let size : ℕ = length a.stamps.now in
    let adj : ℕ → List ℕ = adj_of a.graph.offsets.now a.graph.targets.now in
    going_step (λ n. start_walk n adj) size a.order.now l.slot-index (stamps_of a.time a.stamps.now) (stamps_of l.t l.stamps) (stamps_of c.start_at-t.result c.start_at-t.new.stamps) c.loop-slot-test.true
    (λ n e. enters_less adj size (graph_inside a.graph.offsets.now a.graph.targets.now size c.requires.graph) n slot slot slot (stamps_of l.t l.stamps) l.invariant.cols.discs (c.requires.by_index l.slot-index c.loop-slot-test.true) e)
    l.invariant
    (λ n le. c.start_at-t.ensures n (le_trans l.invariant.fewer le))

pub returns : goal.returns
returns c =
    let a = c.args in
    let l = c.loop-slot in
    going_done (λ n. start_walk n (adj_of a.graph.offsets.now a.graph.targets.now)) (length a.stamps.now) a.order.now l.slot-index (stamps_of a.time a.stamps.now) (stamps_of l.t l.stamps) l.auto.slot-index-end c.loop-slot-test.false l.invariant
