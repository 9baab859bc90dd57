-- `walk::enter` and `walk::walk_edges`, which call each other, meet their contracts. Assumes nothing.
use Rattle.std.proofs.Common.{ℕ, ◌<◌, List, length, get_or, sym, subst, ◌∙◌, ap, arith}
use native.Mathlib.Nat.{le_refl, le_trans}
use Rattle.walk.specs.Walk.{Stamps, edges, enters, fresh}
use Rattle.walk.specs.Compressed.{Columns, Graph, adj_of}
use Rattle.walk.specs.Slots.{discoveries_of, stamps_of}
use Rattle.walk.proofs.Run.{walked, edge_below, edge_new, edge_old, enters_less, graph_inside, going_step, going_done}
use Rattle.walk.proofs.Columns.{arriving, arrived_stamps, finished_stamps, discovery_at, stamps_of_eq}
use Rattle.walk.proofs.+enter_walk_edges.Goals as goal
use Rattle.walk.proofs.+enter_walk_edges.Goals.{walk_edges-then-is_new, walk_edges-else-is_new}

pub enter-walk_edges-finished-requires : goal.enter-walk_edges-finished-requires
enter-walk_edges-finished-requires t c =
    let a = c.args in
    let r = c.requires in
    let α = arrived_stamps a.graph.offsets.now a.graph.targets.now a.stamps.now a.time a.slot a.parent a.start r.graph r.columns r.slot_in_bounds.0 r.slot_in_bounds.1 in
    (omega (arith, c.decreases, α.0), α.1)

pub enter-overflow_add-finished : goal.enter-overflow_add-finished
enter-overflow_add-finished t c =
    let a = c.args in
    let r = c.requires in
    let w = c.walk_edges-finished in
    let l : ℕ = fresh (discoveries_of (arriving a.stamps.now a.time a.slot a.parent a.start)) in
    let α = arrived_stamps a.graph.offsets.now a.graph.targets.now a.stamps.now a.time a.slot a.parent a.start r.graph r.columns r.slot_in_bounds.0 r.slot_in_bounds.1 in
    let done = walked a.graph.offsets.now a.graph.targets.now _ l a.slot a.start _ _ α.1.0 α.1.1.0 α.1.1.1 (w.ensures l (le_refl _)) in
    omega (arith, done.room)

pub enter-returns : goal.enter-returns
enter-returns t c =
    let a = c.args in
    let r = c.requires in
    let w = c.walk_edges-finished in
    λ n le. finished_stamps (adj_of a.graph.offsets.now a.graph.targets.now) n a.stamps.now w.new.stamps a.time w.result a.slot a.parent a.start r.slot_in_bounds.0 r.slot_in_bounds.1 le w.ensures

pub walk_edges-bounds-stamps-q : goal.walk_edges-bounds-stamps-q
walk_edges-bounds-stamps-q t c =
    let a = c.args in
    subst (λ (k : ℕ). get_or c.edges-q-items.result.now c.loop-q.q-index 0 < k) (sym c.loop-q.auto.stamps)
    (edge_below a.graph.offsets.now a.graph.targets.now c.edges-q-items.result.now (length a.stamps.now) a.slot c.loop-q.q-index c.requires.graph c.requires.slot_in_bounds c.edges-q-items.ensures c.loop-q-test.true)

pub walk_edges-enter-t-requires : goal.walk_edges-enter-t-requires
walk_edges-enter-t-requires t c =
    let a = c.args in
    let l = c.loop-q in
    let q : ℕ = get_or c.edges-q-items.result.now l.q-index 0 in
    let below : q < length a.stamps.now = edge_below a.graph.offsets.now a.graph.targets.now c.edges-q-items.result.now (length a.stamps.now) a.slot l.q-index c.requires.graph c.requires.slot_in_bounds c.edges-q-items.ensures c.loop-q-test.true in (
      omega (arith, c.decreases, l.invariant.fewer),
      (
        subst (Graph a.graph.offsets.now a.graph.targets.now) (sym l.auto.stamps) c.requires.graph,
        (
          subst (λ (k : ℕ). Columns k (stamps_of l.t l.stamps)) (sym l.auto.stamps) l.invariant.cols,
          (subst (λ (k : ℕ). q < k) (sym l.auto.stamps) below, discovery_at l.stamps q ∙ c.if-is_new.true),
        ),
      ),
    )

pub walk_edges-loop-q-preserved : goal.walk_edges-loop-q-preserved
walk_edges-loop-q-preserved t c =
    let a = c.args in
    let l = c.loop-q in
    let slots : List ℕ = c.edges-q-items.result.now in
    let q : ℕ = get_or slots l.q-index 0 in
    let adj : ℕ → List ℕ = adj_of a.graph.offsets.now a.graph.targets.now in
    let visit : ℕ → ℕ → Stamps → Stamps = λ n u. enters n adj a.start a.slot u in
    let size : ℕ = length a.stamps.now in
    let below : q < size = edge_below a.graph.offsets.now a.graph.targets.now slots size a.slot l.q-index c.requires.graph c.requires.slot_in_bounds c.edges-q-items.ensures c.loop-q-test.true in
    going_step visit size slots l.q-index (stamps_of a.time a.stamps.now) (stamps_of l.t l.stamps) (stamps_of c.if-is_new.t c.if-is_new.stamps) c.loop-q-test.true
    (λ n e. enters_less adj size (graph_inside a.graph.offsets.now a.graph.targets.now size c.requires.graph) n a.start a.slot q (stamps_of l.t l.stamps) l.invariant.cols.discs below e)
    l.invariant
    (λ n le. elim c.if-is_new.branch [
      | walk_edges-then-is_new w ↦
          stamps_of_eq w.stamps-is w.t-is
          ∙ w.enter-t.ensures n (le_trans l.invariant.fewer le)
          ∙ sym (edge_new (visit n) q (stamps_of l.t l.stamps) (discovery_at l.stamps q ∙ w.if-is_new.true))
      | walk_edges-else-is_new w ↦
          stamps_of_eq w.stamps-is w.t-is
          ∙ sym (edge_old (visit n) q (stamps_of l.t l.stamps) (λ e. w.if-is_new.false (sym (discovery_at l.stamps q) ∙ e)))
    ])

pub walk_edges-returns : goal.walk_edges-returns
walk_edges-returns t c =
    let a = c.args in
    let l = c.loop-q in
    let adj : ℕ → List ℕ = adj_of a.graph.offsets.now a.graph.targets.now in
    let slots : List ℕ = c.edges-q-items.result.now in
    λ n le.
    going_done (λ m u. enters m adj a.start a.slot u) (length a.stamps.now) slots l.q-index (stamps_of a.time a.stamps.now) (stamps_of l.t l.stamps) l.auto.q-index-end c.loop-q-test.false l.invariant n le
    ∙ ap (λ (k : List ℕ). edges (λ u. enters n adj a.start a.slot u) k (stamps_of a.time a.stamps.now)) c.edges-q-items.ensures
