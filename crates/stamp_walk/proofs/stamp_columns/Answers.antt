use Rattle.std.proofs.Common.{◌≡◌, ℕ, ◌+◌, ◌*◌, ◌≤◌, Bool, false, not, List, length, take, replicate, sym, subst, ◌∙◌, arith}
use Rattle.std.proofs.lemmas.List.{length-replicate, length-take-le}
use lib.Seq.{sets}
use lib.IntN.{ℤ}
use Rattle.base.specs.Lists.{absent}
use Rattle.base.proofs.Lists.{front_filled}
use Rattle.walk.specs.declared.SlotStamp.{SlotStamp}
use Rattle.walk.specs.Walk.{stamp_all}
use Rattle.walk.specs.Compressed.{stamps}
use Rattle.walk.specs.Slots.{discoveries_of, finishes_of, parents_of, starts_of}
use Rattle.walk.proofs.Columns.{discoveries_long, finishes_long}
use Rattle.implications.specs.declared.Edge.{Edge}
use Rattle.implications.specs.Edges.{outs}
use Rattle.implications.specs.EdgeList.{froms_of, tos_of}
use Rattle.implications.specs.Clauses.{froms, tos, implications}
use Rattle.implications.proofs.EdgeLists.{many_froms, many_tos}
use Rattle.scc.specs.Groups.{blank}
use Rattle.scc.specs.Forward.{forward}
use Rattle.tables.specs.Clauses.{slots_from}
use Rattle.table_graph.specs.Pairs.{EdgeRoom}
use Rattle.table_graph.proofs.Listing.{listed_wider, listed_in, as_listed, as_clauses}
use Rattle.stamp_walk.specs.Stamping.{ColumnsHold, Columned, WalkableEdges, Finished, Proper, Ordered, WalkRoom, WalkLeaves}
use Rattle.stamp_walk.proofs.Graphing.{own_scratch, room, walkable, finished, cyclic_is}
use Rattle.stamp_walk.proofs.stamp_columns.Goals as goal

-- the room for edges
abbrev es₀ : List Edge
es₀ = replicate 8192 (record { from = 0; to = 0 })

scratch : {v n : ℕ} {cs : List ℕ} {ls : List ℤ} → Proper v n cs ls → WalkRoom v n (froms_of es₀) (tos_of es₀) (take (2 * v + 1) (replicate 2049 0)) (replicate 8192 0) (take (2 * v) (replicate 2048 false)) (replicate 2048 0)
scratch {v} P =
    let many : length es₀ ≡ 8192 = length-replicate {A = Edge} 8192 (record { from = 0; to = 0 }) in
    own_scratch (froms_of es₀) (tos_of es₀) (take (2 * v) (replicate 2048 false)) P (many_froms es₀ ∙ many) (many_tos es₀ ∙ many) (front_filled (2 * v) 2048 false (omega (arith, P.listed.few)))

-- k edges are listed
module _ {v n : ℕ} {cs : List ℕ} {ls : List ℤ} (P : Proper v n cs ls) {order : List ℕ} (A : Ordered (2 * v) order) (k : ℕ) (es : List Edge)
    (W : (k ≡ length (froms (slots_from cs ls n 0))) × ((froms_of es ≡ sets (froms_of es₀) 0 (froms (slots_from cs ls n 0))) × (tos_of es ≡ sets (tos_of es₀) 0 (tos (slots_from cs ls n 0))))) where
  spacious : EdgeRoom v n cs ls (froms_of es₀) (tos_of es₀) (take (2 * v + 1) (replicate 2049 0)) (replicate 8192 0)
  spacious = room P A (scratch P)

  edges_in : k ≤ length es
  edges_in = listed_in es₀ spacious k es W

  module _ (l : List SlotStamp) (C : Columned (2 * v) (discoveries_of l) (finishes_of l) (parents_of l) (starts_of l)) where
    size : length l ≡ 2 * v
    size = sym (discoveries_long l) ∙ C.discs

    walks : WalkableEdges (length l) (froms_of (take k es)) (tos_of (take k es)) order (take (2 * v + 1) (replicate 2049 0)) (replicate 8192 0) (take (2 * v) (replicate 2048 false)) (replicate 2048 0)
    walks =
        as_listed es₀ spacious k es W (λ f t. WalkableEdges (length l) f t order (take (2 * v + 1) (replicate 2049 0)) (replicate 8192 0) (take (2 * v) (replicate 2048 false)) (replicate 2048 0))
        (subst (λ (m : ℕ). WalkableEdges m (froms (slots_from cs ls n 0)) (tos (slots_from cs ls n 0)) order (take (2 * v + 1) (replicate 2049 0)) (replicate 8192 0) (take (2 * v) (replicate 2048 false)) (replicate 2048 0)) (sym size) (walkable P A (scratch P)))

    -- and the slots are stamped
    module _ (l' : List SlotStamp) (len : length l' ≡ length l) where
      finishing : Finished (froms_of (take k es)) (tos_of (take k es)) (finishes_of l')
      finishing = as_listed es₀ spacious k es W (λ f t. Finished f t (finishes_of l')) (finished P A (scratch P) (finishes_of l') (finishes_long l' ∙ len ∙ size))

      leaves : (r : Bool)
          → ColumnsHold (stamp_all (outs (froms_of (take k es)) (tos_of (take k es))) (λ q. absent q (tos_of (take k es))) order (blank (length l) (finishes_of l) (parents_of l) (starts_of l))) (discoveries_of l') (finishes_of l') (parents_of l') (starts_of l')
          → ((t : ℕ) (d p s : List ℕ) → r ≡ not (forward (stamps t d (finishes_of l') p s) (froms_of (take k es)) (tos_of (take k es))))
          → WalkLeaves v n cs ls order (finishes_of l) (parents_of l) (starts_of l) r (discoveries_of l') (finishes_of l') (parents_of l') (starts_of l')
      leaves r H test =
          let held : ColumnsHold (stamp_all (implications (slots_from cs ls n 0)) (λ q. absent q (tos (slots_from cs ls n 0))) order (blank (2 * v) (finishes_of l) (parents_of l) (starts_of l))) (discoveries_of l') (finishes_of l') (parents_of l') (starts_of l') =
          as_clauses es₀ spacious k es W (λ f t. ColumnsHold (stamp_all (outs f t) (λ q. absent q t) order (blank (2 * v) (finishes_of l) (parents_of l) (starts_of l))) (discoveries_of l') (finishes_of l') (parents_of l') (starts_of l'))
          (subst (λ (m : ℕ). ColumnsHold (stamp_all (outs (froms_of (take k es)) (tos_of (take k es))) (λ q. absent q (tos_of (take k es))) order (blank m (finishes_of l) (parents_of l) (starts_of l))) (discoveries_of l') (finishes_of l') (parents_of l') (starts_of l')) size H) in
          record {
            cyclic_is = cyclic_is P A C held (discoveries_long l' ∙ len ∙ size) r (λ t d p s. as_clauses es₀ spacious k es W (λ f h. r ≡ not (forward (stamps t d (finishes_of l') p s) f h)) (test t d p s));
            stamps_are = held;
          }

pub list_pairs-k-requires : goal.list_pairs-k-requires
list_pairs-k-requires c =
    let S = scratch c.requires.proper.0 in
    record { clauses_inside = listed_wider c.requires.proper.0.listed; n_in_bounds = (S.froms, S.tos) }

pub slice_bounds-edges-end : goal.slice_bounds-edges-end
slice_bounds-edges-end c = edges_in c.requires.proper.0 c.requires.proper.1 _ _ c.list_pairs-k.ensures

pub slice_bounds-edges-end-2 : goal.slice_bounds-edges-end-2
slice_bounds-edges-end-2 c = sym (length-take-le _ _ (edges_in c.requires.proper.0 c.requires.proper.1 _ _ c.list_pairs-k.ensures))

pub stamp_edges-requires : goal.stamp_edges-requires
stamp_edges-requires c = walks c.requires.proper.0 c.requires.proper.1 _ _ c.list_pairs-k.ensures c.args.stamps.now c.requires.columned

pub any_backward-requires : goal.any_backward-requires
any_backward-requires c = finishing c.requires.proper.0 c.requires.proper.1 _ _ c.list_pairs-k.ensures c.args.stamps.now c.requires.columned _ c.stamp_edges.auto.stamps

pub returns : goal.returns
returns c = leaves c.requires.proper.0 c.requires.proper.1 _ _ c.list_pairs-k.ensures c.args.stamps.now c.requires.columned _ c.stamp_edges.auto.stamps _ c.stamp_edges.ensures c.any_backward.ensures
