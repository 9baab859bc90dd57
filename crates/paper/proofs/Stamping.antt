-- The records that a fit Stamp writes are what `StampedAs` says: the walk's, slot by slot, are those of literals. Assumes nothing.
use Prim.Native.Nat.{ℕ, ◌*◌, ◌<◌}
use native.Mathlib.Omega.{arith}
use mathlib.Core.Path.{◌≡◌, refl, sym, ap, subst, ◌∙◌}
use mathlib.Core.Bool.{false}
use mathlib.Core.Logic.{⊎_elim}
use mathlib.Core.List.{List, map, Memᴰ}
use lib.IntN.{ℤ}
use Rattle.literal.specs.Literals.{Literal, slot_of, lit_at}
use Rattle.literal.proofs.Laws.{slot_below, slot_same, lit_slot}
use Rattle.walk.specs.Walk.{Stamps}
use Rattle.walk.specs.Forest.{discovery_at, finish_at, parent_at, start_at, here, on, Top, Under}
use Rattle.walk.proofs.Theorems.{Stamped, start_starts, back_cycle, reach_down}
use Rattle.implications.proofs.Implications.{no_self_edge}
use Rattle.scc.specs.Groups.{cyclic}
use Rattle.scc.proofs.Forward.{cyclic_none}
use Rattle.stamps.specs.Fresh.{FreshStamps}
use Rattle.hidden.proofs.Agree.{Agree}
use Rattle.stamp_columns.proofs.Columns.{column_discovery, column_finishes, column_parents, column_starts}
use Rattle.stamp_columns.specs.Columns.{columns}
use Rattle.state.specs.declared.State.{State}
use Rattle.tables.specs.Tables.{Tables}
use Rattle.table_graph.proofs.Listing.{slots_in}
use Rattle.stamp_walk.specs.Stamping.{Proper}
use Rattle.stamp.specs.Stamp.{stamped_tables}
use Rattle.stamp.proofs.Asking.{Known, known_proper}
use Rattle.stamp.proofs.Writing.{full_lists}
use Rattle.stamp.proofs.Freshness.{stamps_stamped, discoveries_size, finishes_size, parents_size, starts_size}
use Rattle.stamp.proofs.Shaped.{written_fresh}
use Rattle.moves.proofs.Records.{stamped_agree}
use Rattle.paper.specs.Records.{discovered, finished, parent, start, Ancestor}
use Rattle.paper.specs.Edges.{Edge}
use Rattle.paper.specs.Stamping.{slot_clauses, edges_from, walk_of, RecordOf, StampedAs}
use Rattle.paper.proofs.Ancestors.{ancestor_holds, holds_ancestor}
use Rattle.paper.proofs.Graph.{edge_literals, edge_slots, slots_edge, root_exact}
use Rattle.paper.proofs.Walking.{stamps_walked}

module _ {order : List ℤ} {t : Tables} {st : State} (K : Known order t st) (uncyclic : cyclic (edges_from t st) (2 * st.v) ≡ false) where
  abbrev σ : Stamps
  σ = walk_of order t st

  abbrev t' : Tables
  t' = stamped_tables st.v σ t

  abbrev adj : ℕ → List ℕ
  adj = edges_from t st

  P : Proper st.v st.n t.clauses t.literals
  P = known_proper K

  below : (c : List ℕ) → Memᴰ c (slot_clauses t st) → (q : ℕ) → Memᴰ q c → q < 2 * st.v
  below = slots_in P.listed

  S : Stamped adj (2 * st.v) σ
  S = stamps_stamped (slot_clauses t st) st.v below (map slot_of order) (full_lists K.full)

  F : FreshStamps st.v t'.times t'.links
  F = written_fresh K

  slot : {p : ℤ} → Literal st.v p → slot_of p < 2 * st.v
  slot {p} L = slot_below p st.v L.above L.within

  on_walk : {p : ℤ} → Literal st.v p → 0 < discovery_at σ (slot_of p)
  on_walk {p} L = S.all (slot_of p) (slot L)

  -- ---- the records

  pub columns_agree : Agree (2 * st.v) (columns t'.times t'.links) σ
  columns_agree = stamped_agree st.v σ t (discoveries_size P K.full) (finishes_size P K.full) (parents_size P K.full) (starts_size P K.full)

  discoveries_is : (p : ℤ) → Literal st.v p → discovered t' p ≡ discovery_at σ (slot_of p)
  discoveries_is p L = sym (column_discovery t'.times t'.links (slot_of p)) ∙ columns_agree.discoveries (slot_of p) (slot L)

  finishes_is : (p : ℤ) → Literal st.v p → finished t' p ≡ finish_at σ (slot_of p)
  finishes_is p L = sym (column_finishes t'.times t'.links (slot_of p)) ∙ columns_agree.finishes (slot_of p) (slot L)

  parent_slot : (p : ℤ) → Literal st.v p → slot_of (parent t' p) ≡ parent_at σ (slot_of p)
  parent_slot p L = sym (column_parents t'.times t'.links (slot_of p)) ∙ columns_agree.parents (slot_of p) (slot L)

  start_slot : (p : ℤ) → Literal st.v p → slot_of (start t' p) ≡ start_at σ (slot_of p)
  start_slot p L = sym (column_starts t'.times t'.links (slot_of p)) ∙ columns_agree.starts (slot_of p) (slot L)

  parent_literal : (p : ℤ) → Literal st.v p → Literal st.v (parent t' p)
  parent_literal p L = F.parent_literal (slot_of p) (slot L)

  start_literal : (p : ℤ) → Literal st.v p → Literal st.v (start t' p)
  start_literal p L = F.start_literal (slot_of p) (slot L)

  record_of : (p : ℤ) → Literal st.v p → RecordOf σ t' p
  record_of p L = record {
    discovery = discoveries_is p L;
    finish = finishes_is p L;
    parent_is = sym (lit_slot (parent t' p) (parent_literal p L).above) ∙ ap lit_at (parent_slot p L);
    start_is = sym (lit_slot (start t' p) (start_literal p L).above) ∙ ap lit_at (start_slot p L);
  }

  -- ---- parents and starts

  parent_edge : (q : ℤ) → Literal st.v q → (parent t' q ≡ q → ⊥) → Edge t st.n (parent t' q) q
  parent_edge q L other =
      let Lp = parent_literal q L in
      ⊎_elim
      (λ (h : Top σ (slot_of q)). absurd (other (slot_same (parent t' q) q Lp.above L.above (parent_slot q L ∙ h.parent))))
      (λ (u : (p : ℕ) × Under adj σ (slot_of q) p).
      slots_edge t st K.shape Lp L (subst (λ (x : ℕ). Memᴰ (slot_of q) (adj x)) (sym (parent_slot q L ∙ u.1.parent)) u.1.edge))
      (S.forest.tree (slot_of q) (on_walk L))

  start_own : (q : ℤ) → Literal st.v q → Ancestor t' (start t' q) q × (parent t' (start t' q) ≡ start t' q)
  start_own q L =
      let Ls = start_literal q L in
      let s = start_starts adj σ S.forest (slot_of q) (on_walk L) in
      let e = start_slot q L in (
        holds_ancestor st.v t' F (start t' q) q Ls L (F.start (slot_of q) (slot L)).0,
        slot_same (parent t' (start t' q)) (start t' q) (parent_literal (start t' q) Ls).above Ls.above (parent_slot (start t' q) Ls ∙ ap (parent_at σ) e ∙ s.2.parent ∙ sym e),
      )

  -- ---- edges

  edge_down : (p q : ℤ) → Edge t st.n p q → finished t' q < finished t' p
  edge_down p q k =
      let L = edge_literals t st K.shape k in
      let m = edge_slots t st K.shape k in
      let none = cyclic_none (slot_clauses t st) st.v below uncyclic in
      ⊎_elim
      (λ (e : slot_of p ≡ slot_of q). absurd (no_self_edge (slot_clauses t st) P.once (slot_of q) (subst (λ (x : ℕ). Memᴰ (slot_of q) (adj x)) e m)))
      (λ (lt : finish_at σ (slot_of q) < finish_at σ (slot_of p)). omega (arith, lt, finishes_is p L.0, finishes_is q L.1))
      (reach_down adj σ S.forest (λ a b e i d h. let c = back_cycle adj σ S.forest a b e i h in none a b d c.0 c.1) (on_walk L.0) (on here m))

  pub stamped_as : StampedAs order t st t'
  stamped_as = record {
    listed = K.full;
    graph = λ p q Lp Lq. (λ m. slots_edge t st K.shape Lp Lq m, λ k. edge_slots t st K.shape k);
    roots = root_exact t st K.shape;
    walked = stamps_walked (slot_clauses t st) st.v below (map slot_of order) (full_lists K.full);
    written = refl;
    records = record_of;
    ancestors = λ p q Lp Lq. (holds_ancestor st.v t' F p q Lp Lq, ancestor_holds st.v t' F Lq);
    parents = λ q L. (parent_literal q L, parent_edge q L);
    starts = λ q L. let s = start_own q L in (start_literal q L, s.0, s.1);
    edges = edge_down;
  }
