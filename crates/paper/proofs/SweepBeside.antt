-- THE THEOREM on a dropped pair: whatever pair Sweep calls drop after a Stamp, a chain of the edges that Stamp walked implies it, and the chain takes neither edge of that pair, from whatever clause.
-- On slots, with the reason in words, it is `chain_beside` (crate sound). Assumes nothing.
use Prim.Native.Nat.{ℕ, ◌+◌, ◌*◌, ◌≤◌, ◌<◌}
use native.Mathlib.Omega.{arith}
use mathlib.Core.Path.{◌≡◌, refl, sym, ap, subst, subst₂, ◌∙◌}
use mathlib.Core.Bool.{Bool, true, false}
use mathlib.Core.Logic.{inl, inr, ⊎_elim}
use mathlib.Core.List.{List, [], ◌∷◌, map, Memᴰ}
use lib.ListN.{length}
use lib.IntN.{ℤ, neg_ℤ}
use lib.Dec.{ltb}
use Rattle.base.specs.Decide.{le_or}
use Rattle.literal.specs.Literals.{Literal, slot_of, lit_at}
use Rattle.literal.proofs.Laws.{slot_lit, slot_same, slot_twin}
use Rattle.walk.specs.Walk.{Stamps}
use Rattle.walk.proofs.Theorems.{Stamped}
use Rattle.scc.specs.Groups.{cyclic}
use Rattle.scc.specs.Forward.{Acyclic}
use Rattle.scc.proofs.Forward.{cyclic_none, edge_below}
use Rattle.stamp_columns.specs.Columns.{columns}
use Rattle.hidden.specs.Hidden.{hidden_tautology, shorten}
use Rattle.hidden.proofs.Pairs.{Reads}
use Rattle.hidden.proofs.Agree.{tautology_agree}
use Rattle.state.specs.declared.State.{State}
use Rattle.state.specs.declared.Pass.{Pass}
use Rattle.tables.specs.Tables.{Tables}
use Rattle.tables.specs.Clauses.{slots_at}
use Rattle.tables.specs.Fates.{visits}
use Rattle.tables.specs.Calls.{After}
use Rattle.shape.specs.Shape.{settled_to}
use Rattle.visits.proofs.Forming.{shape_formed, clause_fits, part_length, stands_one}
use Rattle.visits.proofs.Fitting.{fit_member, fit_slots}
use Rattle.visits.specs.Formed.{Formed, FitClause}
use Rattle.visits.proofs.StoreKeeps.{FormedIn}
use Rattle.table_graph.proofs.Listing.{slots_in}
use Rattle.stamp_walk.specs.Stamping.{Proper}
use Rattle.stamp.specs.Stamp.{stamped_tables, stamp_fresh, stamp_call}
use Rattle.stamp.proofs.Asking.{Known, known_proper}
use Rattle.stamp.proofs.Writing.{full_lists}
use Rattle.stamp.proofs.Freshness.{stamps_sized, stamps_stamped}
use Rattle.stamp.proofs.Shaped.{written_fresh}
use Rattle.sweep_visits.specs.Clause.{sweep_clause}
use Rattle.sound.specs.Formula.{Clause, dropped, standing, graph}
use Rattle.sound.specs.Sweep.{sweep_slots}
use Rattle.sound.proofs.Sound.{StampedFormula}
use Rattle.sound.specs.Kept.{ReachBeside, begin, step}
use Rattle.sound.proofs.Chains.{chain_beside}
use Rattle.paper.specs.Clauses.{clause_at, flag_at}
use Rattle.paper.specs.Stamping.{slot_clauses, edges_from, walk_of}
use Rattle.paper.specs.Sweeping.{HiddenPair, sweeps}
use Rattle.paper.specs.Chains.{ChainBeside, here, on, DroppedBeside}
use Rattle.paper.proofs.Accepted.{accepted}
use Rattle.paper.proofs.Graph.{standing_mem, same_graph, clause_in, literal_at, edge_reads, complement, slots_edge}
use Rattle.paper.proofs.Stamping.{columns_agree}
use Rattle.paper.proofs.Fates.{pair_hidden}
use Rattle.paper.proofs.Visits.{visits_others, visits_swept}
use Rattle.paper.proofs.Sweeps.{none_made, sweeps_made}

-- ---- after a Stamp that was fit

module _ {order : List ℤ} {t : Tables} {st : State} (K : Known order t st) (uncyclic : cyclic (edges_from t st) (2 * st.v) ≡ false) where
  abbrev cs : List (List ℕ)
  cs = slot_clauses t st

  abbrev f : List Clause
  f = map standing cs

  abbrev σ : Stamps
  σ = walk_of order t st

  abbrev t' : Tables
  t' = stamped_tables st.v σ t

  P : Proper st.v st.n t.clauses t.literals
  P = known_proper K

  below : (c : List ℕ) → Memᴰ c cs → (q : ℕ) → Memᴰ q c → q < 2 * st.v
  below = slots_in P.listed

  R : StampedFormula st.v f σ
  R = record {
    shaped = record { below = λ C m. below C (standing_mem cs m); once = λ C m. P.once C (standing_mem cs m) };
    stamped = subst (λ (adj : ℕ → List ℕ). Stamped adj (2 * st.v) σ) (sym (same_graph cs)) (stamps_stamped cs st.v below (map slot_of order) (full_lists K.full));
    sized = stamps_sized cs st.v below (map slot_of order) (full_lists K.full);
    acyclic = subst Acyclic (sym (same_graph cs)) (cyclic_none cs st.v below uncyclic);
  }

  -- a path beside a pair is a chain beside it
  to_chain : (a b : ℤ) → Literal st.v a → Literal st.v b → {x y : ℕ} → ReachBeside (graph f) (slot_of a) (slot_of b) x y → (p q : ℤ) → Literal st.v p → Literal st.v q → slot_of p ≡ x → slot_of q ≡ y → ChainBeside t st.n a b p q
  to_chain a b A B begin p q Lp Lq e k = subst (ChainBeside t st.n a b p) (slot_same p q Lp.above Lq.above (e ∙ sym k)) here
  to_chain a b A B (step {s = s} {t = y} r m none) p q Lp Lq e k =
      let edge : Memᴰ y (edges_from t st s) = subst (λ (adj : ℕ → List ℕ). Memᴰ y (adj s)) (same_graph cs) m in
      let L = literal_at st.v s (edge_below cs st.v below s y edge).0 in
      on (to_chain a b A B r p (lit_at s) Lp L e (slot_lit s))
      (slots_edge t st K.shape L Lq (subst₂ (λ (x z : ℕ). Memᴰ z (edges_from t st x)) (sym (slot_lit s)) (sym k) edge))
      (λ E. none (subst₂ (Reads (slot_of a) (slot_of b)) (slot_lit s) k (edge_reads A.above B.above E)))

  module _ (i : ℕ) (lt : i < st.n) where
    module _ (a b : ℤ) (lits : clause_at t i ≡ a ∷ b ∷ []) where
      fit : FitClause st.v t.variables (ltb i (settled_to st.pass st.n)) (a ∷ b ∷ [])
      fit = subst (FitClause st.v t.variables (ltb i (settled_to st.pass st.n))) lits (clause_fits (shape_formed K.shape) i lt)

      stands : flag_at t i ≡ 1
      stands = let F = shape_formed K.shape in stands_one F i lt (λ z. omega (arith, part_length F i lt, F.rule.parts.dropped i lt z, ap length lits))

      -- what the rule for two literals finds in the records is what it finds in the walk
      slots_dropped : HiddenPair t' a b → sweep_slots σ (slot_of a ∷ slot_of b ∷ []) ≡ dropped
      unfolding sweep_slots
      slots_dropped H =
          let C : List ℕ = slot_of a ∷ slot_of b ∷ [] in
          let found : hidden_tautology σ C ≡ true = sym (tautology_agree (2 * st.v) _ σ (columns_agree K uncyclic) C (fit_slots fit)) ∙ (pair_hidden t' st.v (written_fresh K) fit).1 H in
          ap (λ (v : Bool). elim v as (λ x. Clause) [ true ↦ dropped | false ↦ standing (shorten (λ s. s) σ C) ]) found

      hidden_beside : HiddenPair t' a b → ChainBeside t st.n a b (neg_ℤ a) b × ChainBeside t st.n a b (neg_ℤ b) a
      unfolding slots_at
      hidden_beside H =
          let A = fit_member fit (mathlib.Core.List.Memᴰ.head refl) in
          let B = fit_member fit (mathlib.Core.List.Memᴰ.tail (mathlib.Core.List.Memᴰ.head refl)) in
          let C : List ℕ = slot_of a ∷ slot_of b ∷ [] in
          let m : Memᴰ C cs = subst (λ (D : List ℤ). Memᴰ (map slot_of D) cs) lits (clause_in t.clauses t.literals st.n 0 i (omega arith) (omega arith)) in
          let c = chain_beside st.v f σ R (slot_of a) (slot_of b) (P.once C m) (below C m) (slots_dropped H) in (
            to_chain a b A B c.0 (neg_ℤ a) b (complement t st K.shape A) B (slot_twin a A.above) refl,
            to_chain a b A B c.1 (neg_ℤ b) a (complement t st K.shape B) A (slot_twin b B.above) refl,
          )

  -- ---- and Sweep calls

  formed : FormedIn st.v st.n t
  formed = subst₂ (λ (p : Pass) (m : Bool). Formed st.v st.n (settled_to p st.n) m t.clauses t.literals t.variables) K.idle K.unmarked (shape_formed K.shape)

  made_beside : (w : Tables) (k : ℕ) → k ≤ st.n → w ≡ visits (sweep_clause (columns t'.times t'.links)) k 0 t' → DroppedBeside t st w
  unfolding stamped_tables
  made_beside w k le made i lt a b lits gone =
      let one = stands i lt a b lits in
      let F = written_fresh K in
      let flag = sym (ap (λ (x : Tables). flag_at x i) made) ∙ gone in
      let far : 0 + k ≤ st.n = omega arith in
      ⊎_elim
      (λ (h : k ≤ i). absurd (omega (arith, (visits_others t' st.v F k 0 far t' formed i lt (inr (inl (omega arith)))).0, flag, one)))
      (λ (h : i < k). hidden_beside i lt a b lits (((visits_swept t' st.v F k 0 far t' formed i (omega arith) (omega arith) one).pair a b lits).0 flag))
      (le_or k i)

-- Stamp, then Sweep calls of any numbers of steps, refused ones included
pub sweeps_beside : (order : List ℤ) (t : Tables) (st : State) → (stamp_call order t st).reply.number ≡ 0 → (steps : List ℕ) → DroppedBeside t st (sweeps steps (stamp_call order t st)).tables
sweeps_beside order t st taken steps =
    let A = accepted order t st taken in
    subst (λ (s : After). DroppedBeside t st (sweeps steps s).tables) (sym A.answer) (after A.known A.acyclic)
  where
    after : (K : Known order t st) → cyclic (edges_from t st) (2 * st.v) ≡ false → DroppedBeside t st (sweeps steps (stamp_fresh order t st)).tables
    after K uncyclic =
        let M = sweeps_made (stamp_fresh order t st).tables st steps (stamp_fresh order t st) (none_made (stamp_fresh order t st).tables st (stamp_fresh order t st) refl refl) in
        made_beside K uncyclic (sweeps steps (stamp_fresh order t st)).tables M.count M.within M.made
