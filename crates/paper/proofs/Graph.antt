-- The edges of the walk's graph are those of the standing two-literal clauses, on literals; a root has none into it. Assumes nothing.
use Prim.Native.Nat.{ℕ, zero, suc, ◌+◌, ◌*◌, ◌≤◌, ◌<◌}
use native.Mathlib.Omega.{arith}
use mathlib.Core.Path.{◌≡◌, refl, sym, ap, subst, ◌∙◌}
use mathlib.Core.Bool.{true}
use mathlib.Core.Logic.{◌↔◌, inl, inr, ⊎_elim}
use mathlib.Core.List.Memᴰ
use mathlib.Core.List.{List, [], ◌∷◌, map, Memᴰ}
use lib.ListN.{length, replicate, length-replicate}
use lib.IntN.{ℤ, neg_ℤ, nat_abs}
use Rattle.base.specs.Decide.{same_or}
use Rattle.literal.specs.Literals.{Literal, slot_of, lit_at, twin}
use Rattle.literal.proofs.Laws.{slot_lit, slot_twin, slot_same, lit_above, lit_var}
use Rattle.literal.proofs.Signed.{abs_neg}
use Rattle.implications.specs.Clauses.{froms, tos, implications}
use Rattle.implications.proofs.Implications.{root_edges}
use Rattle.scc.proofs.Forward.{edge_below}
use Rattle.hidden.proofs.Pairs.{Reads}
use Rattle.state.specs.declared.State.{State}
use Rattle.tables.specs.Tables.{Tables, standing}
use Rattle.tables.specs.Clauses.{literals_of, slots_at, slots_from}
use Rattle.visits.proofs.Forming.{shape_formed, clause_fits, part_length, stands_one}
use Rattle.visits.proofs.Fitting.{fit_member}
use Rattle.shape.specs.Shape.{Shape}
use Rattle.table_graph.specs.Pairs.{EdgeRoom}
use Rattle.table_graph.proofs.Listing.{formed_listed, from_clauses, slots_in, fit_edges}
use Rattle.sound.specs.Formula.{literals_in, graph}
use Rattle.sound.specs.Formula as formula
use Rattle.sound.proofs.Graph.{edge_pair, reads_edge}
use Rattle.paper.specs.Edges.{Pair, EdgeOf, Edge, first, second}
use Rattle.paper.specs.Stamping.{slot_clauses, edges_from, root_of}

-- ---- clauses of slots, as a formula

all_standing : (cs : List (List ℕ)) → map literals_in (map formula.standing cs) ≡ cs
unfolding literals_in
all_standing [] = refl
all_standing (c ∷ cs) = ap (λ (ds : List (List ℕ)). c ∷ ds) (all_standing cs)

pub standing_mem : (cs : List (List ℕ)) {c : List ℕ} → Memᴰ (formula.standing c) (map formula.standing cs) → Memᴰ c cs
unfolding literals_in
standing_mem cs {c} m = subst (Memᴰ c) (all_standing cs) (Memᴰ.map literals_in m)

pub same_graph : (cs : List (List ℕ)) → graph (map formula.standing cs) ≡ implications cs
unfolding graph
same_graph cs = ap implications (all_standing cs)

-- the clause with record i is among them
pub clause_in : (c : List ℕ) (l : List ℤ) (m k i : ℕ) → k ≤ i → i < k + m → Memᴰ (slots_at c l i) (slots_from c l m k)
unfolding slots_from
clause_in c l zero k i le lt = absurd (omega arith)
clause_in c l (suc m) k i le lt = ⊎_elim (λ (e : i ≡ k). Memᴰ.head (ap (slots_at c l) e)) (λ (d : i ≡ k → ⊥). Memᴰ.tail (clause_in c l m (suc k) i (omega arith) (omega arith))) (same_or i k)

-- a clause whose slots are two
two_slots : (C : List ℤ) (x y : ℕ) → map slot_of C ≡ x ∷ y ∷ [] → (a : ℤ) × (b : ℤ) × (C ≡ a ∷ b ∷ []) × (slot_of a ≡ x) × (slot_of b ≡ y)
two_slots [] x y e = absurd (let z : ◌≡◌ {A = ℕ} 0 1 = cc in omega arith)
two_slots (a ∷ []) x y e = absurd (let n : length (map slot_of (a ∷ [])) ≡ 2 = ap length e in omega arith)
two_slots (a ∷ b ∷ []) x y e = (a, b, refl, (cc), (cc))
two_slots (a ∷ b ∷ c ∷ C) x y e = absurd (let n : length (map slot_of (a ∷ b ∷ c ∷ C)) ≡ 2 = ap length e in omega arith)

pub literal_at : (v s : ℕ) → s < 2 * v → Literal v (lit_at s)
literal_at v s lt = record { above = lit_above s; within = omega (arith, lit_var s, lt) }

-- an edge of a clause of literals, on slots
pub edge_reads : {a b p q : ℤ} → 0 < nat_abs a → 0 < nat_abs b → EdgeOf a b p q → Reads (slot_of a) (slot_of b) (slot_of p) (slot_of q)
edge_reads {a} la lb (first e f) = inl (ap slot_of e ∙ slot_twin a la, ap slot_of f)
edge_reads {a} {b} la lb (second e f) = inr (ap slot_of e ∙ slot_twin b lb, ap slot_of f)

module _ (t : Tables) (st : State) (S : Shape t st) where
  abbrev cs : List (List ℕ)
  cs = slot_clauses t st

  below : (c : List ℕ) → Memᴰ c cs → (q : ℕ) → Memᴰ q c → q < 2 * st.v
  below = slots_in (formed_listed (shape_formed S))

  -- a literal of a standing pair is one of the variables
  pair_literals : {a b : ℤ} → Pair t st.n a b → Literal st.v a × Literal st.v b
  pair_literals {a} {b} P =
      let fit = clause_fits (shape_formed S) P.clause P.within in (
        fit_member fit (subst (Memᴰ a) (sym P.literals) (Memᴰ.head refl)),
        fit_member fit (subst (Memᴰ b) (sym P.literals) (Memᴰ.tail (Memᴰ.head refl))),
      )

  pub complement : {a : ℤ} → Literal st.v a → Literal st.v (neg_ℤ a)
  complement {a} L = record { above = omega (arith, L.above, abs_neg a); within = omega (arith, L.within, abs_neg a) }

  -- both ends of an edge are literals of the variables
  pub edge_literals : {p q : ℤ} → Edge t st.n p q → Literal st.v p × Literal st.v q
  edge_literals E = ends (pair_literals E.pair) E.edge
    where
      ends : {a b p q : ℤ} → Literal st.v a × Literal st.v b → EdgeOf a b p q → Literal st.v p × Literal st.v q
      ends L (first e f) = (subst (Literal st.v) (sym e) (complement L.0), subst (Literal st.v) (sym f) L.1)
      ends L (second e f) = (subst (Literal st.v) (sym e) (complement L.1), subst (Literal st.v) (sym f) L.0)

  -- ---- an edge of clauses is one of slots

  pair_in : {a b : ℤ} → Pair t st.n a b → Memᴰ (slot_of a ∷ slot_of b ∷ []) cs
  unfolding slots_at
  pair_in P = subst (λ (C : List ℤ). Memᴰ (map slot_of C) cs) P.literals (clause_in t.clauses t.literals st.n 0 P.clause (omega arith) (omega (arith, P.within)))

  read : {a b : ℤ} {x y : ℕ} → Pair t st.n a b → Reads (slot_of a) (slot_of b) x y → Memᴰ y (edges_from t st x)
  read {a} {b} {x} {y} P r = subst (λ (adj : ℕ → List ℕ). Memᴰ y (adj x)) (same_graph cs) (reads_edge (map formula.standing cs) (slot_of a) (slot_of b) x y (Memᴰ.map formula.standing (pair_in P)) r)

  pub edge_slots : {p q : ℤ} → Edge t st.n p q → Memᴰ (slot_of q) (edges_from t st (slot_of p))
  edge_slots E = let L = pair_literals E.pair in read E.pair (edge_reads L.0.above L.1.above E.edge)

  -- ---- and an edge of slots is one of clauses

  pub slots_edge : {p q : ℤ} → Literal st.v p → Literal st.v q → Memᴰ (slot_of q) (edges_from t st (slot_of p)) → Edge t st.n p q
  unfolding slots_at
  slots_edge {p} {q} Lp Lq m =
      let r = edge_pair (map formula.standing cs) (slot_of p) (slot_of q) (subst (λ (adj : ℕ → List ℕ). Memᴰ (slot_of q) (adj (slot_of p))) (sym (same_graph cs)) m) in
      let k = from_clauses t.clauses t.literals st.n 0 (standing_mem cs r.2) in
      let i : ℕ = k.0 in
      let lt : i < st.n = omega (arith, k.1) in
      let w = two_slots (literals_of t.clauses t.literals i) r.0 r.1 (sym k.2) in
      let F = shape_formed S in
      let P : Pair t st.n w.0 w.1 = record {
        clause = i;
        within = lt;
        stands = stands_one F i lt (λ z. omega (arith, part_length F i lt, F.rule.parts.dropped i lt z, ap length w.2));
        literals = w.2;
      } in
      let L = pair_literals P in
      ⊎_elim
      (λ (h : (slot_of p ≡ twin r.0) × (slot_of q ≡ r.1)).
      record { a = w.0; b = w.1; pair = P; edge = first (slot_same p (neg_ℤ w.0) Lp.above (complement L.0).above (h.0 ∙ ap twin (sym w.3) ∙ sym (slot_twin w.0 L.0.above))) (slot_same q w.1 Lq.above L.1.above (h.1 ∙ sym w.4)) })
      (λ (h : (slot_of p ≡ twin r.1) × (slot_of q ≡ r.0)).
      record { a = w.0; b = w.1; pair = P; edge = second (slot_same p (neg_ℤ w.1) Lp.above (complement L.1).above (h.0 ∙ ap twin (sym w.4) ∙ sym (slot_twin w.1 L.1.above))) (slot_same q w.0 Lq.above L.0.above (h.1 ∙ sym w.3)) })
      r.3

  -- ---- roots

  pub root_exact : (q : ℤ) → Literal st.v q → (root_of t st (slot_of q) ≡ true) ↔ ((p : ℤ) → Edge t st.n p q → ⊥)
  root_exact q Lq =
      let many : length (tos cs) ≡ length (froms cs) = (fit_edges room).pairs in
      let r = root_edges (froms cs) (tos cs) many (slot_of q) in (
        λ e p k. r.0 e (slot_of p) (edge_slots k),
        λ none. r.1 (λ s m.
            let lt = (edge_below cs st.v below s (slot_of q) m).0 in
            none (lit_at s) (slots_edge (literal_at st.v s lt) Lq (subst (λ (x : ℕ). Memᴰ (slot_of q) (edges_from t st x)) (sym (slot_lit s)) m))),
      )
    where
      room : EdgeRoom st.v st.n t.clauses t.literals (replicate (2 * st.n) 0) (replicate (2 * st.n) 0) (replicate (2 * st.v + 1) 0) (replicate (2 * st.n) 0)
      room =
          let enough : 2 * st.n ≤ length {A = ℕ} (replicate (2 * st.n) 0) = omega (arith, length-replicate {A = ℕ} (2 * st.n) 0) in
          record { listed = formed_listed (shape_formed S); froms = enough; tos = enough; heads = enough; marks = length-replicate (2 * st.v + 1) 0 }
