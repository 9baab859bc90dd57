-- Reach over the clauses in the tables is reach over the slots of what they represent (`carried`), and a walk decides it (`reached_exact`). Assumes nothing.
use Prim.Native.Nat.{ℕ, ◌*◌, ◌<◌}
use mathlib.Core.Path.{◌≡◌, refl, sym, subst, subst₂, ◌∙◌}
use mathlib.Core.Bool.{true}
use mathlib.Core.Logic.{◌⊎◌, inl, inr, ⊎_elim, ◌↔◌}
use mathlib.Core.List.{List, Memᴰ}
use lib.IntN.{ℤ}
use Rattle.literal.specs.Literals.{Literal, slot_of, lit_at}
use Rattle.literal.proofs.Laws.{slot_lit, slot_same, slot_below}
use Rattle.walk.specs.Forest.{Reach, here, on}
use Rattle.scc.specs.Groups.{reaches}
use Rattle.scc.proofs.Least.{reaches_means}
use Rattle.state.specs.declared.State.{State}
use Rattle.tables.specs.Tables.{Tables}
use Rattle.shape.specs.Shape.{Shape}
use Rattle.visits.proofs.Forming.{shape_formed}
use Rattle.sound.specs.Formula.{graph}
use Rattle.sound.proofs.Sound.{graph_below}
use Rattle.moves.specs.Core.{Core}
use Rattle.paper.specs.Stamping.{edges_from}
use Rattle.paper.proofs.Graph.{literal_at, edge_slots, slots_edge, edge_literals}
use Rattle.refinement.specs.Represented.{Represented, core_of}
use Rattle.refinement.proofs.Standing.{core_represented}
use Rattle.refinement.proofs.Shaping.{shaped_of, graph_of}
use Rattle.reach.specs.Reach.{Reached, self, step, reached?}

module _ {t : Tables} {st : State} (S : Shape t st) {k : Core} (R : Represented st.v st.n st.mark t k) where
  same_edges : graph k.clauses ≡ edges_from t st
  same_edges = graph_of (shape_formed S) R

  to_slots : {p q : ℤ} → Reached t st.n p q → Reach (graph k.clauses) (slot_of p) (slot_of q)
  to_slots self = here
  to_slots (step {r = r} {q = q} c E) = on (to_slots c) (subst (λ (adj : ℕ → List ℕ). Memᴰ (slot_of q) (adj (slot_of r))) (sym same_edges) (edge_slots t st S E))

  pub from_path : {x y : ℕ} → Reach (graph k.clauses) x y → (p q : ℤ) → Literal st.v p → Literal st.v q → slot_of p ≡ x → slot_of q ≡ y → Reached t st.n p q
  from_path here p q P Q e h = subst (Reached t st.n p) (slot_same p q P.above Q.above (e ∙ sym h)) self
  from_path (on {b = s} {c = y} r m) p q P Q e h =
      let edge : Memᴰ y (edges_from t st s) = subst (λ (adj : ℕ → List ℕ). Memᴰ y (adj s)) same_edges m in
      let L = literal_at st.v s (graph_below st.v k.clauses (shaped_of (shape_formed S) R) s y m).0 in
      step (from_path r p (lit_at s) P L e (slot_lit s)) (slots_edge t st S L Q (subst₂ (λ (x z : ℕ). Memᴰ z (edges_from t st x)) (sym (slot_lit s)) (sym h) edge))

  -- what is reached is the literal itself, or both are literals of the variables
  ends : {p q : ℤ} → Reached t st.n p q → (p ≡ q) ⊎ (Literal st.v p × Literal st.v q)
  ends self = inl refl
  ends {p} (step c E) = let L = edge_literals t st S E in inr (⊎_elim (λ e. subst (Literal st.v) (sym e) L.0) (λ P. P.0) (ends c), L.1)

-- where reach over slots leads from one to the other, so does reach over the tables
pub carried : {t t' : Tables} {st st' : State} (S : Shape t st) (S' : Shape t' st') {k k' : Core} → Represented st.v st.n st.mark t k → Represented st'.v st'.n st'.mark t' k' → st.v ≡ st'.v
    → (p q : ℤ) → (Reach (graph k.clauses) (slot_of p) (slot_of q) → Reach (graph k'.clauses) (slot_of p) (slot_of q)) → Reached t st.n p q → Reached t' st'.n p q
carried {t' = t'} {st' = st'} S S' R R' same_v p q leads r =
    ⊎_elim
    (λ (e : p ≡ q). subst (Reached t' st'.n p) e self)
    (λ L. from_path S' R' (leads (to_slots S R r)) p q (subst (λ (v : ℕ). Literal v p) same_v L.0) (subst (λ (v : ℕ). Literal v q) same_v L.1) refl refl)
    (ends S R r)

-- THE LAW on `reached?`
pub reached_exact : (t : Tables) (st : State) → Shape t st → (p q : ℤ) → Literal st.v p → Literal st.v q → (reached? t st p q ≡ true) ↔ Reached t st.n p q
unfolding reached?
reached_exact t st S p q P Q = (
  λ e. from_path S R (subst (λ (adj : ℕ → List ℕ). Reach adj (slot_of p) (slot_of q)) (sym (same_edges S R)) (means.0 e)) p q P Q refl refl,
  λ r. means.1 (subst (λ (adj : ℕ → List ℕ). Reach adj (slot_of p) (slot_of q)) (same_edges S R) (to_slots S R r)),
)
  where
    R : Represented st.v st.n st.mark t (core_of st.v st.n st.mark t)
    R = core_represented st.v st.n st.mark t

    inside : (s y : ℕ) → s < 2 * st.v → Memᴰ y (edges_from t st s) → y < 2 * st.v
    inside s y lt m = (graph_below st.v (core_of st.v st.n st.mark t).clauses (shaped_of (shape_formed S) R) s y (subst (λ (adj : ℕ → List ℕ). Memᴰ y (adj s)) (sym (same_edges S R)) m)).1

    means : (reaches (edges_from t st) (2 * st.v) (slot_of p) (slot_of q) ≡ true → Reach (edges_from t st) (slot_of p) (slot_of q)) × (Reach (edges_from t st) (slot_of p) (slot_of q) → reaches (edges_from t st) (2 * st.v) (slot_of p) (slot_of q) ≡ true)
    means = reaches_means (edges_from t st) (2 * st.v) inside (slot_of p) (slot_of q) (slot_below p st.v P.above P.within)
