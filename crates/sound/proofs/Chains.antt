-- Why no drop can go through the clause itself. Sweep drops the pair (a ∨ b) for an edge p → q of it where p holds q by way of another literal m, the parent of q: the chain p ⇝ m ⇝ q.
-- The clause has two edges, p → q and −q → −p, and the chain takes neither:
--     p → q        on the way from p to m it would make q reach m, and m reaches q; on the way from m to q it would make m reach p, and p reaches m;
--     −q → −p      either way p would reach −q, so q reaches −p by contraposition; and −p would reach q: two literals that reach each other, or q is −p and the clause has one literal twice.
-- No two different literals reach each other, since Stamp refuses such graphs with 7. With cycles a chain may take the clause's own edge: P9 in Cases.
--     chain_beside   so the chain takes neither edge of the pair, not even from a second clause with the same literals, and so does its contrapositive
--     others_imply   and every assignment that satisfies the other clauses satisfies the one that is dropped
-- Assumes nothing.
use Prim.Native.Nat.{ℕ, ◌*◌, ◌/◌, ◌<◌}
use native.Mathlib.Omega.{arith}
use mathlib.Core.Path.{◌≡◌, refl, sym, ap, subst, ◌∙◌}
use mathlib.Core.Logic.{◌⊎◌, inl, inr, ⊎_elim}
use mathlib.Core.List.{List, [], ◌∷◌, Memᴰ}
use lib.ListN.{get_or, set}
use lib.Seq.{get_or-set_other}
use Rattle.base.proofs.Lists.{mem_get_d}
use Rattle.literal.specs.Literals.{twin}
use Rattle.literal.specs.Assignments.{Assignment}
use Rattle.literal.proofs.Twins.{twin_twice}
use Rattle.walk.specs.Walk.{Stamps}
use Rattle.walk.specs.Forest.{Reach, here, on}
use Rattle.walk.proofs.Theorems.{reach_mirror}
use Rattle.implications.specs.Clauses.{Once, more}
use Rattle.scc.proofs.Kosaraju.{reach_trans}
use Rattle.hidden.proofs.Pairs.{Reads}
use Rattle.sound.specs.Formula.{Clause, dropped, standing, Sat, Models, graph}
use Rattle.sound.specs.Sweep.{sweep_slots}
use Rattle.sound.specs.Kept.{Detour, ReachBeside, begin, step, Kept, round, implied}
use Rattle.sound.proofs.Truth.{true_or}
use Rattle.sound.proofs.Graph.{standing_eq, edge_pair, reads_edge, skew}
use Rattle.sound.proofs.Visit.{sweep_kept}
use Rattle.sound.proofs.Sound.{StampedFormula, nth_mem, range_within, reach_true}

-- a pair that is dropped has its two ways round
pub dropped_round : {adj : ℕ → List ℕ} {a b : ℕ} → Kept adj (standing (a ∷ b ∷ [])) dropped → Detour adj (twin a) b × Detour adj (twin b) a
dropped_round (round p q) = (p, q)
dropped_round (implied long l m r) = absurd (omega (arith, long))

-- ---- the two edges of a clause

-- of the two edges of (a ∨ b) one is p → q, and the other its contrapositive
reads_both : (a b p q s t : ℕ) → Reads a b p q → Reads a b s t → ((s ≡ p) × (t ≡ q)) ⊎ ((s ≡ twin q) × (t ≡ twin p))
reads_both a b p q s t (inl e) (inl k) = inl (k.0 ∙ sym e.0, k.1 ∙ sym e.1)
reads_both a b p q s t (inl e) (inr k) = inr (k.0 ∙ ap twin (sym e.1), k.1 ∙ sym (twin_twice a) ∙ ap twin (sym e.0))
reads_both a b p q s t (inr e) (inl k) = inr (k.0 ∙ ap twin (sym e.1), k.1 ∙ sym (twin_twice b) ∙ ap twin (sym e.0))
reads_both a b p q s t (inr e) (inr k) = inl (k.0 ∙ sym e.0, k.1 ∙ sym e.1)

once_apart : {a b : ℕ} → Once (a ∷ b ∷ []) → a ≡ b → ⊥
once_apart {a} {b} (more apart rest) e = apart b (Memᴰ.head refl) (ap (λ (x : ℕ). x / 2) (sym e))

reads_apart : (a b p q : ℕ) → Once (a ∷ b ∷ []) → Reads a b p q → twin p ≡ q → ⊥
reads_apart a b p q once (inl k) e = once_apart once (sym (twin_twice a) ∙ ap twin (sym k.0) ∙ e ∙ k.1)
reads_apart a b p q once (inr k) e = once_apart once (sym (sym (twin_twice b) ∙ ap twin (sym k.0) ∙ e ∙ k.1))

-- ---- paths beside a pair

beside_trans : {adj : ℕ → List ℕ} {a b x y z : ℕ} → ReachBeside adj a b x y → ReachBeside adj a b y z → ReachBeside adj a b x z
beside_trans p begin = p
beside_trans p (step q m none) = step (beside_trans p q) m none

-- a path none of whose edges is one of the pair's
no_edge_of : {adj : ℕ → List ℕ} (a b x y : ℕ) → ((s t : ℕ) → Reach adj x s → Reach adj t y → Reads a b s t → ⊥) → Reach adj x y → ReachBeside adj a b x y
no_edge_of {adj} a b x y none r = go r here
  where
    go : {z : ℕ} → Reach adj x z → Reach adj z y → ReachBeside adj a b x z
    go here k = begin
    go (on {b = s} {c = t} r m) k = step (go r (reach_trans (on here m) k)) m (none s t r k)

-- ---- the chain

module _ (vars : ℕ) (f : List Clause) (σ : Stamps) (R : StampedFormula vars f σ) (a b : ℕ) (once : Once (a ∷ b ∷ [])) where
  module _ (p q : ℕ) (r : Reads a b p q) (d : Detour (graph f) p q) where
    abbrev m : ℕ
    m = d.0

    -- the contrapositive edge is on no chain from p to q
    contrary : Reach (graph f) p (twin q) → Reach (graph f) (twin p) q → ⊥
    contrary there back =
        let mirrored = subst (λ (x : ℕ). Reach (graph f) x (twin p)) (twin_twice q) (reach_mirror (graph f) twin (skew f) there) in
        R.acyclic (twin p) q (reads_apart a b p q once r) back mirrored

    before : (s t : ℕ) → Reach (graph f) p s → Reach (graph f) t m → Reads a b s t → ⊥
    before s t there back e =
        ⊎_elim
        (λ (k : (s ≡ p) × (t ≡ q)). R.acyclic m q d.2 d.4 (subst (λ (x : ℕ). Reach (graph f) x m) k.1 back))
        (λ (k : (s ≡ twin q) × (t ≡ twin p)). contrary (subst (Reach (graph f) p) k.0 there) (subst (λ (x : ℕ). Reach (graph f) x q) k.1 (reach_trans back d.4)))
        (reads_both a b p q s t r e)

    behind : (s t : ℕ) → Reach (graph f) m s → Reach (graph f) t q → Reads a b s t → ⊥
    behind s t there back e =
        ⊎_elim
        (λ (k : (s ≡ p) × (t ≡ q)). R.acyclic m p d.1 (subst (Reach (graph f) m) k.0 there) d.3)
        (λ (k : (s ≡ twin q) × (t ≡ twin p)). contrary (subst (Reach (graph f) p) k.0 (reach_trans d.3 there)) (subst (λ (x : ℕ). Reach (graph f) x q) k.1 back))
        (reads_both a b p q s t r e)

    round_beside : ReachBeside (graph f) a b p q
    round_beside = beside_trans (no_edge_of a b p m before d.3) (no_edge_of a b m q behind d.4)

  -- of a pair in range, whether it stands in the formula or not
  pub chain_beside : ((l : ℕ) → Memᴰ l (a ∷ b ∷ []) → l < 2 * vars) → sweep_slots σ (a ∷ b ∷ []) ≡ dropped → ReachBeside (graph f) a b (twin a) b × ReachBeside (graph f) a b (twin b) a
  chain_beside below drops =
      let C : List ℕ = a ∷ b ∷ [] in
      let ways = dropped_round (subst (Kept (graph f) (standing C)) drops (sweep_kept f _ σ R.stamped C (range_within vars C below) once)) in
      (round_beside (twin a) b (inl (refl, refl)) ways.0, round_beside (twin b) a (inr (refl, refl)) ways.1)

-- ---- the other clauses

module _ (vars : ℕ) (f : List Clause) (σ : Stamps) (R : StampedFormula vars f σ) (i a b : ℕ) (at : get_or f i dropped ≡ standing (a ∷ b ∷ [])) where
  abbrev others : List Clause
  others = set f i dropped

  -- an edge that is none of the pair's is an edge of another clause
  other_edge : (s t : ℕ) → Memᴰ t (graph f s) → (Reads a b s t → ⊥) → Memᴰ t (graph others s)
  other_edge s t m none =
      let c = edge_pair f s t m in
      let n = mem_get_d f dropped c.2 in
      let own : n.0 ≡ i → Reads a b s t = λ e.
      subst (λ (C : List ℕ). Reads (get_or C 0 0) (get_or C 1 0) s t) (standing_eq (sym n.2 ∙ ap (λ (j : ℕ). get_or f j dropped) e ∙ at)) c.3 in
      reads_edge others c.0 c.1 s t (nth_mem others n.0 _ (get_or-set_other f i n.0 dropped dropped (λ e. none (own e)) ∙ n.2)) c.3

  over_others : {x y : ℕ} → ReachBeside (graph f) a b x y → Reach (graph others) x y
  over_others begin = here
  over_others (step {s = s} {t = t} r m none) = on (over_others r) (other_edge s t m none)

  pub others_imply : sweep_slots σ (a ∷ b ∷ []) ≡ dropped → (τ : Assignment) → Models τ others → Sat τ (a ∷ b ∷ [])
  others_imply drops τ M =
      let C : List ℕ = a ∷ b ∷ [] in
      let stands = nth_mem f i C at in
      let chain = (chain_beside vars f σ R a b (R.shaped.once C stands) (R.shaped.below C stands) drops).0 in
      ⊎_elim
      (λ t. (a, Memᴰ.head refl, t))
      (λ t. (b, Memᴰ.tail (Memᴰ.head refl), reach_true others τ M (over_others chain) t))
      (true_or τ a)
