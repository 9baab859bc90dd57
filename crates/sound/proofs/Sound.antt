-- Sweep keeps the satisfying assignments at every stopping point.
--     edges_hold, paths_hold   under the invariant `Since`, an assignment of what stands satisfies every edge and path of the graph that was stamped
--     models_same    under the invariant, the same assignments satisfy what stood at Stamp and what stands now
--     first_since    visits that keep each clause keep the invariant, wherever they stop
--     sweep_keeps    so a sweep that stopped after any number of visits has the same satisfying assignments
--     learnt_kept    the same of a clause that is not in the formula (change request 1)
--     first_sub, from_sub   every standing clause is a subsequence of what it was
--     resumed        a pass that is resumed makes the visits of one that was not interrupted
-- Assumes nothing.
use Prim.Native.Nat.{ℕ, zero, suc, ◌+◌, ◌*◌, ◌<◌}
use native.Mathlib.Nat.{zero-add, suc-add}
use native.Mathlib.Omega.{arith}
use mathlib.Core.Path.{◌≡◌, refl, sym, ap, subst, ◌∙◌}
use mathlib.Core.Bool.{Bool, true, false}
use mathlib.Core.Logic.{◌⊎◌, inl, inr, ⊎_elim, ◌↔◌}
use mathlib.Core.List.Memᴰ
use mathlib.Core.List.Sublistᴰ
use mathlib.Core.List.{List, [], ◌∷◌, map, Memᴰ, Sublistᴰ}
use lib.ListN.{length, get_or}
use Rattle.base.proofs.Lists.{sub_mem}
use Rattle.literal.specs.Literals.{twin}
use Rattle.literal.specs.Assignments.{Assignment}
use Rattle.literal.proofs.Twins.{twin_below}
use Rattle.walk.specs.Walk.{Stamps}
use Rattle.walk.specs.Forest.{Reach}
use Rattle.walk.proofs.Theorems.{Stamped, reach_implies}
use Rattle.implications.specs.Clauses.{Once}
use Rattle.scc.proofs.Kosaraju.{reach_trans}
use Rattle.hidden.specs.Hidden.{hidden_tautology, shorten}
use Rattle.hidden.proofs.Intervals.{Within}
use Rattle.hidden.proofs.Pairs.{Reads, by_reads}
use Rattle.hidden.proofs.Shorten.{shorten_sub}
use Rattle.sound.specs.Formula.{Clause, dropped, standing, literals_in, True, Sat, Models, graph}
use Rattle.sound.specs.Sweep.{sweep_slots, on_standing, sweep_visit, visit_first, visit_from, sweep_first}
use Rattle.scc.specs.Forward.{Acyclic}
use Rattle.sound.specs.Kept.{Detour, Kept, same, shorter, round, implied, Since, none, each, Shaped}
use Rattle.sound.proofs.Truth.{true_or, not_both}
use Rattle.sound.proofs.Graph.{standing_eq, not_standing, shaped_below, edge_pair}
use Rattle.scc.proofs.Forward.{edge_below}
use Rattle.sound.proofs.Rule.{rule}
use Rattle.sound.proofs.Visit.{sweep_kept}

-- ---- the invariant, clause by clause

pub since_at : {adj : ℕ → List ℕ} {f g : List Clause} {c : Clause} → Since adj f g → Memᴰ c f → (d : Clause) × Memᴰ d g × Kept adj c d
since_at none m = absurd (Memᴰ.not-nil m)
since_at {adj} {c = c} (each {c = x} {d = y} k s) m =
    ⊎_elim
    (λ (e : c ≡ x). (y, Memᴰ.head refl, subst (λ (z : Clause). Kept adj z y) (sym e) k))
    (λ t. let r = since_at s t in (r.0, Memᴰ.tail r.1, r.2))
    (Memᴰ.cases_cons m)

since_from : {adj : ℕ → List ℕ} {f g : List Clause} {d : Clause} → Since adj f g → Memᴰ d g → (c : Clause) × Memᴰ c f × Kept adj c d
since_from none m = absurd (Memᴰ.not-nil m)
since_from {adj} {d = d} (each {c = x} {d = y} k s) m =
    ⊎_elim
    (λ (e : d ≡ y). (x, Memᴰ.head refl, subst (λ (z : Clause). Kept adj x z) (sym e) k))
    (λ t. let r = since_from s t in (r.0, Memᴰ.tail r.1, r.2))
    (Memᴰ.cases_cons m)

-- visits that keep each clause keep the invariant, wherever they stop
pub first_since : (adj : ℕ → List ℕ) (v : Clause → Clause) (k : ℕ) (f : List Clause) → ((c : Clause) → Memᴰ c f → Kept adj c (v c)) → Since adj f (visit_first v k f)
unfolding visit_first
first_since adj v zero [] keeps = none
first_since adj v zero (c ∷ f) keeps = each same (first_since adj v zero f (λ x m. keeps x (Memᴰ.tail m)))
first_since adj v (suc k) [] keeps = none
first_since adj v (suc k) (c ∷ f) keeps = each (keeps c (Memᴰ.head refl)) (first_since adj v k f (λ x m. keeps x (Memᴰ.tail m)))

-- ---- clauses by number

pub nth_mem : (f : List Clause) (i : ℕ) (C : List ℕ) → get_or f i dropped ≡ standing C → Memᴰ (standing C) f
nth_mem [] i C e = absurd (not_standing e)
nth_mem (x ∷ f) zero C e = Memᴰ.head (sym e)
nth_mem (x ∷ f) (suc i) C e = Memᴰ.tail (nth_mem f i C e)

-- ---- truth

-- a true pair is its two implications
pair_true : (τ : Assignment) (a b s t : ℕ) → Sat τ (a ∷ b ∷ []) → Reads a b s t → True τ s → True τ t
pair_true τ a b s t h r k =
    let one_of : True τ a ⊎ True τ b = ⊎_elim
    (λ (e : h.0 ≡ a). inl (subst (True τ) e h.2))
    (λ m. ⊎_elim (λ (e : h.0 ≡ b). inr (subst (True τ) e h.2)) (λ n. absurd (Memᴰ.not-nil n)) (Memᴰ.cases_cons m))
    (Memᴰ.cases_cons h.1) in
    by_reads (λ x y. True τ x → True τ y) r
    (λ u. ⊎_elim (λ ta. absurd (not_both τ a ta u)) (λ tb. tb) one_of)
    (λ u. ⊎_elim (λ ta. ta) (λ tb. absurd (not_both τ b tb u)) one_of)
    k

-- what a pair has come to: it has a true literal, or both its edges have a way round
pair_now : {adj : ℕ → List ℕ} {a b : ℕ} {d : Clause} (τ : Assignment) → Kept adj (standing (a ∷ b ∷ [])) d → ((D : List ℕ) → d ≡ standing D → Sat τ D)
    → Sat τ (a ∷ b ∷ []) ⊎ (Detour adj (twin a) b × Detour adj (twin b) a)
pair_now τ same sat = inl (sat _ refl)
pair_now τ (shorter {D = D} s l) sat = let r = sat D refl in inl (r.0, sub_mem s r.1, r.2)
pair_now τ (round p q) sat = inr (p, q)
pair_now τ (implied long l m r) sat = absurd (omega (arith, long))

-- every path of the graph is an implication
abbrev Implied : (ℕ → List ℕ) → Assignment → Type 0
Implied adj τ = (a b : ℕ) → Reach adj a b → True τ a → True τ b

-- what stands now makes true what stood
kept_back : (adj : ℕ → List ℕ) (τ : Assignment) → Implied adj τ → {c d : Clause} → Kept adj c d → ((D : List ℕ) → d ≡ standing D → Sat τ D) → (C : List ℕ) → c ≡ standing C → Sat τ C
kept_back adj τ path same sat C e = sat C e
kept_back adj τ path (shorter {D = D} s l) sat C e = let r = sat D refl in subst (Sat τ) (standing_eq e) (r.0, sub_mem s r.1, r.2)
kept_back adj τ path (round {a = a} {b = b} p q) sat C e =
    subst (Sat τ) (standing_eq e)
    (⊎_elim
    (λ t. (a, Memᴰ.head refl, t))
    (λ t. (b, Memᴰ.tail (Memᴰ.head refl), path (twin a) b (reach_trans p.3 p.4) t))
    (true_or τ a))
kept_back adj τ path (implied {l = l} {m = m} long i j r) sat C e = subst (Sat τ) (standing_eq e) (⊎_elim (λ t. (l, i, t)) (λ t. (m, j, path (twin l) m r t)) (true_or τ l))

-- what stood makes true what stands now
kept_on : (adj : ℕ → List ℕ) (τ : Assignment) → Implied adj τ → {c d : Clause} → Kept adj c d → ((C : List ℕ) → c ≡ standing C → Sat τ C) → (D : List ℕ) → d ≡ standing D → Sat τ D
kept_on adj τ path same sat D e = sat D e
kept_on adj τ path (shorter {C = C} s l) sat D e =
    let r = sat C refl in
    let t = l r.0 r.1 in
    subst (Sat τ) (standing_eq e) (t.0, t.1, path r.0 t.0 t.2 r.2)
kept_on adj τ path (round p q) sat D e = absurd (not_standing e)
kept_on adj τ path (implied long i j r) sat D e = absurd (not_standing e)

-- in the formula itself each edge is a clause, so every path is an implication
pub reach_true : (f : List Clause) (τ : Assignment) → Models τ f → {a b : ℕ} → Reach (graph f) a b → True τ a → True τ b
reach_true f τ M r k = reach_implies (graph f) (True τ) (λ x y n. let p = edge_pair f x y n in pair_true τ p.0 p.1 x y (M _ p.2) p.3) r k

-- ---- the theorem

-- f is shaped, and σ are the stamps of its graph, which is acyclic
pub record StampedFormula (vars : ℕ) (f : List Clause) (σ : Stamps) : Type 0 where
  pub shaped : Shaped vars f
  pub stamped : Stamped (graph f) (2 * vars) σ
  pub sized : length σ.discoveries ≡ 2 * vars
  pub acyclic : Acyclic (graph f)

-- the edges of a shaped formula's graph lie among its literals
pub graph_below : (vars : ℕ) (f : List Clause) → Shaped vars f → (s t : ℕ) → Memᴰ t (graph f s) → (s < 2 * vars) × (t < 2 * vars)
unfolding graph
graph_below vars f shaped s t m = edge_below (map literals_in f) vars (shaped_below vars f shaped) s t m

-- literals in range, with their complements
pub range_within : (vars : ℕ) (C : List ℕ) → ((l : ℕ) → Memᴰ l C → l < 2 * vars) → Within (2 * vars) C
range_within vars C below l k = (below l k, twin_below vars l (below l k))

module _ (vars : ℕ) (f : List Clause) (σ : Stamps) (R : StampedFormula vars f σ) where
  module _ (g : List Clause) (S : Since (graph f) f g) (τ : Assignment) where
    stand : {d : Clause} → Models τ g → Memᴰ d g → (D : List ℕ) → d ≡ standing D → Sat τ D
    stand M m D e = M D (subst (λ (x : Clause). Memᴰ x g) e m)

    -- every edge of the stamped graph holds in what stands now
    pub edges_hold : Models τ g → (s t : ℕ) → Memᴰ t (graph f s) → True τ s → True τ t
    edges_hold M s t m =
        rule (graph f) σ R.stamped.forest R.acyclic (True τ)
        (λ x y e k.
        let p = edge_pair f x y k in
        let c = since_at S p.2 in
        ⊎_elim
        (λ h. inl (pair_true τ p.0 p.1 x y h p.3))
        (λ d. inr (by_reads (Detour (graph f)) p.3 d.0 d.1))
        (pair_now τ c.2 (stand M c.1)))
        s t (R.stamped.all s (graph_below vars f R.shaped s t m).0) m

    -- and so does every path
    pub paths_hold : Models τ g → (a b : ℕ) → Reach (graph f) a b → True τ a → True τ b
    paths_hold M a b r k = reach_implies (graph f) (True τ) (edges_hold M) r k

    -- the same assignments satisfy what stood then and what stands now
    pub models_same : Models τ g ↔ Models τ f
    models_same = (
      λ M C m. let r = since_at S m in kept_back (graph f) τ (paths_hold M) r.2 (stand M r.1) C refl,
      λ M D m.
          let r = since_from S m in
          kept_on (graph f) τ (λ a b p t. reach_true f τ M p t) r.2 (λ C e. M C (subst (λ (x : Clause). Memᴰ x f) e r.1)) D refl,
    )

    -- a clause outside the formula, kept in the same sense: dropped, it is true; shortened, it is true under the same assignments
    outside_kept : (C : List ℕ) (d : Clause) → Kept (graph f) (standing C) d → Models τ g → (d ≡ dropped → Sat τ C) × ((D : List ℕ) → d ≡ standing D → Sat τ C ↔ Sat τ D)
    outside_kept C d k M =
        let back : ((D : List ℕ) → d ≡ standing D → Sat τ D) → Sat τ C = λ sat. kept_back (graph f) τ (paths_hold M) k sat C refl in (
          λ e. back (λ D i. absurd (not_standing (sym e ∙ i))),
          λ D e. (
            λ c. kept_on (graph f) τ (paths_hold M) k (λ B i. subst (Sat τ) (standing_eq i) c) D e,
            λ x. back (λ B i. subst (Sat τ) (standing_eq (sym e ∙ i)) x),
          ),
        )

  keeps : (v : List ℕ → Clause) → ((C : List ℕ) → Within (2 * vars) C → Once C → Kept (graph f) (standing C) (v C)) → (c : Clause) → Memᴰ c f → Kept (graph f) c (on_standing v c)
  unfolding on_standing
  keeps v kept dropped m = same
  keeps v kept (standing C) m = kept C (range_within vars C (R.shaped.below C m)) (R.shaped.once C m)

  -- the invariant holds of any sweep that stopped after k visits
  pub sweep_since : (k : ℕ) → Since (graph f) f (sweep_first k σ f)
  sweep_since k = first_since (graph f) (sweep_visit σ) k f (keeps (sweep_slots σ) (sweep_kept f (2 * vars) σ R.stamped))

  -- a sweep that stopped after any number of visits has the same satisfying assignments
  pub sweep_keeps : (k : ℕ) (τ : Assignment) → Models τ (sweep_first k σ f) ↔ Models τ f
  sweep_keeps k τ = models_same (sweep_first k σ f) (sweep_since k) τ

  -- change request 1: a clause that is not in the formula, judged by Sweep's rules under the same stamps, at any time of the sweep
  pub learnt_kept : (k : ℕ) (τ : Assignment) → Models τ (sweep_first k σ f) → (C : List ℕ) → ((l : ℕ) → Memᴰ l C → l < 2 * vars) → Once C
      → (sweep_slots σ C ≡ dropped → Sat τ C) × ((D : List ℕ) → sweep_slots σ C ≡ standing D → Sat τ C ↔ Sat τ D)
  learnt_kept k τ M C below once = outside_kept (sweep_first k σ f) (sweep_since k) τ C (sweep_slots σ C) (sweep_kept f (2 * vars) σ R.stamped C (range_within vars C below) once) M

-- ---- subsequences, under any stamps

sweep_sub : (σ : Stamps) (C D : List ℕ) → sweep_slots σ C ≡ standing D → Sublistᴰ D C
unfolding sweep_slots
sweep_sub σ [] D e = subst (λ (x : List ℕ). Sublistᴰ x []) (standing_eq e) (Sublistᴰ.refl [])
sweep_sub σ (a ∷ []) D e = subst (λ (x : List ℕ). Sublistᴰ x (a ∷ [])) (standing_eq e) (Sublistᴰ.refl (a ∷ []))
sweep_sub σ (a ∷ b ∷ ls) D e = go (hidden_tautology σ (a ∷ b ∷ ls)) e
  where
    go : (v : Bool) → ◌≡◌ {A = Clause} (elim v [ true ↦ dropped | false ↦ standing (shorten (λ s. s) σ (a ∷ b ∷ ls)) ]) (standing D) → Sublistᴰ D (a ∷ b ∷ ls)
    go true k = absurd (not_standing k)
    go false k = subst (λ (x : List ℕ). Sublistᴰ x (a ∷ b ∷ ls)) (standing_eq k) (shorten_sub (λ s. s) σ (a ∷ b ∷ ls))

-- every standing clause is a subsequence of what it was
pub first_sub : (σ : Stamps) (k : ℕ) (f : List Clause) (i : ℕ) (D : List ℕ) → get_or (sweep_first k σ f) i dropped ≡ standing D
    → (C : List ℕ) × (get_or f i dropped ≡ standing C) × Sublistᴰ D C
unfolding visit_first on_standing
first_sub σ zero f i D e = (D, e, Sublistᴰ.refl D)
first_sub σ (suc k) [] i D e = (D, e, Sublistᴰ.refl D)
first_sub σ (suc k) (dropped ∷ f) zero D e = absurd (not_standing e)
first_sub σ (suc k) (standing C ∷ f) zero D e = (C, refl, sweep_sub σ C D e)
first_sub σ (suc k) (dropped ∷ f) (suc i) D e = first_sub σ k f i D e
first_sub σ (suc k) (standing C ∷ f) (suc i) D e = first_sub σ k f i D e

pub from_sub : (σ : Stamps) (c n : ℕ) (f : List Clause) (i : ℕ) (D : List ℕ) → get_or (visit_from (sweep_visit σ) c n f) i dropped ≡ standing D
    → (C : List ℕ) × (get_or f i dropped ≡ standing C) × Sublistᴰ D C
unfolding visit_from
from_sub σ zero n f i D e = first_sub σ n f i D e
from_sub σ (suc c) n [] i D e = (D, e, Sublistᴰ.refl D)
from_sub σ (suc c) n (x ∷ f) zero D e = (D, e, Sublistᴰ.refl D)
from_sub σ (suc c) n (x ∷ f) (suc i) D e = from_sub σ c n f i D e

-- ---- a pass that is resumed

-- visits are counted from the start: c visits, then n more from clause c on, are c + n visits
pub resumed : (v : Clause → Clause) (c n : ℕ) (f : List Clause) → visit_from v c n (visit_first v c f) ≡ visit_first v (c + n) f
unfolding visit_from visit_first
resumed v zero n f = ap (λ (k : ℕ). visit_first v k f) (sym (zero-add n))
resumed v (suc c) n [] = rw suc-add
resumed v (suc c) n (x ∷ f) = rw suc-add (ap (λ (g : List Clause). v x ∷ g) (resumed v c n f))
