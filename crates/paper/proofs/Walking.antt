-- The walk that Stamp's definition makes is figure 1's, and figure 1 makes no other. Assumes nothing.
use Prim.Native.Nat.{ℕ, zero, suc, ◌+◌, ◌*◌, ◌≤◌, ◌<◌}
use native.Mathlib.Nat.{le_trans}
use native.Mathlib.Omega.{arith}
use mathlib.Core.Path.{◌≡◌, refl, sym, ap, ◌∙◌}
use mathlib.Core.Bool.{Bool}
use mathlib.Core.Logic.{⊎_elim}
use mathlib.Core.List.{List, [], ◌∷◌, Memᴰ}
use lib.ListN.{length, replicate, length-replicate, length-set}
use Rattle.base.specs.Decide.{zero_or}
use Rattle.base.specs.Lists.{absent, filter}
use Rattle.base.proofs.Lists.{mem_filter}
use Rattle.walk.specs.Walk.{Stamps, arrive, leave, edge, edges, enters, start_walk, fresh, stamp_all, Lists}
use Rattle.walk.specs.Forest.{discovery_at}
use Rattle.walk.proofs.Run.{Less, less_refl, edge_new, edge_old, edge_cases, edges_less, enters_less, fresh_set}
use Rattle.walk.proofs.Drive.{fresh_le}
use Rattle.walk.proofs.Depth.{figure_1}
use Rattle.implications.specs.Clauses.{tos, implications}
use Rattle.scc.specs.Groups.{blank}
use Rattle.scc.proofs.Forward.{edge_below}
use Rattle.stamp.specs.Stamp.{stamps_of}
use Rattle.paper.specs.Figure1.{Figure1, starts_by, Walked}

-- ---- figure 1 has one result

module _ (adj : ℕ → List ℕ) (size : ℕ) (inside : (s q : ℕ) → s < size → Memᴰ q (adj s) → q < size) where
  -- two visits that agree where k slots at most are fresh, the second of which walks
  Agreed : ℕ → (ℕ → Stamps → Stamps) → (ℕ → Stamps → Stamps) → Type 0
  Agreed k f g = (q : ℕ) (σ : Stamps) → length σ.discoveries ≡ size → fresh σ.discoveries ≤ k → q < size → discovery_at σ q ≡ 0 → (f q σ ≡ g q σ) × Less σ (g q σ)

  agreed_edges : (k : ℕ) (f g : ℕ → Stamps → Stamps) → Agreed k f g → (qs : List ℕ) → ((q : ℕ) → Memᴰ q qs → q < size) → (σ : Stamps) → length σ.discoveries ≡ size → fresh σ.discoveries ≤ k → edges f qs σ ≡ edges g qs σ
  unfolding edges Agreed
  agreed_edges k f g same [] all σ len few = refl
  agreed_edges k f g same (q ∷ qs) all σ len few =
      let lt = all q (Memᴰ.head refl) in
      let one : edge f q σ ≡ edge g q σ = ⊎_elim
      (λ (e : discovery_at σ q ≡ 0). edge_new f q σ e ∙ (same q σ len few lt e).0 ∙ sym (edge_new g q σ e))
      (λ (o : 0 < discovery_at σ q). edge_old f q σ (λ e. omega arith) ∙ sym (edge_old g q σ (λ e. omega arith)))
      (zero_or (discovery_at σ q)) in
      let less : Less σ (edge g q σ) = edge_cases (Less σ) g q σ (λ e. (same q σ len few lt e).1) (less_refl σ) in
      ap (edges f qs) one ∙ agreed_edges k f g same qs (λ c m. all c (Memᴰ.tail m)) (edge g q σ) (less.discs ∙ len) (le_trans less.fewer few)

  module _ (stamp : ℕ → ℕ → ℕ → Stamps → Stamps) (figure : Figure1 adj size stamp) where
    enters_only : (n r p s : ℕ) (σ : Stamps) → length σ.discoveries ≡ size → s < size → discovery_at σ s ≡ 0 → fresh σ.discoveries ≤ n → stamp r p s σ ≡ enters n adj r p s σ
    unfolding enters arrive Agreed
    enters_only zero r p s σ len lt e few = absurd (omega (arith, fresh_set σ.discoveries s σ.time (omega (arith, len)) e))
    enters_only (suc n) r p s σ len lt e few =
        figure r p s σ len lt e
        ∙ ap (leave s)
        (agreed_edges n (stamp r s) (λ q. enters n adj r s q) (λ q τ l k b f. (enters_only n r s q τ l b f k, enters_less adj size inside n r s q τ l b f)) (adj s) (λ q m. inside s q lt m) (arrive r p s σ)
        (length-set σ.discoveries s (σ.time + 1) ∙ len) (omega (arith, fresh_set σ.discoveries s σ.time (omega (arith, len)) e)))

    starts_only : (qs : List ℕ) → ((q : ℕ) → Memᴰ q qs → q < size) → (σ : Stamps) → length σ.discoveries ≡ size → edges (λ s. stamp s s s) qs σ ≡ edges (λ s. enters size adj s s s) qs σ
    unfolding Agreed
    starts_only qs all σ len =
        agreed_edges size (λ s. stamp s s s) (λ s. enters size adj s s s) (λ q τ l k b f. (enters_only size q q q τ l b f k, enters_less adj size inside size q q q τ l b f)) qs all σ len (omega (arith, fresh_le σ.discoveries, len))

    pub walk_only : (root : ℕ → Bool) (order : List ℕ) → ((q : ℕ) → Memᴰ q order → q < size) → starts_by stamp root size order ≡ starts_by (enters size adj) root size order
    walk_only root order all =
        let none : Stamps = blank size (replicate size 0) (replicate size 0) (replicate size 0) in
        let roots : (q : ℕ) → Memᴰ q (filter root order) → q < size = λ q m. all q (mem_filter root order m) in
        let len : length {A = ℕ} (replicate size 0) ≡ size = length-replicate size 0 in
        let less = edges_less adj size inside (λ s. enters size adj s s s) (λ q σ. enters_less adj size inside size q q q σ) (filter root order) roots none len in
        ap (edges (λ s. stamp s s s) order) (starts_only (filter root order) roots none len)
        ∙ starts_only order all (edges (λ s. enters size adj s s s) (filter root order) none) (less.discs ∙ len)

-- ---- Stamp's walk

pub stamps_walked : (cs : List (List ℕ)) (v : ℕ) → ((c : List ℕ) → Memᴰ c cs → (q : ℕ) → Memᴰ q c → q < 2 * v) → (order : List ℕ) → Lists (2 * v) order
    → Walked (implications cs) (λ q. absent q (tos cs)) (2 * v) order (stamps_of cs (2 * v) order)
unfolding stamps_of stamp_all start_walk
stamps_walked cs v below order o = record {
  stamp = enters size adj;
  figure_1 = λ r p s σ len lt e. figure_1 adj size inside size r p s σ len lt e (omega (arith, fresh_le σ.discoveries, len));
  gives = λ any figure. walk_only adj size inside any figure root order o.below ∙ sym (ap (λ (n : ℕ). starts_by (enters n adj) root size order) (length-replicate {A = ℕ} size 0));
}
  where
    size : ℕ
    size = 2 * v

    adj : ℕ → List ℕ
    adj = implications cs

    root : ℕ → Bool
    root q = absent q (tos cs)

    inside : (s q : ℕ) → s < size → Memᴰ q (adj s) → q < size
    inside s q lt m = (edge_below cs v below s q m).1
