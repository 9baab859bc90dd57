-- The bound on the depth says nothing: any number that is at least that of the fresh slots gives the same, so the walk satisfies figure 1's own equation.
-- Assumes nothing.
use Prim.Native.Nat.{ℕ, zero, suc, ◌+◌, ◌≤◌, ◌<◌}
use native.Mathlib.Nat.{le_refl, le_trans}
use native.Mathlib.Omega.{arith}
use mathlib.Core.Path.{◌≡◌, refl, sym, ap, ◌∙◌}
use mathlib.Core.Logic.{⊎_elim}
use mathlib.Core.List.{List, [], ◌∷◌, Memᴰ}
use lib.ListN.{length, get_or, length-set}
use Rattle.base.specs.Decide.{zero_or}
use Rattle.walk.specs.Walk.{Stamps, arrive, leave, edge, edges, enters, fresh}
use Rattle.walk.proofs.Run.{Less, less_refl, edge_new, edge_old, edge_cases, enters_less, fresh_set}

edge_same : (f g : ℕ → Stamps → Stamps) (q : ℕ) (σ : Stamps) → (get_or σ.discoveries q 0 ≡ 0 → f q σ ≡ g q σ) → edge f q σ ≡ edge g q σ
edge_same f g q σ same =
    ⊎_elim
    (λ (e : get_or σ.discoveries q 0 ≡ 0). edge_new f q σ e ∙ same e ∙ sym (edge_new g q σ e))
    (λ (lt : 0 < get_or σ.discoveries q 0). edge_old f q σ (λ e. omega (arith, e, lt)) ∙ sym (edge_old g q σ (λ e. omega (arith, e, lt))))
    (zero_or (get_or σ.discoveries q 0))

module _ (adj : ℕ → List ℕ) (size : ℕ) (inside : (s q : ℕ) → s < size → Memᴰ q (adj s) → q < size) where
  edges_same : (k : ℕ) (f g : ℕ → Stamps → Stamps)
      → ((q : ℕ) (σ : Stamps) → length σ.discoveries ≡ size → fresh σ.discoveries ≤ k → q < size → get_or σ.discoveries q 0 ≡ 0 → (f q σ ≡ g q σ) × (Less σ (f q σ)))
      → (qs : List ℕ) → ((q : ℕ) → Memᴰ q qs → q < size) → (σ : Stamps) → length σ.discoveries ≡ size → fresh σ.discoveries ≤ k → edges f qs σ ≡ edges g qs σ
  unfolding edges
  edges_same k f g one [] all σ len few = refl
  edges_same k f g one (q ∷ qs) all σ len few =
      let lt = all q (Memᴰ.head refl) in
      let first : Less σ (edge f q σ) = edge_cases (Less σ) f q σ (λ e. (one q σ len few lt e).1) (less_refl σ) in
      edges_same k f g one qs (λ c m. all c (Memᴰ.tail m)) (edge f q σ) (first.discs ∙ len) (le_trans first.fewer few)
      ∙ ap (edges g qs) (edge_same f g q σ (λ e. (one q σ len few lt e).0))

  pub enters_same : (n m r p s : ℕ) (σ : Stamps) → length σ.discoveries ≡ size → s < size → get_or σ.discoveries s 0 ≡ 0 → fresh σ.discoveries ≤ n → fresh σ.discoveries ≤ m
      → enters n adj r p s σ ≡ enters m adj r p s σ
  unfolding enters arrive
  enters_same zero m r p s σ len lt e a b = absurd (omega (arith, fresh_set σ.discoveries s σ.time (omega (arith, len)) e))
  enters_same (suc n) zero r p s σ len lt e a b = absurd (omega (arith, fresh_set σ.discoveries s σ.time (omega (arith, len)) e))
  enters_same (suc n) (suc m) r p s σ len lt e a b =
      let α : Stamps = arrive r p s σ in
      let one = fresh_set σ.discoveries s σ.time (omega (arith, len)) e in
      ap (leave s)
      (edges_same (fresh α.discoveries) (λ q. enters n adj r s q) (λ q. enters m adj r s q)
      (λ q τ l few k f. (enters_same n m r s q τ l k f (omega (arith, one)) (omega (arith, one)), enters_less adj size inside n r s q τ l k f))
      (adj s) (λ q k. inside s q lt k) α (length-set σ.discoveries s (σ.time + 1) ∙ len) (le_refl _))

  -- figure 1: Stamp(s) is to discover s, to walk its edges by Stamp itself, and to finish s
  pub figure_1 : (n r p s : ℕ) (σ : Stamps) → length σ.discoveries ≡ size → s < size → get_or σ.discoveries s 0 ≡ 0 → fresh σ.discoveries ≤ n
      → enters n adj r p s σ ≡ leave s (edges (λ q. enters n adj r s q) (adj s) (arrive r p s σ))
  unfolding enters
  figure_1 n r p s σ len lt e few = enters_same n (suc n) r p s σ len lt e few (omega arith)
