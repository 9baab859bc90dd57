-- Lemma R, over any acyclic graph with a forest of stamps: where each edge either keeps a property or has a detour, each edge keeps it.
-- By induction on finish p - finish q, which is positive since the graph is acyclic; both halves of a detour have smaller differences. Assumes nothing.
use Prim.Native.Nat.{ℕ, zero, suc, ◌+◌, ◌≤◌, ◌<◌}
use native.Mathlib.Omega.{arith}
use mathlib.Core.Path.{◌≡◌, sym, ap}
use mathlib.Core.Logic.{◌⊎◌, ⊎_elim}
use mathlib.Core.List.{List, Memᴰ}
use Rattle.walk.specs.Walk.{Stamps}
use Rattle.walk.specs.Forest.{discovery_at, finish_at, Reach, here, on, Forest}
use Rattle.base.specs.Decide.{same_or}
use Rattle.walk.proofs.Theorems.{holds_reach, reach_down, reach_entered}
use Rattle.scc.specs.Forward.{Acyclic}
use Rattle.sound.specs.Kept.{Detour}

module _ (adj : ℕ → List ℕ) (σ : Stamps) (F : Forest adj σ) (acyclic : Acyclic adj) where
  -- along a path to another literal the finish falls
  falls : {a b : ℕ} → 0 < discovery_at σ a → (a ≡ b → ⊥) → Reach adj a b → finish_at σ b < finish_at σ a
  falls e d r = ⊎_elim (λ i. absurd (d i)) (λ h. h) (reach_down adj σ F (λ x y ex m o h. acyclic x y o (on here m) (holds_reach adj σ F (F.closed x y ex m) ex h)) e r)

  module _ (T : ℕ → Type 0) (known : (s t : ℕ) → 0 < discovery_at σ s → Memᴰ t (adj s) → (T s → T t) ⊎ Detour adj s t) where
    -- what is known of every edge whose finishes differ by at most n
    Upto : ℕ → Type 0
    Upto n = (s t : ℕ) → 0 < discovery_at σ s → Memᴰ t (adj s) → finish_at σ s ≤ finish_at σ t + n → T s → T t

    -- a path between literals whose finishes differ by no more has only such edges
    path_upto : (n : ℕ) → Upto n → {a b : ℕ} → 0 < discovery_at σ a → Reach adj a b → finish_at σ a ≤ finish_at σ b + n → T a → T b
    unfolding Upto
    path_upto n up e here le t = t
    path_upto n up {a} e (on {b = b} {c = c} r m) le t =
        let eb = reach_entered adj σ F e r in
        let last : finish_at σ c ≤ finish_at σ b = ⊎_elim (λ (i : b ≡ c). omega (arith, ap (finish_at σ) i)) (λ d. let h = falls eb d (on here m) in omega arith) (same_or b c) in
        let first : finish_at σ b ≤ finish_at σ a = ⊎_elim (λ (i : a ≡ b). omega (arith, ap (finish_at σ) i)) (λ d. let h = falls e d r in omega arith) (same_or a b) in
        up b c eb m (omega arith) (path_upto n up e r (omega arith) t)

    -- a detour's two halves have strictly smaller differences, so the case of no difference has none
    edge_upto : (n : ℕ) → Upto n
    unfolding Upto
    edge_upto zero s t e m le k =
        ⊎_elim
        (λ h. h k)
        (λ (d : Detour adj s t).
        let em = reach_entered adj σ F e d.3 in
        absurd (omega (arith, le, falls e (λ i. d.1 (sym i)) d.3, falls em d.2 d.4)))
        (known s t e m)
    edge_upto (suc n) s t e m le k =
        ⊎_elim
        (λ h. h k)
        (λ (d : Detour adj s t).
        let em = reach_entered adj σ F e d.3 in
        let one = falls e (λ i. d.1 (sym i)) d.3 in
        let two = falls em d.2 d.4 in
        path_upto n (edge_upto n) em d.4 (omega arith) (path_upto n (edge_upto n) e d.3 (omega arith) k))
        (known s t e m)

    -- R: no rule is lost
    pub rule : (s t : ℕ) → 0 < discovery_at σ s → Memᴰ t (adj s) → T s → T t
    unfolding Upto
    rule s t e m k = edge_upto (finish_at σ s) s t e m (omega arith) k
