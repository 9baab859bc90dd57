-- Change request 13: reach is kept. Lemma R once more, with "p reaches it over the pairs that now stand" for the property. And where a pair was shortened, the literal that is left is reached from its complement (`pair_fails`). Assumes nothing.
use Prim.Native.Nat.{ℕ, zero, suc, ◌<◌}
use native.Mathlib.Omega.{arith}
use mathlib.Core.Path.{◌≡◌, refl, sym, ap, subst, subst₂, ◌∙◌}
use mathlib.Core.Logic.{◌⊎◌, inl, inr, ⊎_elim, ◌↔◌}
use mathlib.Core.List.Memᴰ
use mathlib.Core.List.{List, [], ◌∷◌, Memᴰ}
use lib.ListN.{length, get_or}
use Rattle.base.proofs.Lists.{mem_get_d, sub_mem}
use Rattle.literal.specs.Literals.{twin}
use Rattle.walk.specs.Walk.{Stamps}
use Rattle.walk.specs.Forest.{Reach, here, on}
use Rattle.walk.proofs.Theorems.{reach_implies}
use Rattle.scc.proofs.Kosaraju.{reach_trans}
use Rattle.hidden.proofs.Pairs.{by_reads}
use Rattle.sound.specs.Formula.{Clause, dropped, standing, graph}
use Rattle.sound.specs.Sweep.{sweep_first}
use Rattle.sound.specs.Kept.{Detour, Kept, same, shorter, round, implied, Since, none, each}
use Rattle.sound.proofs.Graph.{standing_eq, not_standing, edge_pair, reads_edge}
use Rattle.sound.proofs.Rule.{rule}
use Rattle.sound.proofs.Chains.{dropped_round}
use Rattle.sound.proofs.Sound.{StampedFormula, graph_below, sweep_since, nth_mem}

-- ---- clauses by number

since_nth : {adj : ℕ → List ℕ} {f g : List Clause} → Since adj f g → (i : ℕ) → Kept adj (get_or f i dropped) (get_or g i dropped)
since_nth none i = same
since_nth (each k s) zero = k
since_nth (each k s) (suc i) = since_nth s i

-- no two-literal clause was shortened: each stands as it was, or is dropped
abbrev pub PairsWhole : List Clause → List Clause → Type 0
PairsWhole f g = (i a b : ℕ) → get_or f i dropped ≡ standing (a ∷ b ∷ []) → (get_or g i dropped ≡ standing (a ∷ b ∷ [])) ⊎ (get_or g i dropped ≡ dropped)

-- no clause was shortened
abbrev pub Whole : List Clause → List Clause → Type 0
Whole f g = (i : ℕ) → (get_or g i dropped ≡ get_or f i dropped) ⊎ (get_or g i dropped ≡ dropped)

module _ (vars : ℕ) (f : List Clause) (σ : Stamps) (R : StampedFormula vars f σ) (g : List Clause) (S : Since (graph f) f g) where
  reach_kept : PairsWhole f g → {p q : ℕ} → Reach (graph f) p q → Reach (graph g) p q
  reach_kept whole {p} {q} r =
      reach_implies (graph f) (Reach (graph g) p) (λ x y k. rule (graph f) σ R.stamped.forest R.acyclic (Reach (graph g) p) (λ s t es m.
      let c = edge_pair f s t m in
      let n = mem_get_d f dropped c.2 in
      ⊎_elim
      (λ k. inl (λ h. on h (reads_edge g c.0 c.1 s t (nth_mem g n.0 _ k) c.3)))
      (λ k.
      let d = dropped_round (subst₂ (Kept (graph f)) n.2 k (since_nth S n.0)) in
      inr (by_reads (Detour (graph f)) c.3 d.0 d.1))
      (whole n.0 c.0 c.1 n.2))
      x y (R.stamped.all x (graph_below vars f R.shaped x y k).0) k) r here

  -- with no clause shortened at all, the reach is the same
  reach_same : Whole f g → {p q : ℕ} → Reach (graph g) p q → Reach (graph f) p q
  reach_same whole here = here
  reach_same whole (on {b = s} {c = t} r m) =
      let c = edge_pair g s t m in
      let n = mem_get_d g dropped c.2 in
      on (reach_same whole r) (reads_edge f c.0 c.1 s t
      (nth_mem f n.0 _ (⊎_elim (λ k. sym k ∙ n.2) (λ k. absurd (not_standing (sym k ∙ n.2))) (whole n.0))) c.3)

-- whole clauses are whole pairs
whole_pairs : (f g : List Clause) → Whole f g → PairsWhole f g
whole_pairs f g w i a b e = ⊎_elim (λ k. inl (k ∙ e)) (λ k. inr k) (w i)

-- CR 13, of a sweep that stopped after any number of visits
module _ (vars : ℕ) (f : List Clause) (σ : Stamps) (R : StampedFormula vars f σ) (k : ℕ) where
  pub sweep_reach : PairsWhole f (sweep_first k σ f) → (p q : ℕ) → Reach (graph f) p q → Reach (graph (sweep_first k σ f)) p q
  sweep_reach w p q r = reach_kept vars f σ R (sweep_first k σ f) (sweep_since vars f σ R k) w r

  pub sweep_reach_same : Whole f (sweep_first k σ f) → (p q : ℕ) → Reach (graph f) p q ↔ Reach (graph (sweep_first k σ f)) p q
  sweep_reach_same w p q = (
    sweep_reach (whole_pairs f (sweep_first k σ f) w) p q,
    λ r. reach_same vars f σ R (sweep_first k σ f) (sweep_since vars f σ R k) w r,
  )

-- ---- a pair that was shortened

-- of a pair that has lost a literal one is left, and both lead to it
one_left : {adj : ℕ → List ℕ} {a b : ℕ} {c d : Clause} → Kept adj c d → c ≡ standing (a ∷ b ∷ []) → (D : List ℕ) → d ≡ standing D → length D < 2
    → (x : ℕ) × (D ≡ x ∷ []) × Memᴰ x (a ∷ b ∷ []) × ((l : ℕ) → Memᴰ l (a ∷ b ∷ []) → Reach adj l x)
one_left same e D k few = absurd (omega (arith, few, ap length (standing_eq (sym e ∙ k))))
one_left {adj} {a} {b} (shorter {C = C} {D = E} sub leads) e D k few = by D (standing_eq k) few
  where
    lead : (l : ℕ) → Memᴰ l (a ∷ b ∷ []) → (m : ℕ) × Memᴰ m E × Reach adj l m
    lead l m = leads l (subst (Memᴰ l) (sym (standing_eq e)) m)

    by : (F : List ℕ) → E ≡ F → length F < 2 → (x : ℕ) × (F ≡ x ∷ []) × Memᴰ x (a ∷ b ∷ []) × ((l : ℕ) → Memᴰ l (a ∷ b ∷ []) → Reach adj l x)
    by [] q few = let r = lead a (Memᴰ.head refl) in absurd (Memᴰ.not-nil (subst (Memᴰ r.0) q r.1))
    by (x ∷ []) q few = (
      x,
      refl,
      subst (Memᴰ x) (standing_eq e) (sub_mem sub (subst (Memᴰ x) (sym q) (Memᴰ.head refl))),
      λ l m.
          let r = lead l m in
          subst (Reach adj l) (⊎_elim (λ (o : r.0 ≡ x). o) (λ n. absurd (Memᴰ.not-nil n)) (Memᴰ.cases_cons (subst (Memᴰ r.0) q r.1))) r.2,
    )
    by (x ∷ y ∷ F) q few = absurd (omega (arith, few))
one_left (round p q) e D k few = absurd (not_standing k)
one_left (implied long l m r) e D k few = absurd (not_standing k)

-- it is reached from its complement, over the pair's own edge
pub pair_fails : (f g : List Clause) → Since (graph f) f g → (i a b : ℕ) → get_or f i dropped ≡ standing (a ∷ b ∷ []) → (D : List ℕ) → get_or g i dropped ≡ standing D → length D < 2 → (x : ℕ) × (D ≡ x ∷ []) × Reach (graph f) (twin x) x
pair_fails f g S i a b e D k few =
    let r = one_left (since_nth S i) e D k few in
    let m = nth_mem f i (a ∷ b ∷ []) e in (
      r.0,
      r.1,
      ⊎_elim
          (λ (o : r.0 ≡ a). reach_trans (on here (subst (λ (s : ℕ). Memᴰ b (graph f (twin s))) (sym o) (reads_edge f a b (twin a) b m (inl (refl, refl))))) (r.3 b (Memᴰ.tail (Memᴰ.head refl))))
          (λ n. ⊎_elim
          (λ (o : r.0 ≡ b). reach_trans (on here (subst (λ (s : ℕ). Memᴰ a (graph f (twin s))) (sym o) (reads_edge f a b (twin b) a m (inr (refl, refl))))) (r.3 a (Memᴰ.head refl)))
          (λ z. absurd (Memᴰ.not-nil z))
          (Memᴰ.cases_cons n))
          (Memᴰ.cases_cons r.2),
    )
