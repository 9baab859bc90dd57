-- What Merge needs of the representatives: equal exactly within a group, and the complement's is the complement, unless a slot and its twin share a group.
-- Assumes nothing.
use Prim.Native.Nat.{ℕ, ◌/◌, ◌%◌, ◌≤◌, ◌<◌}
use native.Mathlib.Omega.{arith}
use mathlib.Core.Path.{◌≡◌, sym, subst, ◌∙◌}
use mathlib.Core.Logic.{⊎_elim}
use mathlib.Core.List.{List}
use mathlib.Core.Bool.{Bool, true}
use Rattle.base.specs.Decide.{same_or}
use Rattle.base.proofs.Booleans.{both_ways, not_itself}
use Rattle.walk.specs.Forest.{Reach}
use Rattle.implications.specs.Skew.{Skew}
use Rattle.literal.specs.Literals.{twin}
use Rattle.walk.proofs.Theorems.{reach_implies, reach_below}
use Rattle.implications.specs.Clauses.{implications}
use Rattle.literal.proofs.Twins.{twin_even, twin_odd}
use Rattle.implications.proofs.Implications.{Satisfies, edge_true}
use Rattle.scc.specs.Groups.{least_mutual}
use Rattle.scc.proofs.Kosaraju.{reach_trans, mirror}
use Rattle.scc.proofs.Least.{least_mutual_lem, representative_is}

-- of two literals of different variables the smaller slot has the smaller variable, so twins keep the order
twin_order : (r b : ℕ) → r ≤ twin b → (b ≡ r → ⊥) → twin r ≤ b
twin_order r b le d =
    ⊎_elim
    (λ (e : r % 2 ≡ 0).
    ⊎_elim
    (λ (f : b % 2 ≡ 0). omega (arith, le, d, e, f, twin_even r e, twin_even b f))
    (λ (f : b % 2 ≡ 0 → ⊥). omega (arith, le, d, e, f, twin_even r e, twin_odd b f))
    (same_or (b % 2) 0))
    (λ (e : r % 2 ≡ 0 → ⊥).
    ⊎_elim
    (λ (f : b % 2 ≡ 0). omega (arith, le, twin_odd r e, twin_even b f))
    (λ (f : b % 2 ≡ 0 → ⊥). omega (arith, le, twin_odd r e, twin_odd b f))
    (same_or (b % 2) 0))
    (same_or (r % 2) 0)

module _ (adj : ℕ → List ℕ) (size : ℕ) (K : Skew adj twin size) where
  abbrev rep : ℕ → ℕ
  rep = least_mutual adj size

  -- two slots have the same representative exactly if they reach each other
  pub same_rep : (a b : ℕ) → a < size → b < size → (rep a ≡ rep b → (Reach adj a b) × (Reach adj b a)) × (Reach adj a b → Reach adj b a → rep a ≡ rep b)
  same_rep a b la lb =
      let A = least_mutual_lem adj size K.inside a la in
      let B = least_mutual_lem adj size K.inside b lb in (
        λ e. (
          reach_trans (subst (Reach adj a) e A.there) B.back,
          reach_trans (subst (Reach adj b) (sym e) B.there) A.back,
        ),
        λ there back. representative_is adj size K.inside b (rep a) lb (record {
          below = A.below;
          there = reach_trans back A.there;
          back = reach_trans A.back there;
          least = λ x xthere xback. A.least x (reach_trans there xthere) (reach_trans xback back);
        }),
      )

  -- without a clash, the representative of the complement is the complement of the representative: the sign is right
  pub twin_rep : (s : ℕ) → s < size → (Reach adj s (twin s) → Reach adj (twin s) s → ⊥) → rep (twin s) ≡ twin (rep s)
  twin_rep s lt apart =
      let S = least_mutual_lem adj size K.inside s lt in
      let r : ℕ = rep s in
      let tl : twin s < size = K.below s lt in
      let back-again : (x : ℕ) → Reach adj x (twin (twin s)) → Reach adj x s = λ x k. subst (Reach adj x) (K.twice s lt) k in
      sym (representative_is adj size K.inside (twin s) (twin r) tl (record {
        below = K.below r S.below;
        there = mirror adj twin size K S.below S.back;
        back = mirror adj twin size K lt S.there;
        least = λ b there back.
            let bl : b < size = reach_below adj size K.inside tl there in
            let to-s : Reach adj (twin b) s = back-again (twin b) (mirror adj twin size K tl there) in
            let from-s : Reach adj s (twin b) = subst (λ (x : ℕ). Reach adj x (twin b)) (K.twice s lt) (mirror adj twin size K bl back) in
            twin_order r b (S.least (twin b) from-s to-s)
            (λ e. apart (reach_trans S.there (subst (λ (x : ℕ). Reach adj x (twin s)) e back)) (reach_trans (subst (Reach adj (twin s)) e there) S.back));
      }))

  -- the representative's variable is the smallest of the group
  pub rep_variable : (s b : ℕ) → s < size → Reach adj s b → Reach adj b s → rep s / 2 ≤ b / 2
  rep_variable s b lt there back = omega (arith, (least_mutual_lem adj size K.inside s lt).least b there back)

-- ---- truth: what reaches each other is equal under every assignment that satisfies the clauses

module _ (cs : List (List ℕ)) (val : ℕ → Bool) (S : Satisfies val cs) where
  pub reach_true : {a b : ℕ} → Reach (implications cs) a b → val a ≡ true → val b ≡ true
  reach_true r t = reach_implies (implications cs) (λ s. val s ≡ true) (λ s c m k. edge_true val cs S s c m k) r t

  pub equal_truth : {a b : ℕ} → Reach (implications cs) a b → Reach (implications cs) b a → val a ≡ val b
  equal_truth {a} {b} there back = both_ways (val a) (val b) (reach_true there) (reach_true back)

  -- so a clash leaves no assignment
  pub clash_unsatisfiable : (s : ℕ) → Reach (implications cs) s (twin s) → Reach (implications cs) (twin s) s → ⊥
  clash_unsatisfiable s there back = not_itself (val s) (equal_truth there back ∙ S.opposite s)
