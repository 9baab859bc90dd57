-- A Merge that finds only groups of one changes nothing: each literal is its own representative, so the classes stay, and each clause holds its class literals already. Assumes nothing.
use Prim.Native.Nat.{ℕ, zero, suc, ◌+◌, ◌*◌, ◌%◌, ◌≤◌, ◌<◌}
use native.Mathlib.Omega.{arith}
use mathlib.Core.Path.{◌≡◌, refl, sym, ap, subst, ◌∙◌}
use mathlib.Core.Bool.{Bool, true, false}
use mathlib.Core.Logic.{⊎_elim}
use mathlib.Core.List.{List, [], ◌∷◌}
use lib.ListN.{get_or}
use lib.IntN.{ℤ, pos}
use borrow.Author.Tests.{lt-ltb}
use Rattle.base.specs.Decide.{same_or}
use Rattle.literal.specs.Literals.{Literal, slot_of, lit_at, twin}
use Rattle.literal.proofs.Laws.{lit_slot, slot_below}
use Rattle.literal.proofs.Twins.{twin_even, twin_odd}
use Rattle.scc.specs.Groups.{cyclic, least_mutual}
use Rattle.scc.specs.Forward.{Acyclic}
use Rattle.scc.proofs.Forward.{cyclic_none}
use Rattle.state.specs.declared.State.{State}
use Rattle.tables.specs.Tables.{Tables}
use Rattle.tables.specs.Clauses.{literals_of, slots_from}
use Rattle.tables.specs.Fates.{Fate, store, visit, visits}
use Rattle.visits.specs.Formed.{FitClause}
use Rattle.visits.proofs.Placing.{shortened_same}
use Rattle.visits.proofs.Forming.{part_inside, clause_fits}
use Rattle.visits.proofs.StoreKeeps.{FormedTo, formed_cases}
use Rattle.table_graph.proofs.Listing.{formed_listed, slots_in}
use Rattle.merge.specs.Merge.{edges_of, clashes, representative, regrouped, merged_classes}
use Rattle.merge_visits.specs.Clause.{merge_clause}
use Rattle.merge.proofs.Regrouped.{class_at_lem, regrouped_as}
use Rattle.merge.proofs.Opening.{clashes_some}
use Rattle.merge.proofs.Merged.{edges_skew, edges_least}
use Rattle.settle.specs.Settle.{merged, grouped}
use Rattle.settle.specs.Steps.{standing_in}
use Rattle.settle.proofs.Plain.{plain_stays}
use Rattle.settle.proofs.Merging.{ended, merged_visits}

twin_other : (s : ℕ) → s ≡ twin s → ⊥
twin_other s e =
    ⊎_elim
    (λ (z : s % 2 ≡ 0). omega (arith, e, twin_even s z))
    (λ (d : s % 2 ≡ 0 → ⊥). omega (arith, e, d, twin_odd s d))
    (same_or (s % 2) 0)

regrouped_none : (m : ℕ) (rs : List ℤ) → regrouped (λ z. z) m rs ≡ rs
unfolding regrouped
regrouped_none zero rs = refl
regrouped_none (suc m) [] = refl
regrouped_none (suc m) (x ∷ []) = refl
regrouped_none (suc m) (x ∷ y ∷ rs) = ap (λ (l : List ℤ). x ∷ y ∷ l) (regrouped_none m rs)

-- ---- the classes

module _ {v n : ℕ} (t : Tables) (F : FormedTo v n n t) (alone : cyclic (edges_of t n) (2 * v) ≡ false) where
  abbrev adj : ℕ → List ℕ
  adj = edges_of t n

  none : Acyclic adj
  none = cyclic_none (slots_from t.clauses t.literals n 0) v (slots_in (formed_listed F)) alone

  no_clash : clashes adj v ≡ false
  no_clash = go (clashes adj v) refl
    where
      go : (b : Bool) → clashes adj v ≡ b → b ≡ false
      go true e = let (s, lt, there, back) = clashes_some adj v (edges_skew t F) e in absurd (none s (twin s) (twin_other s) there back)
      go false e = refl

  -- each slot is its own representative
  fixed : (s : ℕ) → s < 2 * v → least_mutual adj (2 * v) s ≡ s
  fixed s lt =
      let R = edges_least t F s lt in
      ⊎_elim (λ (e : s ≡ least_mutual adj (2 * v) s). sym e) (λ (d : s ≡ least_mutual adj (2 * v) s → ⊥). absurd (none s (least_mutual adj (2 * v) s) d R.there R.back)) (same_or s (least_mutual adj (2 * v) s))

  same_classes : regrouped (representative adj v) v t.variables ≡ t.variables
  unfolding representative
  same_classes =
      regrouped_as (representative adj v) (λ z. z) v t.variables
      (λ u lt.
      let z : ℤ = get_or t.variables (2 * u) (pos 0) in
      let X = (F.vars.each u lt).class in
      let R : Literal v z = subst (Literal v) (class_at_lem t.variables u) (record { above = X.above; within = omega (arith, X.within, lt) }) in
      ap lit_at (fixed (slot_of z) (slot_below z v R.above R.within)) ∙ lit_slot z R.above)
      ∙ regrouped_none v t.variables

-- ---- the visits

module _ {v n : ℕ} (t : Tables) (F : FormedTo v n n t) where
  visit_same : (k : ℕ) → k < n → visit (merge_clause t.variables) k t ≡ t
  visit_same k lt =
      let C : List ℤ = literals_of t.clauses t.literals k in
      let fits : FitClause v t.variables true C = subst (λ (b : Bool). FitClause v t.variables b C) (lt-ltb k n lt) (clause_fits F k lt) in
      formed_cases t F k lt (merge_clause t.variables) (λ (f : Fate). store k f t ≡ t) (λ e. refl) (λ stands. ap (λ (f : Fate). store k f t) (plain_stays C fits) ∙ shortened_same t k (part_inside F k lt))

  visits_same : (m k : ℕ) → k + m ≤ n → visits (merge_clause t.variables) m k t ≡ t
  unfolding visits
  visits_same zero k h = refl
  visits_same (suc m) k h = ap (visits (merge_clause t.variables) m (suc k)) (visit_same k (omega arith)) ∙ visits_same m (suc k) (omega arith)

-- THE LAW
pub merged_alone : (t : Tables) (st : State) → FormedTo st.v st.n st.n t → grouped (standing_in t st) ≡ false → merged (standing_in t st) ≡ standing_in t (ended st)
unfolding merged_classes
merged_alone t st F alone =
    merged_visits t st (no_clash t F alone)
    ∙ ap (λ (w : List ℤ). standing_in (visits (merge_clause w) st.n 0 (record { clauses = t.clauses; literals = t.literals; variables = w; times = t.times; links = t.links })) (ended st)) (same_classes t F alone)
    ∙ ap (λ (u : Tables). standing_in u (ended st)) (visits_same t F st.n 0 (omega arith))
