-- Truth: under an assignment that satisfies every standing clause, a literal and its representative are both true or both false, and there is none where v and −v share a component.
-- So the opening keeps the assignments that satisfy what stands. Assumes nothing.
use Prim.Native.Nat.{ℕ, suc, ◌+◌, ◌*◌, ◌<◌}
use native.Mathlib.Omega.{arith}
use mathlib.Core.Path.{◌≡◌, refl, sym, ap, subst, ◌∙◌}
use mathlib.Core.Bool.{Bool, true, false, not, ◌||◌, false≢true}
use mathlib.Core.Logic.{⊎_elim}
use mathlib.Core.List.Memᴰ
use mathlib.Core.List.{List, [], ◌∷◌, ◌++◌, Memᴰ}
use lib.ListN.{length, get_or}
use lib.IntN.{ℤ, pos}
use Rattle.base.proofs.Lists.{get_d_mem}
use Rattle.base.specs.Decide.{same_or}
use Rattle.base.proofs.Booleans.{both_ways, not_itself}
use Rattle.literal.specs.Literals.{Literal, slot_of, lit_at, twin}
use Rattle.literal.specs.Assignments.{Assignment, true_under, some_true}
use Rattle.literal.proofs.Laws.{lit_slot, slot_below}
use Rattle.literal.proofs.Truth.{holds_twin}
use Rattle.walk.specs.Forest.{Reach}
use Rattle.walk.proofs.Theorems.{reach_implies}
use Rattle.implications.specs.Skew.{Skew}
use Rattle.implications.specs.Edges.{outs}
use Rattle.implications.specs.Clauses.{clause_froms, clause_tos, froms, tos, implications}
use Rattle.implications.proofs.Implications.{Satisfies, edge_true}
use Rattle.scc.proofs.Least.{least_mutual_lem}
use Rattle.state.specs.declared.State.{State}
use Rattle.tables.specs.Tables.{Tables, length_of, standing, class_of, value_of}
use Rattle.tables.specs.Clauses.{literals_of, slots_at, slots_from}
use Rattle.tables.specs.Stands.{Stands}
use Rattle.visits.specs.Formed.{Formed}
use Rattle.visits.proofs.Forming.{clause_fits}
use Rattle.table_graph.proofs.Listing.{formed_listed, from_clauses, slot_literal}
use Rattle.table_graph.proofs.Chain.{listed_skew}
use Rattle.merge.specs.Merge.{edges_of, clashes, representative, regrouped, merged_classes}
use Rattle.merge.proofs.Regrouped.{regrouped_class, regrouped_value}
use Rattle.merge.proofs.Opening.{clashes_some}

-- ---- literals and slots

-- a clause that is satisfied has a true literal, by its place
true_place : (τ : Assignment) (C : List ℤ) → some_true τ C ≡ true → (k : ℕ) × (k < length C) × (true_under τ (get_or C k (pos 0)) ≡ true)
true_place τ [] e = absurd (false≢true e)
true_place τ (x ∷ C) e = go (λ h. true_place τ C h) (true_under τ x) refl
  where
    go : (some_true τ C ≡ true → (k : ℕ) × (k < length C) × (true_under τ (get_or C k (pos 0)) ≡ true)) → (b : Bool) → true_under τ x ≡ b → (k : ℕ) × (k < length (x ∷ C)) × (true_under τ (get_or (x ∷ C) k (pos 0)) ≡ true)
    go rest true h = (0, omega arith, h)
    go rest false h = let r = rest (ap (λ (b : Bool). b || some_true τ C) (sym h) ∙ e) in (suc r.0, omega (arith, r.1), r.2)

-- ---- a dropped clause has no literals, and gives no edges

present : List (List ℕ) → List (List ℕ)
present [] = []
present ([] ∷ cs) = present cs
present ((a ∷ C) ∷ cs) = (a ∷ C) ∷ present cs

present_mem : (cs : List (List ℕ)) {C : List ℕ} → Memᴰ C (present cs) → (Memᴰ C cs) × (0 < length C)
unfolding present
present_mem [] m = absurd (Memᴰ.not-nil m)
present_mem ([] ∷ cs) m = let r = present_mem cs m in (Memᴰ.tail r.0, r.1)
present_mem ((a ∷ D) ∷ cs) {C} m =
    ⊎_elim
    (λ (e : C ≡ a ∷ D). (Memᴰ.head e, omega (arith, ap length e)))
    (λ k. let r = present_mem cs k in (Memᴰ.tail r.0, r.1))
    (Memᴰ.cases_cons m)

present_froms : (cs : List (List ℕ)) → froms (present cs) ≡ froms cs
unfolding present froms
present_froms [] = refl
present_froms ([] ∷ cs) = present_froms cs
present_froms ((a ∷ C) ∷ cs) = ap (λ (l : List ℕ). clause_froms (a ∷ C) ++ l) (present_froms cs)

present_tos : (cs : List (List ℕ)) → tos (present cs) ≡ tos cs
unfolding present tos
present_tos [] = refl
present_tos ([] ∷ cs) = present_tos cs
present_tos ((a ∷ C) ∷ cs) = ap (λ (l : List ℕ). clause_tos (a ∷ C) ++ l) (present_tos cs)

present_edges : (cs : List (List ℕ)) (s : ℕ) → implications cs s ≡ implications (present cs) s
present_edges cs s = ap (λ (l : List ℕ). outs l (tos cs) s) (sym (present_froms cs)) ∙ ap (λ (l : List ℕ). outs (froms (present cs)) l s) (sym (present_tos cs))

-- ---- truth along paths

module _ {v n k : ℕ} {mark : Bool} {c : List ℕ} {l w : List ℤ} (F : Formed v n k mark c l w) (τ : Assignment)
    (sat : (i : ℕ) → i < n → standing c i ≡ 1 → some_true τ (literals_of c l i) ≡ true) where
  abbrev adj : ℕ → List ℕ
  adj = implications (slots_from c l n 0)

  abbrev val : ℕ → Bool
  val s = true_under τ (lit_at s)

  skew : Skew adj twin (2 * v)
  skew = listed_skew (formed_listed F)

  opposite : (s : ℕ) → val (twin s) ≡ not (val s)
  opposite s = holds_twin τ s

  -- a clause with a literal stands, so one of its slots is true
  true_slot : (i : ℕ) → i < n → 0 < length_of c i → (q : ℕ) × (Memᴰ q (slots_at c l i)) × (val q ≡ true)
  unfolding slots_at
  true_slot i lt some =
      let stands : standing c i ≡ 1 = ⊎_elim (λ (z : standing c i ≡ 0). absurd (omega (arith, F.rule.parts.dropped i lt z, some))) (λ (d : standing c i ≡ 0 → ⊥). omega (arith, F.rule.parts.flag i lt, d)) (same_or (standing c i) 0) in
      let C : List ℤ = literals_of c l i in
      let (j, lj, h) = true_place τ C (sat i lt stands) in
      let x : ℤ = get_or C j (pos 0) in
      (slot_of x, Memᴰ.map slot_of (get_d_mem C j (pos 0) lj), ap (true_under τ) (lit_slot x ((clause_fits F i lt).ranged j lj).above) ∙ h)

  satisfies : Satisfies val (present (slots_from c l n 0))
  satisfies = record {
    opposite = opposite;
    each = λ C m.
        let (in-clauses, some) = present_mem (slots_from c l n 0) m in
        let (i, below, is) = from_clauses c l n 0 in-clauses in
        let lt : i < n = omega arith in
        let len : 0 < length_of c i = part_some i lt (subst (λ (D : List ℕ). 0 < length D) is some) in
        let (q, in-C, t) = true_slot i lt len in
        (q, subst (Memᴰ q) (sym is) in-C, t);
  }
    where
      part_some : (i : ℕ) → i < n → 0 < length (slots_at c l i) → 0 < length_of c i
      part_some i lt h = let (j, lj, e) = slot_literal c l i ((formed_listed F).parts i lt) (head_mem (slots_at c l i) h).1 in omega arith
        where
          head_mem : (D : List ℕ) → 0 < length D → (q : ℕ) × Memᴰ q D
          head_mem [] h = absurd (omega arith)
          head_mem (q ∷ D) h = (q, Memᴰ.head refl)

  reach_true : {a b : ℕ} → Reach adj a b → val a ≡ true → val b ≡ true
  reach_true r t =
      reach_implies adj (λ s. val s ≡ true)
      (λ s q m h. edge_true val (present (slots_from c l n 0)) satisfies s q (subst (Memᴰ q) (present_edges (slots_from c l n 0) s) m) h) r t

  reach_equal : {a b : ℕ} → Reach adj a b → Reach adj b a → val a ≡ val b
  reach_equal {a} {b} there back = both_ways (val a) (val b) (reach_true there) (reach_true back)

  -- THE LAW: a literal and its representative have the same truth
  pub classes_equal : (x : ℤ) → Literal v x → true_under τ x ≡ true_under τ (representative adj v x)
  unfolding representative
  classes_equal x R =
      let L = least_mutual_lem adj (2 * v) skew.inside (slot_of x) (slot_below x v R.above R.within) in
      ap (true_under τ) (sym (lit_slot x R.above)) ∙ reach_equal L.there L.back

  -- and where v and −v share a component there is no such assignment
  pub clash_unsatisfied : clashes adj v ≡ true → ⊥
  clash_unsatisfied e = let (s, lt, there, back) = clashes_some adj v skew e in not_itself (val s) (reach_equal there back ∙ opposite s)

-- ---- what stands

module _ (t : Tables) (st : State) {k : ℕ} {mark : Bool} (F : Formed st.v st.n k mark t.clauses t.literals t.variables) (τ : Assignment) where
  abbrev new : ℤ → ℤ
  new = representative (edges_of t st.n) st.v

  same_truth : ((i : ℕ) → i < st.n → standing t.clauses i ≡ 1 → some_true τ (literals_of t.clauses t.literals i) ≡ true)
      → (u : ℕ) → u < st.v → true_under τ (class_of t.variables (u + 1)) ≡ true_under τ (class_of (regrouped new st.v t.variables) (u + 1))
  same_truth sat u lt =
      let C = (F.vars.each u lt).class in
      classes_equal F τ sat (class_of t.variables (u + 1)) (record { above = C.above; within = omega (arith, C.within, lt) })
      ∙ ap (true_under τ) (sym (regrouped_class new st.v t.variables u lt (omega (arith, F.vars.few, F.vars.room))))

  value_same : (u : ℕ) → value_of (regrouped new st.v t.variables) (u + 1) ≡ value_of t.variables (u + 1)
  value_same u = regrouped_value new st.v t.variables u

  -- the opening keeps the assignments that satisfy what stands
  pub opening_keeps : Stands t st τ → Stands (merged_classes st.v st.n t) st τ
  unfolding merged_classes
  opening_keeps S = record {
    unmarked = S.unmarked;
    clauses = S.clauses;
    classes = λ u lt. S.classes u lt ∙ same_truth S.clauses u lt;
    truths = λ u lt e. S.truths u lt (sym (value_same u) ∙ e);
    falsehoods = λ u lt e. S.falsehoods u lt (sym (value_same u) ∙ e);
  }

  pub opening_adds_none : Stands (merged_classes st.v st.n t) st τ → Stands t st τ
  unfolding merged_classes
  opening_adds_none S = record {
    unmarked = S.unmarked;
    clauses = S.clauses;
    classes = λ u lt. S.classes u lt ∙ sym (same_truth S.clauses u lt);
    truths = λ u lt e. S.truths u lt (value_same u ∙ e);
    falsehoods = λ u lt e. S.falsehoods u lt (value_same u ∙ e);
  }

  -- and so does the mark, where there is a clash: there are none
  pub clash_stands : clashes (edges_of t st.n) st.v ≡ true → Stands t st τ → ⊥
  clash_stands e S = clash_unsatisfied F τ S.clauses e
