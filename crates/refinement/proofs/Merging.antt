-- Merge is a list of moves at every stopping point: its opening regroups the classes or sets the mark, and each visit puts class literals in. Assumes nothing.
use Prim.Native.Nat.{ℕ, zero, suc, ◌+◌, ◌*◌, ◌-◌, ◌≤◌, ◌<◌}
use native.Mathlib.Omega.{arith}
use native.Mathlib.Numerals.{add-one}
use mathlib.Core.Path.{◌≡◌, refl, sym, ap, subst, ◌∙◌}
use mathlib.Core.Bool.{Bool, true, false}
use mathlib.Core.List.{List, map}
use lib.IntN.{ℤ, pos, negsuc, nat_abs}
use Rattle.literal.specs.Literals.{Literal, slot_of, lit_at, twin, eq_z}
use Rattle.literal.specs.Clauses.{distinct, tautology}
use Rattle.literal.proofs.Laws.{lit_slot, slot_lit, slot_twin, slot_below, lit_var}
use Rattle.scc.specs.Groups.{least_mutual}
use Rattle.tables.specs.Tables.{Tables, class_of}
use Rattle.tables.specs.Tables as T
use Rattle.tables.specs.Values.{class_literal, own_truth, truth}
use Rattle.tables.specs.Fates.{Fate, store, visits}
use Rattle.tables.specs.Fates as fates
use Rattle.tables.specs.Passes.{first_unsettled}
use Rattle.moves.specs.Core as core
use Rattle.moves.specs.Moves as moves
use Rattle.moves.proofs.Groups.{least, least_in, least_out, least_grouped, least_twin, clash_found}
use Rattle.visits.proofs.Known.{class_ranged}
use Rattle.visits.proofs.Visiting.{visit_beside}
use Rattle.visits.proofs.StoreKeeps.{FormedTo, formed_cases}
use Rattle.merge.specs.Merge.{edges_of, clashes, representative, merged_classes}
use Rattle.merge_visits.specs.Clause.{merge_clause}
use Rattle.merge.proofs.Regrouped.{regrouped_class}
use Rattle.merge.proofs.Merged.{classes_formed, truth_new, value_kept}
use Rattle.merge_visits.proofs.Visiting.{merge_shrinks}
use Rattle.merge_visits.proofs.VisitKeeps.{formed_visit}
use Rattle.sound.specs.Formula.{graph}
use Rattle.refinement.specs.Represented.{Represented}
use Rattle.refinement.proofs.Literals.{slot_literal, class_lit}
use Rattle.refinement.proofs.Propagated.{Simulated, literals_at, mark_represented}
use Rattle.refinement.proofs.Propagation.{moves_join}
use Rattle.refinement.proofs.Merged.{classed, merged_left, merged_dropped}
use Rattle.refinement.proofs.Shaping.{shaped_of, graph_of, owned_of}

-- ---- visits

pub visit_simulated : {v n c : ℕ} {t : Tables} {k : core.Core} → FormedTo v n c t → Represented v n false t k → c < n → Simulated v n false (fates.visit (merge_clause t.variables) c t) k
unfolding merge_clause classed
visit_simulated {v} {n} {c} {t} {k} F R lt =
    formed_cases t F c lt (merge_clause t.variables) (λ (f : Fate). Simulated v n false (store c f t) k) (λ e. record { to = k; moves = moves.stay; tied = R })
    (λ stands. by_fate stands (tautology (distinct (map (class_literal t.variables) (literals_at t c)))) refl)
  where
    by_fate : T.standing t.clauses c ≡ 1 → (b : Bool) → tautology (distinct (map (class_literal t.variables) (literals_at t c))) ≡ b
        → Simulated v n false (store c (elim b as (λ x. Fate) [ true ↦ fates.dropped | false ↦ fates.left (distinct (map (class_literal t.variables) (literals_at t c))) ]) t) k
    by_fate e true h = merged_dropped F R c lt e h
    by_fate e false h = merged_left F R c lt e

pub visits_simulated : (v n m c : ℕ) (w : List ℤ) (t : Tables) (k : core.Core) → t.variables ≡ w → c + m ≤ n → FormedTo v n c t → Represented v n false t k → Simulated v n false (visits (merge_clause w) m c t) k
unfolding visits
visits_simulated v n zero c w t k same le F R = record { to = k; moves = moves.stay; tied = R }
visits_simulated v n (suc m) c w t k same le F R =
    let one : Simulated v n false (fates.visit (merge_clause w) c t) k = subst (λ (x : List ℤ). Simulated v n false (fates.visit (merge_clause x) c t) k) same (visit_simulated F R (omega (arith, le))) in
    let formed : FormedTo v n (suc c) (fates.visit (merge_clause w) c t) = subst (λ (x : List ℤ). FormedTo v n (suc c) (fates.visit (merge_clause x) c t)) same (formed_visit v n c t F (omega (arith, le))) in
    let rest = visits_simulated v n m (suc c) w (fates.visit (merge_clause w) c t) one.to ((visit_beside (merge_clause w) (merge_shrinks w) c t).variables ∙ same) (omega (arith, le)) formed one.tied in
    record { to = rest.to; moves = moves_join one.moves rest.moves; tied = rest.tied }

-- ---- the opening

module _ {v n : ℕ} {t : Tables} {k : core.Core} (F : FormedTo v n n t) (R : Represented v n false t k) where
  abbrev rep : ℕ → ℕ
  rep = least (graph k.clauses) (2 * v)

  same_clashes : clashes (graph k.clauses) v ≡ clashes (edges_of t n) v
  same_clashes = ap (λ (adj : ℕ → List ℕ). clashes adj v) (graph_of F R)

  pub clash_simulated : clashes (edges_of t n) v ≡ true → Simulated v n true t k
  clash_simulated h = record {
    to = core.marked_core k;
    moves = moves.go moves.stay (moves.change (clash_found v k (shaped_of F R) (same_clashes ∙ h)));
    tied = mark_represented R;
  }

  -- the new class of a variable, on slots
  new_class : (w : ℕ) → w < v → slot_of (class_of (merged_classes v n t).variables (w + 1)) ≡ rep (slot_of (class_of t.variables (w + 1)))
  unfolding merged_classes representative
  new_class w lt =
      let L : Literal v (pos (w + 1)) = record { above = omega arith; within = omega (arith, lt) } in
      let C = class_lit R F.vars (pos (w + 1)) L in
      ap slot_of (regrouped_class (representative (edges_of t n) v) v t.variables w lt (omega (arith, F.vars.few, F.vars.room)))
      ∙ slot_lit (least_mutual (edges_of t n) (2 * v) (slot_of (class_of t.variables (w + 1))))
      ∙ ap (λ (adj : ℕ → List ℕ). least_mutual adj (2 * v) (slot_of (class_of t.variables (w + 1)))) (sym (graph_of F R))
      ∙ sym (least_in v k (shaped_of F R) (slot_of (class_of t.variables (w + 1))) (slot_below (class_of t.variables (w + 1)) v C.above C.within))

  module _ (none : clashes (edges_of t n) v ≡ false) where
    -- of a literal
    new_literal : (l : ℤ) → Literal v l → rep (slot_of (class_literal t.variables l)) ≡ slot_of (class_literal (merged_classes v n t).variables l)
    unfolding merged_classes representative
    new_literal (pos zero) L = absurd (omega (arith, L.above))
    new_literal (pos (suc w)) L = sym (subst (λ (x : ℕ). slot_of (class_of (merged_classes v n t).variables x) ≡ rep (slot_of (class_of t.variables x))) (add-one w) (new_class w L.within))
    new_literal (negsuc w) L =
        let o : ℤ = class_of t.variables (suc w) in
        let q : slot_of (class_of (merged_classes v n t).variables (suc w)) ≡ rep (slot_of o) = subst (λ (x : ℕ). slot_of (class_of (merged_classes v n t).variables x) ≡ rep (slot_of (class_of t.variables x))) (add-one w) (new_class w L.within) in
        let C = class_lit R F.vars (pos (suc w)) (record { above = omega arith; within = L.within }) in
        ap rep (slot_twin o C.above)
        ∙ least_twin v k (shaped_of F R) (same_clashes ∙ none) (slot_of o) (slot_below o v C.above C.within)
        ∙ ap twin (sym q)
        ∙ sym (slot_twin (class_of (merged_classes v n t).variables (suc w)) (above w L.within))
      where
        above : (w : ℕ) → w < v → 0 < nat_abs (class_of (merged_classes v n t).variables (suc w))
        above w lt =
            let e = regrouped_class (representative (edges_of t n) v) v t.variables w lt (omega (arith, F.vars.few, F.vars.room)) in
            let s = least_mutual (edges_of t n) (2 * v) (slot_of (class_of t.variables (w + 1))) in
            subst (λ (x : ℕ). 0 < nat_abs (class_of (merged_classes v n t).variables x)) (add-one w) (subst (λ (z : ℤ). 0 < nat_abs z) (sym e) (let q = lit_var s in omega (arith, q)))

    module _ (settled : first_unsettled t n ≡ n) where
      -- a literal is as true as before: where its class literal is another now, neither had a value
      same_truth : (l : ℤ) → Literal v l → truth t.variables l ≡ truth (merged_classes v n t).variables l
      unfolding merged_classes
      same_truth l L =
          let c : ℤ = class_literal t.variables l in
          let C : Literal v c = class_lit R F.vars l L in
          let new : List ℤ = (merged_classes v n t).variables in
          let N : Literal v (class_literal new l) = class_ranged (record { count = v; rows = (classes_formed t F none settled).vars; ranged = L }) in
          value_kept t F none settled c C
          ∙ sym (truth_new t F (least_mutual (edges_of t n) (2 * v) (slot_of c)))
          ∙ ap (λ (s : ℕ). own_truth new (lit_at s))
          (ap (λ (adj : ℕ → List ℕ). least_mutual adj (2 * v) (slot_of c)) (sym (graph_of F R)) ∙ sym (least_in v k (shaped_of F R) (slot_of c) (slot_below c v C.above C.within)) ∙ new_literal l L)
          ∙ ap (own_truth new) (lit_slot (class_literal new l) N.above)

      pub opening_simulated : Simulated v n false (merged_classes v n t) k
      unfolding merged_classes
      opening_simulated = record {
        to = core.regroup rep k;
        moves = moves.go moves.stay (moves.change (least_grouped v k (shaped_of F R) (owned_of F R)));
        tied = record {
          number = R.number;
          clauses = R.clauses;
          classes = λ s h. ap rep (R.classes s h) ∙ new_literal (lit_at s) (slot_literal v s h);
          facts = λ s h. R.facts s h ∙ ap (λ (z : ℤ). eq_z z (pos 1)) (same_truth (lit_at s) (slot_literal v s h));
          beyond = λ s h. (ap rep (R.beyond s h).0 ∙ least_out v k (shaped_of F R) s h, (R.beyond s h).1);
          marks = R.marks;
        };
      }
