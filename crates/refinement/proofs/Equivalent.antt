-- THE TIE: an assignment satisfies what stands in the tables exactly if it satisfies what stands over slots. Assumes nothing.
use Prim.Native.Nat.{ℕ, suc, ◌+◌, ◌*◌, ◌-◌, ◌≤◌, ◌<◌}
use native.Mathlib.Omega.{arith}
use native.Mathlib.Numerals.{add-one}
use mathlib.Core.Path.{◌≡◌, sym, ap, subst, ◌∙◌}
use mathlib.Core.Bool.{true, false, not, false≢true, not-not}
use mathlib.Core.Logic.{◌⊎◌, ◌↔◌, ⊎_elim}
use mathlib.Core.List.{map, Memᴰ}
use lib.IntN.{ℤ, pos, negsuc, neg_ℤ, nat_abs}
use Rattle.base.proofs.Lists.{mem_get_d, get_d_mem}
use Rattle.base.specs.Decide.{le_or}
use Rattle.literal.specs.Literals.{Literal, slot_of, lit_at, eq_z}
use Rattle.literal.specs.Assignments.{Assignment, true_under, some_true}
use Rattle.literal.proofs.Laws.{lit_slot, slot_below}
use Rattle.literal.proofs.Signed.{eq_z_true}
use Rattle.state.specs.declared.State.{State}
use Rattle.tables.specs.Tables.{Tables, class_of, value_of}
use Rattle.tables.specs.Tables as T
use Rattle.tables.specs.Stands.{Stands, StandsByOwn}
use Rattle.tables.specs.Values.{class_literal, own_truth, class_value, truth, is_true}
use Rattle.tables.specs.Clauses.{literals_of}
use Rattle.shape.specs.Shape.{Spread}
use Rattle.visits.specs.Formed.{Formed}
use Rattle.visits.proofs.Forming.{clause_fits}
use Rattle.visits.proofs.Known.{known_row, class_own}
use Rattle.sound.specs.Formula.{Clause, dropped, value, Sat}
use Rattle.moves.specs.Core as core
use Rattle.sound.proofs.Truth.{value_slot}
use Rattle.refinement.specs.Represented.{Represented}
use Rattle.refinement.proofs.Propagated.{mem_at}
use Rattle.refinement.proofs.Literals.{slot_literal, own_neg, class_is, class_lit}
use Rattle.refinement.proofs.Standing.{Real, sat_slots, slots_sat, clause_stands, stands_clause, class_holds, fact_holds}

module _ (st : State) (t : Tables) (k : core.Core) (sl : ℕ) (F : Formed st.v st.n sl st.mark t.clauses t.literals t.variables) (R : Represented st.v st.n st.mark t k) (τ : Assignment) where
  real : (i : ℕ) → i < st.n → Real (literals_of t.clauses t.literals i)
  real i lt = record { each = λ l m. let j = mem_at (literals_of t.clauses t.literals i) m in subst (λ (x : ℤ). 0 < nat_abs x) (sym j.2) ((clause_fits F i lt).ranged j.0 j.1).above }

  -- from the tables to the slots, by the values of variables that are their own class
  pub own_core : StandsByOwn t st τ → core.ModelOf k τ
  unfolding value
  own_core S = record {
    unmarked = R.marks ∙ S.unmarked;
    models = λ C m.
        let r = mem_get_d k.clauses dropped m in
        let lt : r.0 < st.n = omega (arith, r.1, R.number) in
        let e = clause_stands t.clauses t.literals r.0 (sym (R.clauses r.0 lt) ∙ r.2) in
        subst (Sat τ) e.1 (sat_slots τ (literals_of t.clauses t.literals r.0) (real r.0 lt) (S.clauses r.0 lt (let o = F.rule.parts.flag r.0 lt in omega (arith, o, e.0))));
    classes = λ s.
        ⊎_elim
        (λ (h : 2 * st.v ≤ s). ap (value τ) (sym (R.beyond s h).0))
        (λ (h : s < 2 * st.v).
        let L = slot_literal st.v s h in
        class_holds st t τ S F.vars (lit_at s) L ∙ sym (ap (value τ) (R.classes s h) ∙ value_slot τ (class_literal t.variables (lit_at s)) (class_lit R F.vars (lit_at s) L).above))
        (le_or (2 * st.v) s);
    met = λ s e.
        ⊎_elim
        (λ (h : 2 * st.v ≤ s). absurd (false≢true (sym (R.beyond s h).1 ∙ e)))
        (λ (h : s < 2 * st.v).
        let L = slot_literal st.v s h in
        let c = class_literal t.variables (lit_at s) in
        class_holds st t τ S F.vars (lit_at s) L
        ∙ fact_holds st t τ S F.vars c (class_lit R F.vars (lit_at s) L) (class_own (record { count = st.v; rows = F.vars; ranged = L })) (eq_z_true (own_truth t.variables c) (pos 1) (sym (R.facts s h) ∙ e)))
        (le_or (2 * st.v) s);
  }

  -- and back
  module _ (M : core.ModelOf k τ) where
    clauses_true : (i : ℕ) → i < st.n → T.standing t.clauses i ≡ 1 → some_true τ (literals_of t.clauses t.literals i) ≡ true
    clauses_true i lt e =
        slots_sat τ (literals_of t.clauses t.literals i) (real i lt)
        (M.models (map slot_of (literals_of t.clauses t.literals i)) (subst (λ (c : Clause). Memᴰ c k.clauses) (R.clauses i lt ∙ stands_clause t.clauses t.literals i e) (get_d_mem k.clauses i dropped (omega (arith, R.number, lt)))))

    classes_equal : (w : ℕ) → w < st.v → τ (w + 1) ≡ true_under τ (class_of t.variables (w + 1))
    classes_equal w lt =
        let L : Literal st.v (pos (w + 1)) = record { above = omega arith; within = omega arith } in
        sym (value_slot τ (pos (w + 1)) (omega arith)) ∙ M.classes (slot_of (pos (w + 1))) ∙ ap (value τ) (class_is R F.vars (pos (w + 1)) L) ∙ value_slot τ (class_of t.variables (w + 1)) (class_lit R F.vars (pos (w + 1)) L).above

    -- a fact over slots, of a literal
    fact_true : (l : ℤ) → Literal st.v l → truth t.variables l ≡ pos 1 → true_under τ l ≡ true
    fact_true l L e =
        sym (value_slot τ l L.above)
        ∙ M.met (slot_of l) (R.facts (slot_of l) (slot_below l st.v L.above L.within) ∙ ap (is_true t.variables) (lit_slot l L.above) ∙ ap (λ (x : ℤ). eq_z x (pos 1)) e)

    -- a variable whose value is that of its class literal
    truth_at : (w : ℕ) → w < st.v → value_of t.variables (w + 1) ≡ class_value t.variables (w + 1) → value_of t.variables (w + 1) ≡ pos 1 → τ (w + 1) ≡ true
    truth_at w lt same e = fact_true (pos (w + 1)) (record { above = omega arith; within = omega arith }) (sym same ∙ e)

    false_at : (w : ℕ) → w < st.v → value_of t.variables (w + 1) ≡ class_value t.variables (w + 1) → value_of t.variables (w + 1) ≡ negsuc 0 → τ (w + 1) ≡ false
    false_at w lt same e =
        let L : Literal st.v (negsuc w) = record { above = omega arith; within = lt } in
        let c = class_of t.variables (suc w) in
        let q : not (τ (suc w)) ≡ true = fact_true (negsuc w) L
        (own_neg t.variables c (known_row (record { count = st.v; rows = F.vars; ranged = L })).class.above ∙ ap neg_ℤ (ap (class_value t.variables) (sym (add-one w)) ∙ sym same ∙ e)) in
        ap τ (add-one w) ∙ sym (not-not (τ (suc w))) ∙ ap not q

    pub core_own : StandsByOwn t st τ
    core_own = record {
      unmarked = sym R.marks ∙ M.unmarked;
      clauses = clauses_true;
      classes = classes_equal;
      truths = λ w lt own. truth_at w lt (sym (ap (own_truth t.variables) own));
      falsehoods = λ w lt own. false_at w lt (sym (ap (own_truth t.variables) own));
    }

    -- where the values are spread, all of them are met
    pub core_stands : Spread st.v t.variables → Stands t st τ
    core_stands S = record {
      unmarked = sym R.marks ∙ M.unmarked;
      clauses = clauses_true;
      classes = classes_equal;
      truths = λ w lt. truth_at w lt (S w lt);
      falsehoods = λ w lt. false_at w lt (S w lt);
    }

-- what stands, read at all variables, stands read at those that are their own class
pub stands_own : {t : Tables} {st : State} {τ : Assignment} → Stands t st τ → StandsByOwn t st τ
stands_own S = record { unmarked = S.unmarked; clauses = S.clauses; classes = S.classes; truths = λ w lt own. S.truths w lt; falsehoods = λ w lt own. S.falsehoods w lt }

-- the tables, their values spread, and what they represent are satisfied alike
pub tie : (st : State) (t : Tables) (k : core.Core) (s : ℕ) → Formed st.v st.n s st.mark t.clauses t.literals t.variables → Spread st.v t.variables → Represented st.v st.n st.mark t k → (τ : Assignment) → Stands t st τ ↔ core.ModelOf k τ
tie st t k s F S R τ = (λ M. own_core st t k s F R τ (stands_own M), λ M. core_stands st t k s F R τ M S)
