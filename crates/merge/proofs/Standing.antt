-- Merge's theorem: whatever the tables, the state and the step count, an assignment satisfies what stands after a call exactly if it satisfied what stood before, refused calls included. Assumes nothing.
use Prim.Native.Nat.{ℕ, zero, suc, ◌+◌, ◌-◌, ◌≤◌, ◌<◌, min}
use native.Mathlib.Omega.{arith}
use native.Mathlib.Nat.{min-le_right}
use mathlib.Core.Path.{◌≡◌, refl, sym, ap, subst, ◌∙◌}
use mathlib.Core.Bool.{Bool, true, false, false≢true}
use mathlib.Core.Logic.Iff
use mathlib.Core.Logic.{⊎_elim, ◌↔◌}
use mathlib.Core.List.{List, [], map}
use lib.ListN.{length, get_or}
use lib.IntN.{ℤ, pos, nat_abs}
use Rattle.std.specs.Prelude.{Result, Ok, Err}
use Rattle.base.specs.Decide.{same_or}
use Rattle.literal.specs.Literals.{Literal}
use Rattle.literal.specs.Clauses.{tautology}
use Rattle.literal.specs.Assignments.{Assignment, true_under, some_true}
use Rattle.state.specs.States.{opened}
use Rattle.state.specs.declared.State.{State}
use Rattle.state.specs.declared.Pass.{Pass}
use Rattle.state.specs.declared.Pass.TheVariants.{Idle, Merge}
use Rattle.state.specs.declared.Refusal.{Refusal}
use Rattle.tables.specs.Tables.{Tables, length_of, standing, class_of, value_of}
use Rattle.tables.specs.Values.{class_literal}
use Rattle.tables.specs.Clauses.{literals_of}
use Rattle.tables.specs.Fates.{Fate, left, dropped, store, visit, visits, shortened, dropped_at}
use Rattle.tables.specs.Passes.{first_unsettled}
use Rattle.tables.specs.Calls.{After}
use Rattle.tables.specs.Stands.{Stands}
use Rattle.entry.specs.Entry.{entry_of}
use Rattle.entry.specs.declared.PassName.TheVariants as own
use Rattle.entry.specs.declared.Entry.{Entry}
use Rattle.entry.specs.declared.Entry.TheVariants.{Opens, Resumes}
use Rattle.entry.proofs.Entering.{opens_entered, resumes_entered}
use Rattle.visits.specs.Formed.{Formed, Known}
use Rattle.visits.proofs.Stores.{recorded, recorded_here, recorded_other, stored_at, stored_view, stored_other}
use Rattle.visits.proofs.Forming.{clause_fits, record_inside, recorded_same}
use Rattle.visits.proofs.Known.{known_row}
use Rattle.visits.proofs.Visiting.{visit_beside}
use Rattle.visits.proofs.StoreKeeps.{FormedTo, formed_cases}
use Rattle.visits.proofs.Advancing.{advance_cases}
use Rattle.merge.specs.Merge.{merged_classes, merge_from, merge_open, merge_by, merge_call}
use Rattle.merge_visits.specs.Clause.{merge_clause}
use Rattle.merge_visits.specs.Visits.{substituted}
use Rattle.merge.proofs.Merged.{classes_formed}
use Rattle.merge.proofs.Equal.{opening_keeps, opening_adds_none, clash_stands}
use Rattle.repeats.proofs.Repeats.{distinct_short}
use Rattle.merge_visits.proofs.Visiting.{merge_shrinks}
use Rattle.merge_visits.proofs.VisitKeeps.{formed_visit, mapped}
use Rattle.merge.proofs.Calling.{open_cases, settled_cases, opens_formed, resumes_resumable}
use Rattle.merge.proofs.Truth.{Classed, substituted_true, dropped_true}

-- clause i has a true literal if it stands
abbrev True : Assignment → List ℕ → List ℤ → ℕ → Type 0
True τ c l i = standing c i ≡ 1 → some_true τ (literals_of c l i) ≡ true

-- ---- one clause is stored anew

module _ {v n s : ℕ} {c : List ℕ} {l w : List ℤ} (F : Formed v n s false c l w) (k : ℕ) (lt : k < n) (E : List ℤ) (f : ℕ) (short : length E ≤ length_of c k) (τ : Assignment)
    (here : True τ c l k ↔ (f ≡ 1 → some_true τ E ≡ true)) where
  abbrev c' : List ℕ
  c' = recorded c k (length E) f

  abbrev l' : List ℤ
  l' = stored_at c l k E

  flag : standing c' k ≡ f
  flag = (recorded_here c k (length E) f (record_inside F k lt)).1

  view : literals_of c' l' k ≡ E
  view = stored_view F k lt E f short

  stored_here : True τ c l k ↔ True τ c' l' k
  stored_here = (λ h s. ap (some_true τ) view ∙ here.0 h (sym flag ∙ s), λ h s. here.1 (λ e. sym (ap (some_true τ) view) ∙ h (flag ∙ e)) s)

  pub stored_true : (i : ℕ) → i < n → True τ c l i ↔ True τ c' l' i
  stored_true i li =
      ⊎_elim
      (λ (e : i ≡ k). subst (λ (x : ℕ). True τ c l x ↔ True τ c' l' x) (sym e) stored_here)
      (λ (d : i ≡ k → ⊥).
      let same : literals_of c' l' i ≡ literals_of c l i = stored_other F k lt E f short i li d in
      let still : standing c' i ≡ standing c i = (recorded_other c k (length E) f i d).1 in
      (λ h s. ap (some_true τ) same ∙ h (sym still ∙ s), λ h s. sym (ap (some_true τ) same) ∙ h (still ∙ s)))
      (same_or i k)

-- ---- a visit

module _ (t : Tables) (v n k : ℕ) (F : FormedTo v n k t) (lt : k < n) (τ : Assignment) (classes : Classed v t.variables τ) where
  abbrev C : List ℤ
  C = literals_of t.clauses t.literals k

  abbrev D : List ℤ
  D = substituted t.variables C

  ranged : (i : ℕ) → i < length C → Literal v (get_or C i (pos 0))
  ranged i h = (clause_fits F k lt).ranged i h

  classed : (i : ℕ) → i < length C → τ (nat_abs (get_or C i (pos 0))) ≡ true_under τ (class_of t.variables (nat_abs (get_or C i (pos 0))))
  classed i h =
      let x : ℕ = nat_abs (get_or C i (pos 0)) in
      let R : Literal v (get_or C i (pos 0)) = ranged i h in
      subst (λ (y : ℕ). τ y ≡ true_under τ (class_of t.variables y)) (let e : x - 1 + 1 ≡ x = omega (arith, R.above) in e) (classes (x - 1) (omega (arith, R.above, R.within)))

  some : (i : ℕ) → i < length C → 0 < nat_abs (class_of t.variables (nat_abs (get_or C i (pos 0))))
  some i h = (known_row K).class.above
    where
      K : Known t.variables (get_or C i (pos 0))
      K = record { count = v; rows = F.vars; ranged = ranged i h }

  -- it is dropped, since it is true
  dropped_still : tautology D ≡ true → (i : ℕ) → i < n → True τ t.clauses t.literals i ↔ True τ (dropped_at k t.variables t).clauses (dropped_at k t.variables t).literals i
  unfolding dropped_at
  dropped_still e =
      stored_true F k lt [] 0 (omega arith) τ
      (λ h z. absurd (omega (arith, z)), λ h s. dropped_true τ t.variables C classed some e)

  left_still : standing t.clauses k ≡ 1 → (i : ℕ) → i < n → True τ t.clauses t.literals i ↔ True τ (shortened k D t).clauses (shortened k D t).literals i
  unfolding shortened
  left_still stands i li =
      subst (λ (x : List ℕ). True τ t.clauses t.literals i ↔ True τ x (stored_at t.clauses t.literals k D) i) (ap (recorded t.clauses k (length D)) (sym stands) ∙ recorded_same t.clauses k (length D))
      (stored_true F k lt D 1 (omega (arith, distinct_short (map (class_literal t.variables) C), mapped v n k t F lt)) τ
      (λ h z. substituted_true τ t.variables C classed some ∙ h stands, λ h s. sym (substituted_true τ t.variables C classed some) ∙ h refl)
      i li)

  standing_still : standing t.clauses k ≡ 1 → (i : ℕ) → i < n
      → True τ t.clauses t.literals i ↔ True τ (store k (merge_clause t.variables C) t).clauses (store k (merge_clause t.variables C) t).literals i
  unfolding merge_clause
  standing_still stands i li = go (tautology D) refl
    where
      go : (b : Bool) → tautology D ≡ b → True τ t.clauses t.literals i
          ↔ True τ (store k (elim b as (λ x. Fate) [ true ↦ dropped | false ↦ left D ]) t).clauses (store k (elim b as (λ x. Fate) [ true ↦ dropped | false ↦ left D ]) t).literals i
      go true e = dropped_still e i li
      go false e = left_still stands i li

  -- THE LAW of a visit: each clause is true after it exactly if it was before
  pub visit_true : (i : ℕ) → i < n → True τ t.clauses t.literals i ↔ True τ (visit (merge_clause t.variables) k t).clauses (visit (merge_clause t.variables) k t).literals i
  visit_true i li =
      formed_cases t F k lt (merge_clause t.variables) (λ (f : Fate). True τ t.clauses t.literals i ↔ True τ (store k f t).clauses (store k f t).literals i) (λ e. Iff.rfl)
      (λ stands. standing_still stands i li)

-- ---- what stands

-- other clauses, true where these are, over the same variables
stands_as : (t t' : Tables) (st : State) (τ : Assignment) → t'.variables ≡ t.variables
    → ((i : ℕ) → i < st.n → True τ t.clauses t.literals i → True τ t'.clauses t'.literals i) → Stands t st τ → Stands t' st τ
stands_as t t' st τ e h S = record {
  unmarked = S.unmarked;
  clauses = λ i lt. h i lt (S.clauses i lt);
  classes = λ u lt. subst (λ (w : List ℤ). τ (u + 1) ≡ true_under τ (class_of w (u + 1))) (sym e) (S.classes u lt);
  truths = λ u lt q. S.truths u lt (ap (λ (w : List ℤ). value_of w (u + 1)) (sym e) ∙ q);
  falsehoods = λ u lt q. S.falsehoods u lt (ap (λ (w : List ℤ). value_of w (u + 1)) (sym e) ∙ q);
}

-- THE LAW of a visit, over what stands
pub visit_stands : (t : Tables) (st : State) (k : ℕ) (τ : Assignment) → FormedTo st.v st.n k t → k < st.n → Stands (visit (merge_clause t.variables) k t) st τ ↔ Stands t st τ
visit_stands t st k τ F lt = (
  λ S.
      let classes : Classed st.v t.variables τ = λ u lu. subst (λ (w : List ℤ). τ (u + 1) ≡ true_under τ (class_of w (u + 1))) same (S.classes u lu) in
      stands_as (visit (merge_clause t.variables) k t) t st τ (sym same) (λ i li. (visit_true t st.v st.n k F lt τ classes i li).1) S,
  λ S. stands_as t (visit (merge_clause t.variables) k t) st τ same (λ i li. (visit_true t st.v st.n k F lt τ S.classes i li).0) S,
)
  where
    same : (visit (merge_clause t.variables) k t).variables ≡ t.variables
    same = (visit_beside (merge_clause t.variables) (merge_shrinks t.variables) k t).variables

pub visits_stand : (m k : ℕ) (w : List ℤ) (t : Tables) (st : State) (τ : Assignment) → t.variables ≡ w → k + m ≤ st.n → FormedTo st.v st.n k t → Stands (visits (merge_clause w) m k t) st τ ↔ Stands t st τ
unfolding visits
visits_stand zero k w t st τ same le F = Iff.rfl
visits_stand (suc m) k w t st τ same le F =
    Iff.trans
    (visits_stand m (suc k) w (visit (merge_clause w) k t) st τ ((visit_beside (merge_clause w) (merge_shrinks w) k t).variables ∙ same) (omega arith)
    (subst (λ (x : List ℤ). FormedTo st.v st.n (suc k) (visit (merge_clause x) k t)) same (formed_visit st.v st.n k t F (omega arith))))
    (subst (λ (x : List ℤ). Stands (visit (merge_clause x) k t) st τ ↔ Stands t st τ) same (visit_stands t st k τ F (omega arith)))

-- ---- the call

-- V, N and the mark are all of the state that matters
stands_state : (t : Tables) (st : State) (τ : Assignment) (p : Pass) (fresh : Bool) → st.mark ≡ false → Stands t (opened p fresh st) τ ↔ Stands t st τ
stands_state t st τ p fresh e = (
  λ S. record { unmarked = e; clauses = S.clauses; classes = S.classes; truths = S.truths; falsehoods = S.falsehoods },
  λ S. record { unmarked = refl; clauses = S.clauses; classes = S.classes; truths = S.truths; falsehoods = S.falsehoods },
)

abbrev Kept : Assignment → After → Tables → State → Type 0
Kept τ a t st = Stands a.tables a.state τ ↔ Stands t st τ

module _ (st : State) (unmarked : st.mark ≡ false) (τ : Assignment) where
  from_keeps : (fresh : Bool) (steps k : ℕ) (t : Tables) → FormedTo st.v st.n k t → k ≤ st.n → Kept τ (merge_from fresh steps k t st) t st
  from_keeps fresh steps k t F le =
      let m : ℕ = min steps (st.n - k) in
      let u : Tables = visits (merge_clause t.variables) m k t in
      let made = visits_stand m k t.variables t st τ refl (omega (arith, min-le_right steps (st.n - k), le)) F in
      advance_cases Merge fresh fresh (merge_clause t.variables) steps k t st (λ (a : After). Kept τ a t st)
      (λ counts lt. Iff.trans (stands_state u st τ (Merge (k + m)) fresh unmarked) made)
      (λ counts done. Iff.trans (stands_state u st τ Idle fresh unmarked) made)

  open_keeps : (steps : ℕ) (t : Tables) → FormedTo st.v st.n st.n t → first_unsettled t st.n ≡ st.n → Kept τ (merge_open steps t st) t st
  open_keeps steps t F settled =
      open_cases steps st t (λ (a : After). Kept τ a t st)
      (λ e. (λ S. absurd (false≢true (sym S.unmarked)), λ S. absurd (clash_stands t st F τ e S)))
      (λ e. Iff.trans (from_keeps false steps 0 (merged_classes st.v st.n t) (classes_formed t F e settled) (omega arith)) (opening_adds_none t st F τ, opening_keeps t st F τ))

-- THE THEOREM
pub merge_keeps : (steps : ℕ) (t : Tables) (st : State) (τ : Assignment) → Stands (merge_call steps t st).tables (merge_call steps t st).state τ ↔ Stands t st τ
unfolding merge_call
merge_keeps steps t st τ = go (entry_of own.Merge t st) refl
  where
    go : (x : Result Entry Refusal) → entry_of own.Merge t st ≡ x → Kept τ (merge_by x steps t st) t st
    go (Err r) e = Iff.rfl
    go (Ok Opens) e = settled_cases steps st t (λ (a : After). Kept τ a t st) Iff.rfl (open_keeps st (opens_entered own.Merge t st e).unmarked τ steps t (opens_formed steps t st e))
    go (Ok (Resumes k changed)) e = let R = resumes_resumable t st k changed e in from_keeps st (resumes_entered own.Merge t st k changed e).unmarked τ st.fresh steps k t R.formed R.within
