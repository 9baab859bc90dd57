-- The call: its opening, and each way of its entry is a way of `merge_call`. Assumes nothing.
use Prim.Native.Nat.{ℕ, zero, suc, ◌+◌, ◌≤◌, ◌<◌}
use native.Mathlib.Omega.{arith}
use mathlib.Core.Path.{◌≡◌, refl, sym, ap, subst, ◌∙◌}
use mathlib.Core.Bool.{Bool, true, false}
use mathlib.Core.Logic.{⊎_elim}
use mathlib.Core.List.{List}
use lib.IntN.{ℤ}
use borrow.Author.Tests.{lt-ltb, le-ltb}
use Rattle.std.specs.Prelude.{Result, Ok, Err}
use Rattle.base.specs.Decide.{le_or}
use Rattle.base.specs.Lists.{first}
use Rattle.state.specs.States.{marked}
use Rattle.state.specs.declared.State.{State}
use Rattle.state.specs.declared.Counts.{Counts}
use Rattle.state.specs.declared.Refusal.{Refusal}
use Rattle.state.specs.declared.Refusal.TheVariants.{Unsettled}
use Rattle.state.specs.declared.Answer.TheVariants.{Done}
use Rattle.tables.specs.Tables.{Tables, tables}
use Rattle.tables.specs.Clauses.{gone}
use Rattle.tables.specs.Passes.{unsettled, first_unsettled}
use Rattle.tables.specs.Calls.{After, answered, refuse}
use Rattle.entry.specs.Entry.{entry_of}
use Rattle.entry.specs.declared.PassName.TheVariants as own
use Rattle.entry.specs.declared.Entry.{Entry}
use Rattle.entry.specs.declared.Entry.TheVariants.{Opens, Resumes}
use Rattle.entry.proofs.Entering.{opens_entered, resumes_entered}
use Rattle.visits.specs.Formed.{Formed}
use Rattle.visits.proofs.Counting.{none_gone}
use Rattle.visits.proofs.Entered.{entered_to, entered_formed, entered_cursor}
use Rattle.merge.specs.Merge.{edges_of, clashes, representative, regrouped, merged_classes, merge_from, merge_open, merge_settled, merge_by, merge_call}
use Rattle.merge.specs.Opening.{opened_classes}
use Rattle.merge.specs.Steps.{Resumable}
use Rattle.merge.proofs.Merged.{merged_formed}

-- ---- the opening

module _ (steps : ℕ) (st : State) (t : Tables) where
  by_clash : Bool → After
  by_clash b =
      elim b [
        | true ↦ answered (Done (gone 0 st.n t.clauses t.clauses)) (marked st) t
        | false ↦ merge_from false steps 0 (merged_classes st.v st.n t) st
      ]

  opened : merge_open steps t st ≡ by_clash (clashes (edges_of t st.n) st.v)
  unfolding merge_open by_clash
  opened = refl

  pub open_clash : clashes (edges_of t st.n) st.v ≡ true → merge_open steps t st ≡ answered (Done (gone 0 st.n t.clauses t.clauses)) (marked st) t
  unfolding by_clash
  open_clash e = opened ∙ ap by_clash e

  pub open_none : clashes (edges_of t st.n) st.v ≡ false → merge_open steps t st ≡ merge_from false steps 0 (merged_classes st.v st.n t) st
  unfolding by_clash
  open_none e = opened ∙ ap by_clash e

  -- what holds of the opening with a clash and of that without one holds of every opening
  pub open_cases : (P : After → Type 0) → (clashes (edges_of t st.n) st.v ≡ true → P (answered (Done (gone 0 st.n t.clauses t.clauses)) (marked st) t))
      → (clashes (edges_of t st.n) st.v ≡ false → P (merge_from false steps 0 (merged_classes st.v st.n t) st)) → P (merge_open steps t st)
  open_cases P clash none = go (clashes (edges_of t st.n) st.v) refl
    where
      go : (b : Bool) → clashes (edges_of t st.n) st.v ≡ b → P (merge_open steps t st)
      go true e = subst P (sym (open_clash e)) (clash e)
      go false e = subst P (sym (open_none e)) (none e)

  -- what the opening has answered, and the variable table after it
  module _ (r : Bool) (w : List ℤ) (is : r ≡ clashes (edges_of t st.n) st.v) (after : w ≡ opened_classes r (edges_of t st.n) st.v t.variables) where
    pub opens_clash : r ≡ true → answered (Done (record { visits = 0; clauses = 0; literals = 0 })) (marked st) (tables t.clauses t.literals w t.times t.links) ≡ merge_open steps t st
    opens_clash e =
        ap (λ (c : Counts). answered (Done c) (marked st) (tables t.clauses t.literals w t.times t.links)) (none_gone st.n t.clauses)
        ∙ ap (λ (x : List ℤ). answered (Done (gone 0 st.n t.clauses t.clauses)) (marked st) (tables t.clauses t.literals x t.times t.links))
        (after ∙ ap (λ (b : Bool). opened_classes b (edges_of t st.n) st.v t.variables) e)
        ∙ sym (open_clash (sym is ∙ e))

    new_classes : r ≡ false → w ≡ regrouped (representative (edges_of t st.n) st.v) st.v t.variables
    new_classes e = after ∙ ap (λ (b : Bool). opened_classes b (edges_of t st.n) st.v t.variables) e

    pub opens_visits : r ≡ false → merge_from false steps 0 (tables t.clauses t.literals w t.times t.links) st ≡ merge_open steps t st
    unfolding merged_classes
    opens_visits e =
        ap (λ (x : List ℤ). merge_from false steps 0 (tables t.clauses t.literals x t.times t.links) st) (new_classes e)
        ∙ sym (open_none (sym is ∙ e))

    pub opens_resumable : r ≡ false → Formed st.v st.n st.n false t.clauses t.literals t.variables → first_unsettled t st.n ≡ st.n → Resumable st 0 t.clauses t.literals w
    opens_resumable e F settled = record {
      formed = subst (Formed st.v st.n 0 false t.clauses t.literals) (sym (new_classes e)) (merged_formed t F (sym is ∙ e) settled);
      within = omega arith;
    }

-- ---- refusal 6

first_within : (q : ℕ → Bool) (n k : ℕ) → first q n k ≤ k + n
unfolding first
first_within q zero k = omega arith
first_within q (suc n) k = go (q k) (first_within q n (suc k))
  where
    go : (b : Bool) → first q n (suc k) ≤ suc k + n → elim b as (λ x. ℕ) [ true ↦ k | false ↦ first q n (suc k) ] ≤ k + suc n
    go true h = omega arith
    go false h = omega arith

module _ (steps : ℕ) (st : State) (t : Tables) (i : ℕ) (is : i ≡ first_unsettled t st.n) where
  by_first : Bool → After
  by_first b = elim b [ true ↦ refuse (Unsettled (first_unsettled t st.n + 1)) st t | false ↦ merge_open steps t st ]

  pub first_refused : i < st.n → refuse (Unsettled (i + 1)) st t ≡ merge_settled steps t st
  unfolding merge_settled by_first
  first_refused h = ap (λ (j : ℕ). refuse (Unsettled (j + 1)) st t) is ∙ ap by_first (sym (lt-ltb (first_unsettled t st.n) st.n (omega (arith, h, is))))

  pub first_opens : st.n ≤ i → merge_open steps t st ≡ merge_settled steps t st
  unfolding merge_settled by_first
  first_opens h = ap by_first (sym (le-ltb (first_unsettled t st.n) st.n (omega (arith, h, is))))

  pub all_settled : st.n ≤ i → first_unsettled t st.n ≡ st.n
  unfolding first_unsettled
  all_settled h = omega (arith, h, is, first_within (unsettled t) st.n 0)

-- what holds of a refusal with 6 and of an opening holds of the call that finds no pass open
pub settled_cases : (steps : ℕ) (st : State) (t : Tables) (P : After → Type 0) → P (refuse (Unsettled (first_unsettled t st.n + 1)) st t) → (first_unsettled t st.n ≡ st.n → P (merge_open steps t st))
    → P (merge_settled steps t st)
settled_cases steps st t P refused opens =
    ⊎_elim
    (λ (h : st.n ≤ i). subst P (first_opens steps st t i refl h) (opens (all_settled steps st t i refl h)))
    (λ (h : i < st.n). subst P (first_refused steps st t i refl h) refused)
    (le_or st.n i)
  where
    i : ℕ
    i = first_unsettled t st.n

-- ---- the three ways of the call

module _ (steps : ℕ) (t : Tables) (st : State) where
  pub call_refused : (r : Refusal) → entry_of own.Merge t st ≡ Err r → refuse r st t ≡ merge_call steps t st
  unfolding merge_call
  call_refused r e = ap (λ (x : Result Entry Refusal). merge_by x steps t st) (sym e)

  pub call_opens : entry_of own.Merge t st ≡ Ok Opens → merge_settled steps t st ≡ merge_call steps t st
  unfolding merge_call
  call_opens e = ap (λ (x : Result Entry Refusal). merge_by x steps t st) (sym e)

  pub call_resumes : (k : ℕ) (changed : Bool) → entry_of own.Merge t st ≡ Ok (Resumes k changed) → merge_from st.fresh steps k t st ≡ merge_call steps t st
  unfolding merge_call
  call_resumes k changed e = ap (λ (x : Result Entry Refusal). merge_by x steps t st) (sym e)

  pub opens_formed : entry_of own.Merge t st ≡ Ok Opens → Formed st.v st.n st.n false t.clauses t.literals t.variables
  opens_formed e = entered_formed (opens_entered own.Merge t st e) tt

-- an open Merge has visited the clauses before its cursor
pub resumes_resumable : (t : Tables) (st : State) (k : ℕ) (changed : Bool) → entry_of own.Merge t st ≡ Ok (Resumes k changed) → Resumable st k t.clauses t.literals t.variables
resumes_resumable t st k changed e = let E = resumes_entered own.Merge t st k changed e in record { formed = entered_to E; within = omega (arith, (entered_cursor E).0) }
