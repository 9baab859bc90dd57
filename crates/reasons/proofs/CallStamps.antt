-- Where stamps are fresh behind a call, it was a Stamp that was accepted, or they were fresh before it and the stamp records are as they were (`call_stamps`). So it is of a step of a list of calls (`step_stamps`). Assumes nothing.
use Prim.Native.Nat.{ℕ, ◌+◌, ◌-◌, ◌*◌, min}
use mathlib.Core.Path.{◌≡◌, refl, sym, ap, subst, ◌∙◌}
use mathlib.Core.Bool.{Bool, true, false}
use mathlib.Core.Logic.{◌⊎◌, inl, inr}
use mathlib.Core.List.{List, ◌++◌}
use lib.ListN.{drop, take-append-drop}
use lib.Dec.{ltb}
use lib.IntN.{ℤ}
use Rattle.std.specs.Prelude.{Result, Ok, Err}
use Rattle.base.proofs.Booleans.{clash}
use Rattle.stamp_columns.specs.Columns.{columns}
use Rattle.scc.specs.Groups.{cyclic}
use Rattle.state.specs.States.{closed, marked}
use Rattle.state.specs.declared.State.{State}
use Rattle.state.specs.declared.Pass.TheVariants.{Propagate, Merge, Sweep}
use Rattle.state.specs.declared.Refusal.{Refusal}
use Rattle.state.specs.declared.Refusal.TheVariants.{Unsettled}
use Rattle.tables.specs.Tables.{Tables}
use Rattle.tables.specs.Passes.{first_unsettled}
use Rattle.tables.specs.Calls.{After, refuse}
use Rattle.entry.specs.Entry.{entry_of, opening_of}
use Rattle.entry.specs.declared.PassName.TheVariants as own
use Rattle.entry.specs.declared.Entry.{Entry}
use Rattle.entry.specs.declared.Entry.TheVariants.{Opens, Resumes}
use Rattle.entry.proofs.Entering.{resumes_entered}
use Rattle.visits.proofs.Visiting.{visits_beside}
use Rattle.visits.proofs.Advancing.{advance_cases}
use Rattle.propagate.specs.Propagate.{propagate_by, propagate_call}
use Rattle.propagate_visits.specs.Visits.{going, begin}
use Rattle.merge.specs.Merge.{merge_open, merge_settled, merge_by, merge_call}
use Rattle.stamp.specs.Stamp.{stamp_acyclic, stamp_call}
use Rattle.stamp.specs.Asking.{ask_of}
use Rattle.stamp.proofs.Asking.{call_refused, call_fit, acyclic_no, acyclic_yes}
use Rattle.failed.specs.Failed.{found, failed_from, failed_fresh, failed_unless_stale, failed_by, failed_call}
use Rattle.sweep_visits.specs.Clause.{sweep_clause}
use Rattle.sweep_visits.proofs.Visiting.{sweep_shrinks}
use Rattle.sweep.specs.Sweep.{sweep_from, sweep_unless_stale, sweep_by, sweep_call}
use Rattle.set_programme.proofs.Setting.{set_tables, set_state}
use Rattle.moves.specs.Moves.{Freshness}
use Rattle.paper.specs.Stamping.{edges_from}
use Rattle.call_lists.specs.Lists.{Call, propagate, merge, stamp, failed, sweep, programme, lend, call_on, Step, step_on}
use Rattle.refinement.proofs.Held.{StampsOf, resumed_stale, propagate_spends, merge_spends, open_spends}

-- an open Propagate or Merge has no fresh stamps
pub record OpenSpent (st : State) : Type 0 where
  pub propagate : (k : ℕ) (changed : Bool) → st.pass ≡ Propagate k changed → st.fresh ≡ false
  pub merge : (k : ℕ) → st.pass ≡ Merge k → st.fresh ≡ false

pub stamps_spent : {t : Tables} {st : State} {w : Freshness} → StampsOf t st w → OpenSpent st
stamps_spent F = record { propagate = λ k changed e. resumed_stale (Propagate k changed) tt e F; merge = λ k e. resumed_stale (Merge k) tt e F }

-- the stamps were fresh before, and stand as they were
pub record Kept (t : Tables) (st : State) (t' : Tables) (st' : State) : Type 0 where
  pub fresh : st.fresh ≡ true
  pub times : t'.times ≡ t.times
  pub links : t'.links ≡ t.links
  pub variables : st'.v ≡ st.v

-- a Stamp that was accepted
pub record Stamps (c : Call) (t : Tables) (st : State) (a : After) : Type 0 where
  pub order : List ℤ
  pub call : c ≡ stamp order
  pub accepted : a.reply.number ≡ 0
  pub variables : a.state.v ≡ st.v

module _ (t : Tables) (st : State) where
  -- so if they are fresh
  abbrev Keeps : After → Type 0
  Keeps a = a.state.fresh ≡ true → Kept t st a.tables a.state

  -- where nothing changes
  unchanged : st.fresh ≡ true → Kept t st t st
  unchanged h = record { fresh = h; times = refl; links = refl; variables = refl }

  -- ---- the calls

  propagate_keeps : OpenSpent st → (steps : ℕ) → Keeps (propagate_call steps t st)
  unfolding propagate_call
  propagate_keeps F steps = by (entry_of own.Propagate t st) refl
    where
      by : (x : Result Entry Refusal) → entry_of own.Propagate t st ≡ x → Keeps (propagate_by x steps t st)
      by (Err r) q h = unchanged h
      by (Ok Opens) q h = clash h (propagate_spends st false refl steps (begin st.n t) t).fresh
      by (Ok (Resumes k changed)) q h = clash h (propagate_spends st st.fresh (F.propagate k changed (resumes_entered own.Propagate t st k changed q).pass) steps (going k changed t) t).fresh

  merge_keeps : OpenSpent st → (steps : ℕ) → Keeps (merge_call steps t st)
  unfolding merge_call merge_settled
  merge_keeps F steps = by (entry_of own.Merge t st) refl
    where
      opens : (b : Bool) → Keeps (elim b as (λ x. After) [ true ↦ refuse (Unsettled (first_unsettled t st.n + 1)) st t | false ↦ merge_open steps t st ])
      opens true h = unchanged h
      opens false h = clash h (open_spends st steps t).fresh

      by : (x : Result Entry Refusal) → entry_of own.Merge t st ≡ x → Keeps (merge_by x steps t st)
      by (Err r) q h = unchanged h
      by (Ok Opens) q h = opens (ltb (first_unsettled t st.n) st.n) h
      by (Ok (Resumes k changed)) q h = clash h (merge_spends st st.fresh (F.merge k (resumes_entered own.Merge t st k changed q).pass) steps k t).fresh

  failed_keeps : Keeps (failed_call t st)
  unfolding failed_call failed_fresh
  failed_keeps = by (opening_of t st)
    where
      unless : (b : Bool) → st.fresh ≡ b → Keeps (failed_unless_stale b t st)
      unless true e h = record { fresh = e; times = refl; links = refl; variables = same (failed_from (columns t.times t.links) (2 * st.v) st.v 0 (found t.variables 0 false)).opposite }
        where
          same : (b : Bool) → (elim b as (λ x. State) [ true ↦ marked st | false ↦ closed true st ]).v ≡ st.v
          same true = refl
          same false = refl
      unless false e h = unchanged h

      by : (x : Result (Unit {0}) Refusal) → Keeps (failed_by x t st)
      by (Err r) = unchanged
      by (Ok _) = unless st.fresh refl

  sweep_keeps : (steps : ℕ) → Keeps (sweep_call steps t st)
  unfolding sweep_call
  sweep_keeps steps = by (entry_of own.Sweep t st)
    where
      goes : st.fresh ≡ true → (k : ℕ) → Keeps (sweep_from steps k t st)
      goes e k =
          let rule = sweep_clause (columns t.times t.links) in
          let B = (visits_beside rule (sweep_shrinks (columns t.times t.links)) (min steps (st.n - k)) k t).stamps in
          advance_cases Sweep true false rule steps k t st (Keeps)
          (λ counts lt h. record { fresh = e; times = B.times; links = B.links; variables = refl })
          (λ counts done h. record { fresh = e; times = B.times; links = B.links; variables = refl })

      unless : (b : Bool) → st.fresh ≡ b → (k : ℕ) → Keeps (sweep_unless_stale b steps k t st)
      unless true e k = goes e k
      unless false e k = unchanged

      by : (x : Result Entry Refusal) → Keeps (sweep_by x steps t st)
      by (Err r) = unchanged
      by (Ok Opens) = unless st.fresh refl 0
      by (Ok (Resumes k changed)) = unless st.fresh refl k

  programme_keeps : (codes : List ℕ) → Keeps (call_on (programme codes) t st)
  programme_keeps codes h = record {
    fresh = sym (ap (λ (s : State). s.fresh) (set_state codes t st)) ∙ h;
    times = ap (λ (u : Tables). u.times) (set_tables codes t st);
    links = ap (λ (u : Tables). u.links) (set_tables codes t st);
    variables = ap (λ (s : State). s.v) (set_state codes t st);
  }

  stamp_or : (order : List ℤ) → (stamp_call order t st).state.fresh ≡ true → Stamps (stamp order) t st (stamp_call order t st) ⊎ Kept t st (stamp_call order t st).tables (stamp_call order t st).state
  stamp_or order = by (ask_of order t st) refl
    where
      So : After → Type 0
      So a = a.state.fresh ≡ true → Stamps (stamp order) t st a ⊎ Kept t st a.tables a.state

      walked : (b : Bool) → cyclic (edges_from t st) (2 * st.v) ≡ b → So (stamp_acyclic order t st)
      walked true e = subst So (sym (acyclic_no order t st e)) (λ h. inr (unchanged h))
      walked false e = subst So (sym (acyclic_yes order t st e)) (λ h. inl (record { order = order; call = refl; accepted = refl; variables = refl }))

      by : (r : Result (Unit {0}) Refusal) → ask_of order t st ≡ r → So (stamp_call order t st)
      by (Err r) e = subst So (call_refused order t st r e) (λ h. inr (unchanged h))
      by (Ok _) e = subst So (call_fit order t st e) (walked (cyclic (edges_from t st) (2 * st.v)) refl)

-- THE LAW
pub call_stamps : (c : Call) (t : Tables) (st : State) → OpenSpent st → (call_on c t st).state.fresh ≡ true → Stamps c t st (call_on c t st) ⊎ Kept t st (call_on c t st).tables (call_on c t st).state
call_stamps (propagate steps) t st F h = inr (propagate_keeps t st F steps h)
call_stamps (merge steps) t st F h = inr (merge_keeps t st F steps h)
call_stamps (stamp order) t st F h = stamp_or t st order h
call_stamps failed t st F h = inr (failed_keeps t st h)
call_stamps (sweep steps) t st F h = inr (sweep_keeps t st steps h)
call_stamps (programme codes) t st F h = inr (programme_keeps t st codes h)

-- of a step: what was not lent is as it was
pub step_stamps : (s : Step) (t : Tables) (st : State) → OpenSpent st → (step_on s t st).state.fresh ≡ true → Stamps s.call (lend s.lent t) st (call_on s.call (lend s.lent t) st) ⊎ Kept t st (step_on s t st).tables (step_on s t st).state
unfolding step_on
step_stamps s t st F h = by (call_stamps s.call (lend s.lent t) st F h)
  where
    by : Stamps s.call (lend s.lent t) st (call_on s.call (lend s.lent t) st) ⊎ Kept (lend s.lent t) st (call_on s.call (lend s.lent t) st).tables (call_on s.call (lend s.lent t) st).state
        → Stamps s.call (lend s.lent t) st (call_on s.call (lend s.lent t) st) ⊎ Kept t st (step_on s t st).tables (step_on s t st).state
    by (inl S) = inl S
    by (inr K) = inr (record {
      fresh = K.fresh;
      times = ap (λ (l : List ℕ). l ++ drop s.lent.times t.times) K.times ∙ take-append-drop s.lent.times t.times;
      links = ap (λ (l : List ℤ). l ++ drop s.lent.links t.links) K.links ∙ take-append-drop s.lent.links t.links;
      variables = K.variables;
    })
