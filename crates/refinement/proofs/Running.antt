-- Whatever programme passes, a run is a list of demand 3's calls on whole tables, each with at most 65,535 steps and none of them refused; so an accepted load and a run leave what the loaded formula says. Assumes nothing.
use Prim.Native.Nat.{ℕ, zero, suc, ◌+◌, ◌*◌, ◌≤◌}
use native.Mathlib.Omega.{arith}
use mathlib.Core.Path.{◌≡◌, refl, sym, ap, subst, ◌∙◌}
use mathlib.Core.Bool.{Bool, true, false, ◌||◌, false≢true}
use mathlib.Core.Logic.{◌↔◌}
use mathlib.Core.List.{List, [], ◌∷◌, ◌++◌}
use lib.Dec.{eqb}
use lib.IntN.{ℤ}
use Rattle.std.specs.Prelude.{Result, Ok, Err}
use Rattle.literal.specs.Assignments.{Assignment, Satisfies}
use Rattle.state.specs.Programmes.{codes_of}
use Rattle.state.specs.States.{closed, marked}
use Rattle.state.specs.declared.State.{State}
use Rattle.state.specs.declared.Pass.TheVariants.{Idle, Merge, Sweep}
use Rattle.state.specs.Answers.{reply_of}
use Rattle.state.specs.declared.Answer.TheVariants.{Set}
use Rattle.programmes.specs.Rules.{Rules}
use Rattle.programmes.specs.Judging.{fits_by, stamped_by}
use Rattle.programmes.proofs.Programmes.{Follow, rules_follow}
use Rattle.state.specs.declared.Refusal.{Refusal}
use Rattle.tables.specs.Tables.{Tables}
use Rattle.tables.specs.Stands.{Stands}
use Rattle.tables.specs.Passes.{first_unsettled}
use Rattle.tables.specs.Calls.{After}
use Rattle.entry.specs.Entry.{opening_of}
use Rattle.entry.specs.declared.PassName.TheVariants as own
use Rattle.entry.specs.declared.Entry.{Entry}
use Rattle.stamp_columns.specs.Columns.{columns}
use Rattle.visits.proofs.Advancing.{advance_cases}
use Rattle.merge.specs.Merge.{merged_classes, merge_open}
use Rattle.merge_visits.specs.Clause.{merge_clause}
use Rattle.merge.proofs.Calling.{open_cases}
use Rattle.failed.specs.Failed.{found, failed_from, failed_fresh, failed_unless_stale, failed_by, failed_call}
use Rattle.sweep.specs.Sweep.{sweep_unless_stale, sweep_by, sweep_call}
use Rattle.sweep_visits.specs.Clause.{sweep_clause}
use Rattle.set_programme.specs.SetProgramme.{set_call}
use Rattle.set_programme.proofs.Setting.{set_tables, set_state, set_shaped, set_taken}
use Rattle.settle.specs.Settle.{Standing, between, propagated, merged, grouped, settle_for, settle}
use Rattle.settle.specs.Steps.{standing_in}
use Rattle.settle.proofs.Splitting.{Calls, none, more, whole_calls}
use Rattle.round_order.specs.Order.{order_of}
use Rattle.run.specs.Run.{follow, round, unchanged, Rounds, rounds, run_from, run_reply, run_by, run_call}
use Rattle.run.specs.Steps.{Runs}
use Rattle.run.proofs.Resting.{rests_runs}
use Rattle.run.proofs.Running.{runs_opens, runs_granted, called}
use Rattle.run.proofs.Settling.{propagate_rests, propagate_settled, merge_opens, merge_rests}
use Rattle.run.proofs.RoundKeeps.{follow_runs, round_runs}
use Rattle.run.proofs.Taken.{Quiet, settle_leaves, stamp_taken}
use Rattle.run.proofs.Calling.{granted_runs, call_granted}
use Rattle.call_lists.specs.Lists.{propagate, merge, stamp, failed, sweep, Step, steps_on}
use Rattle.refinement.proofs.Made.{Made, left, joined, made_none, made_call, made_then}
use Rattle.call_lists.specs.Starts.{Started, formula, begun}
use Rattle.refinement.proofs.Starting.{started_laid, start_held}
use Rattle.refinement.proofs.Demand3 as list

few_clauses : {w : Standing} → Runs w → w.state.n ≤ 65535
few_clauses R = omega (arith, R.shape.n_limit)

-- ---- settle

calls_made : {w x : Standing} → Calls w x → Made w x
calls_made {w} none = made_none w
calls_made (more {x} C steps h taken) = made_then (calls_made C) (made_call (propagate steps) h x taken)

propagated_made : (w : Standing) → Runs w → Made w (propagated w)
propagated_made w R = calls_made (whole_calls w.tables w.state R.shape R.idle R.unmarked)

-- a Merge that refusal 6 does not stop
open_taken : (steps : ℕ) (t : Tables) (st : State) → (merge_open steps t st).reply.number ≡ 0
open_taken steps t st =
    let u = merged_classes st.v st.n t in
    open_cases steps st t (λ a. a.reply.number ≡ 0) (λ e. refl) (λ e. advance_cases Merge false false (merge_clause u.variables) steps 0 u st (λ a. a.reply.number ≡ 0) (λ counts lt. refl) (λ counts done. refl))

merged_made : (w : Standing) → Runs w → first_unsettled w.tables w.state.n ≡ w.state.n → Made w (merged w)
merged_made w R settled =
    subst (λ (a : After). Made w (between a)) (merge_opens R settled)
    (made_call (merge w.state.n) (few_clauses R) w (ap (λ (a : After). a.reply.number) (merge_opens R settled) ∙ open_taken w.state.n w.tables w.state))

settled_made : (fuel : ℕ) (w : Standing) → Runs w → Made w (settle_for fuel w)
unfolding settle_for
settled_made zero w R = made_none w
settled_made (suc fuel) w R = by (λ x Q. settled_made fuel x Q) p.state.mark refl
  where
    p : Standing
    p = propagated w

    m : Standing
    m = merged (propagated w)

    first : Made w p
    first = propagated_made w R

    by : ((x : Standing) → Runs x → Made x (settle_for fuel x)) → (b : Bool) → (propagated w).state.mark ≡ b
        → Made w (elim b as (λ x. Standing) [ true ↦ p | false ↦ elim m.state.mark as (λ x. Standing) [ true ↦ m | false ↦ elim (grouped p) as (λ x. Standing) [ true ↦ settle_for fuel m | false ↦ m ] ] ])
    by rest true e = first
    by rest false e = again (merged (propagated w)).state.mark refl (grouped (propagated w))
      where
        P : Runs p
        P = rests_runs (propagate_rests R) e

        settled : first_unsettled (propagated w).tables (propagated w).state.n ≡ (propagated w).state.n
        settled = propagate_settled R e

        second : Made w m
        second = made_then first (merged_made (propagated w) P settled)

        again : (c : Bool) → (merged (propagated w)).state.mark ≡ c → (g : Bool)
            → Made w (elim c as (λ x. Standing) [ true ↦ m | false ↦ elim g as (λ x. Standing) [ true ↦ settle_for fuel m | false ↦ m ] ])
        again true h g = second
        again false h true = made_then second (rest (merged (propagated w)) (rests_runs (merge_rests P settled) h))
        again false h false = second

-- ---- a code

-- what the codes before leave: after a settle nothing stops Stamp, and after a stamp without a settle or sweep behind it the stamps are fresh
record Ready (settled stamped : Bool) (w : Standing) : Type 0 where
  quiet : settled ≡ true → Quiet w
  fresh : stamped ≡ true → w.state.fresh ≡ true

-- what a code does, and what it leaves to the next unless the mark is set
abbrev Done : ℕ → ℕ → Bool → Standing → Type 0
Done k code stamped w = Made w (follow k code w) × ((follow k code w).state.mark ≡ false → Ready (eqb code 1) (stamped_by code stamped) (follow k code w))

module _ (k : ℕ) (w : Standing) (R : Runs w) where
  abbrev t : Tables
  t = w.tables

  abbrev st : State
  st = w.state

  abbrev order : List ℤ
  order = order_of st.v k

  settle_done : (stamped : Bool) → Done k 1 stamped w
  unfolding follow settle
  settle_done stamped = (settled_made (st.v + 1) w R, λ clear. record { quiet = λ e. settle_leaves R clear; fresh = λ e. absurd (false≢true e) })

  stamp_done : (stamped : Bool) → Quiet w → Done k 2 stamped w
  unfolding follow
  stamp_done stamped Q = (
    subst (λ (a : After). Made w (between a)) (called R order) (made_call (stamp order) tt w (ap (λ (a : After). a.reply.number) (called R order ∙ stamp_taken k R Q))),
    λ clear. record { quiet = λ e. absurd (false≢true e); fresh = λ e. ap (λ (a : After). a.state.fresh) (stamp_taken k R Q) },
  )

  failed_is : failed_call t st ≡ failed_unless_stale st.fresh t st
  unfolding failed_call
  failed_is = ap (λ (x : Result (Unit {0}) Refusal). failed_by x t st) (runs_granted R)

  failed_done : (stamped : Bool) → st.fresh ≡ true → Done k 3 stamped w
  unfolding follow failed_fresh
  failed_done stamped fresh = (
    subst (λ (a : After). Made w (between a)) failed_is (made_call failed tt w (ap (λ (a : After). a.reply.number) (failed_is ∙ ap (λ (b : Bool). failed_unless_stale b t st) fresh))),
    λ clear. record { quiet = λ e. absurd (false≢true e); fresh = λ e. left (sym (ap (λ (b : Bool). (failed_unless_stale b t st).state.mark) fresh) ∙ clear) },
  )
    where
      by : (opposite : Bool) → (elim opposite as (λ x. State) [ true ↦ marked st | false ↦ closed true st ]).mark ≡ false → (elim opposite as (λ x. State) [ true ↦ marked st | false ↦ closed true st ]).fresh ≡ true
      by true e = absurd (false≢true (sym e))
      by false e = refl

      left : (failed_fresh t st).state.mark ≡ false → (failed_unless_stale st.fresh t st).state.fresh ≡ true
      left e = ap (λ (b : Bool). (failed_unless_stale b t st).state.fresh) fresh ∙ by (failed_from (columns t.times t.links) (2 * st.v) st.v 0 (found t.variables 0 false)).opposite e

  sweep_is : sweep_call st.n t st ≡ sweep_unless_stale st.fresh st.n 0 t st
  unfolding sweep_call
  sweep_is = ap (λ (x : Result Entry Refusal). sweep_by x st.n t st) (runs_opens R own.Sweep)

  sweep_taken : (sweep_unless_stale true st.n 0 t st).reply.number ≡ 0
  sweep_taken = advance_cases Sweep true false (sweep_clause (columns t.times t.links)) st.n 0 t st (λ a. a.reply.number ≡ 0) (λ counts lt. refl) (λ counts done. refl)

  sweep_done : (stamped : Bool) → st.fresh ≡ true → Done k 4 stamped w
  unfolding follow
  sweep_done stamped fresh = (
    subst (λ (a : After). Made w (between a)) sweep_is
        (made_call (sweep st.n) (few_clauses R) w (ap (λ (a : After). a.reply.number) (sweep_is ∙ ap (λ (b : Bool). sweep_unless_stale b st.n 0 t st) fresh) ∙ sweep_taken)),
    λ clear. record { quiet = λ e. absurd (false≢true e); fresh = λ e. absurd (false≢true e) },
  )

  follow_done : (settled stamped : Bool) → Ready settled stamped w → (code : ℕ) → fits_by code settled stamped ≡ true → Done k code stamped w
  follow_done settled stamped B zero e = absurd (false≢true e)
  follow_done settled stamped B (suc zero) e = settle_done stamped
  follow_done settled stamped B (suc (suc zero)) e = stamp_done stamped (B.quiet e)
  follow_done settled stamped B (suc (suc (suc zero))) e = failed_done stamped (B.fresh e)
  follow_done settled stamped B (suc (suc (suc (suc zero)))) e = sweep_done stamped (B.fresh e)
  follow_done settled stamped B (suc (suc (suc (suc (suc _))))) e = absurd (false≢true e)

-- ---- a round

round_made : (k : ℕ) (codes : List ℕ) (settled stamped : Bool) → Follow settled stamped codes → (w : Standing) → Runs w → Ready settled stamped w → Made w (round k codes w)
unfolding round
round_made k [] settled stamped F w R B = made_none w
round_made k (code ∷ codes) settled stamped F w R B = by (follow k code w).state.mark refl (round_made k codes (eqb code 1) (stamped_by code stamped) F.1)
  where
    D : Done k code stamped w
    D = follow_done k w R settled stamped B code F.0

    by : (b : Bool) → (follow k code w).state.mark ≡ b → ((x : Standing) → Runs x → Ready (eqb code 1) (stamped_by code stamped) x → Made x (round k codes x)) → Made w (elim b as (λ z. Standing) [ true ↦ follow k code w | false ↦ round k codes (follow k code w) ])
    by true e rest = D.0
    by false e rest = made_then D.0 (rest (follow k code w) (follow_runs k code R e) (D.1 e))

-- ---- the run

run_made : (codes : List ℕ) → Follow false false codes → (m k : ℕ) (w : Standing) → Runs w → Made w (run_from codes m k w).standing
unfolding run_from
run_made codes F zero k w R = made_none w
run_made codes F (suc m) k w R = by (round k codes w).state.mark refl (unchanged w (round k codes w)) (λ x Q. run_made codes F m (suc k) x Q)
  where
    one : Made w (round k codes w)
    one = round_made k codes false false F w R (record { quiet = λ e. absurd (false≢true e); fresh = λ e. absurd (false≢true e) })

    by : (b : Bool) → (round k codes w).state.mark ≡ b → (c : Bool) → ((x : Standing) → Runs x → Made x (run_from codes m (suc k) x).standing)
        → Made w (elim (b || c) as (λ z. Rounds) [ true ↦ rounds (suc k) (round k codes w) | false ↦ run_from codes m (suc k) (round k codes w) ]).standing
    by true e c rest = one
    by false e true rest = one
    by false e false rest = made_then one (rest (round k codes w) (round_runs k codes w R e))

-- THE THEOREM: a call of Run, refused or not, is a list of calls, none of which is refused, whatever programme the state has: the shape rule has seen that it passes
pub run_calls : (count : ℕ) (t : Tables) (st : State) → Made (standing_in t st) (between (run_call count t st))
unfolding run_call
run_calls count t st = by (opening_of t st) refl
  where
    by : (x : Result (Unit {0}) Refusal) → opening_of t st ≡ x → Made (standing_in t st) (between (run_by x count t st))
    by (Err r) e = made_none (standing_in t st)
    by (Ok _) e = let R = granted_runs t st e in run_made (codes_of st.programme) (rules_follow (codes_of st.programme) R.shape.programme.rules) count 0 (standing_in t st) R

-- so demand 3 holds of it: an accepted load or join, any list of calls, programmes set among them, and a run
module _ (b : Started) where
  abbrev loaded : Standing
  loaded = between (begun b)

  abbrev called_on : List Step → Standing
  called_on ss = left (steps_on ss loaded.tables loaded.state)

  pub runs_keep : (ss : List Step) (count : ℕ) (τ : Assignment) → let w = called_on ss in Stands (run_call count w.tables w.state).tables (run_call count w.tables w.state).state τ ↔ Satisfies τ (formula b)
  runs_keep ss count τ =
      let w = called_on ss in
      let M = run_calls count w.tables w.state in
      subst (λ (x : Standing). Stands x.tables x.state τ ↔ Satisfies τ (formula b)) (joined ss M.calls loaded.tables loaded.state ∙ M.ends) (list.demand_3 b (ss ++ M.calls) τ)

  -- a run behind the load, by the constant programme
  pub run_keeps : (count : ℕ) (τ : Assignment) → Stands (run_call count loaded.tables loaded.state).tables (run_call count loaded.tables loaded.state).state τ ↔ Satisfies τ (formula b)
  unfolding steps_on
  run_keeps count τ = runs_keep [] count τ

  -- it is not refused, unless the load has set the mark
  loaded_runs : loaded.state.mark ≡ false → Runs loaded
  loaded_runs clear =
      let idle : loaded.state.pass ≡ Idle = ap (λ (a : After). a.state.pass) (started_laid b).is in
      record { shape = (start_held b).shape; idle = idle; unmarked = clear }

  pub run_taken : loaded.state.mark ≡ false → opening_of loaded.tables loaded.state ≡ Ok tt
  run_taken clear = runs_granted (loaded_runs clear)

  -- a programme that keeps the rules, set behind the load: it is set, no table changes, and a run is made and follows it
  module _ (codes : List ℕ) (R : Rules codes) where
    abbrev set : Standing
    set = between (set_call codes loaded.tables loaded.state)

    pub own_set : ((set_call codes loaded.tables loaded.state).reply ≡ reply_of (Ok Set)) × (set.tables ≡ loaded.tables)
    own_set = ((set_taken codes loaded.tables loaded.state (start_held b).shape R).0, set_tables codes loaded.tables loaded.state)

    pub own_run : loaded.state.mark ≡ false → (count : ℕ) → run_call count set.tables set.state ≡ run_reply (run_from codes count 0 set)
    own_run clear count =
        sym (call_granted count set.tables set.state (runs_granted runs))
        ∙ ap (λ (l : List ℕ). run_reply (run_from l count 0 set)) (set_taken codes loaded.tables loaded.state (start_held b).shape R).1
      where
        runs : Runs set
        runs =
            let L = loaded_runs clear in
            let same = set_state codes loaded.tables loaded.state in
            record { shape = set_shaped codes loaded.tables loaded.state L.shape; idle = ap (λ (x : State). x.pass) same ∙ L.idle; unmarked = ap (λ (x : State). x.mark) same ∙ L.unmarked }
