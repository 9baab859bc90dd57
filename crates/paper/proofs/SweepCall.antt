-- THE THEOREM on a call of Sweep: an accepted call leaves of each clause that it visits what figures 5 and 6 leave, and the others as they were. Assumes nothing.
use Prim.Native.Nat.{ℕ, ◌+◌, ◌-◌, ◌≤◌, min}
use native.Mathlib.Nat.{min-le_right}
use native.Mathlib.Omega.{arith}
use mathlib.Core.Path.{◌≡◌, refl, ap, subst}
use mathlib.Core.Bool.{Bool, true, false}
use Rattle.std.specs.Prelude.{Result, Ok, Err}
use Rattle.stamp_columns.specs.Columns.{columns}
use Rattle.state.specs.declared.State.{State}
use Rattle.state.specs.declared.Pass.{Pass}
use Rattle.state.specs.declared.Pass.TheVariants.{Sweep}
use Rattle.state.specs.declared.Refusal.{Refusal}
use Rattle.tables.specs.Tables.{Tables}
use Rattle.tables.specs.Fates.{visits}
use Rattle.tables.specs.Calls.{After}
use Rattle.entry.specs.Entry.{entry_of}
use Rattle.entry.specs.declared.PassName.TheVariants as own
use Rattle.entry.specs.declared.Entry.{Entry}
use Rattle.entry.specs.declared.Entry.TheVariants.{Opens, Resumes}
use Rattle.entry.proofs.Entering.{Entered, opens_entered, resumes_entered}
use Rattle.visits.proofs.Entered.{NoMerge, entered_formed, entered_cursor}
use Rattle.visits.proofs.Visiting.{visits_beside}
use Rattle.visits.proofs.Advancing.{advance_cases}
use Rattle.sweep.specs.Sweep.{sweep_from, sweep_unless_stale, sweep_by, sweep_call}
use Rattle.sweep_visits.specs.Clause.{sweep_clause}
use Rattle.sweep_visits.proofs.Visiting.{sweep_shrinks}
use Rattle.paper.specs.Sweeping.{swept_from, SweptCall}
use Rattle.paper.proofs.Accepted.{refusal_above}
use Rattle.paper.proofs.Visits.{visits_others, visits_swept}

pub sweep_call_lem : (steps : ℕ) (t : Tables) (st : State) → (sweep_call steps t st).reply.number ≡ 0 → SweptCall steps t st (sweep_call steps t st).tables
unfolding sweep_call
sweep_call_lem steps t st = by (entry_of own.Sweep t st) refl
  where
    So : After → Type 0
    So a = a.reply.number ≡ 0 → SweptCall steps t st a.tables

    fresh : {p : Pass} → Entered p t st → NoMerge p → swept_from p ≤ st.n → st.fresh ≡ true → So (sweep_from steps (swept_from st.pass) t st)
    fresh E d le e =
        let k : ℕ = swept_from st.pass in
        let m : ℕ = min steps (st.n - k) in
        let S = E.shape.stamps e in
        let B = (visits_beside (sweep_clause (columns t.times t.links)) (sweep_shrinks (columns t.times t.links)) m k t).stamps in
        let F = entered_formed E d in
        let ends : k + m ≤ st.n = omega (arith, min-le_right steps (st.n - k), le, ap swept_from E.pass) in
        let swept : SweptCall steps t st (visits (sweep_clause (columns t.times t.links)) m k t) = record { visited = visits_swept t st.v S m k ends t F; others = visits_others t st.v S m k ends t F; times = B.times; links = B.links } in
        advance_cases Sweep true false (sweep_clause (columns t.times t.links)) steps k t st So (λ counts lt taken. swept) (λ counts done taken. swept)

    unless : {p : Pass} → Entered p t st → NoMerge p → swept_from p ≤ st.n → (b : Bool) → st.fresh ≡ b → So (sweep_unless_stale b steps (swept_from st.pass) t st)
    unless E d le true e = fresh E d le e
    unless E d le false e = λ taken. absurd (omega arith)

    -- where the visits begin is what the entry says
    begun : {p : Pass} → Entered p t st → NoMerge p → swept_from p ≤ st.n → So (sweep_unless_stale st.fresh steps (swept_from p) t st)
    begun E d le = subst (λ (k : ℕ). So (sweep_unless_stale st.fresh steps k t st)) (ap swept_from E.pass) (unless E d le st.fresh refl)

    by : (x : Result Entry Refusal) → entry_of own.Sweep t st ≡ x → So (sweep_by x steps t st)
    by (Err r) q = λ taken. absurd (refusal_above r taken)
    by (Ok Opens) q = begun (opens_entered own.Sweep t st q) tt (omega arith)
    by (Ok (Resumes k changed)) q = let E = resumes_entered own.Sweep t st k changed q in begun E tt (omega (arith, (entered_cursor E).0))
