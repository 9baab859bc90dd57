-- What the entry test leaves to Sweep: with fresh stamps the tables are ready. Assumes nothing.
use Prim.Native.Nat.{ℕ}
use native.Mathlib.Omega.{arith}
use mathlib.Core.Path.{◌≡◌, sym, ap, ◌∙◌}
use mathlib.Core.Bool.{Bool, true, false}
use Rattle.std.specs.Prelude.{Result, Ok, Err}
use Rattle.state.specs.declared.State.{State}
use Rattle.state.specs.declared.Pass.{Pass}
use Rattle.state.specs.declared.Refusal.{Refusal}
use Rattle.state.specs.declared.Refusal.TheVariants.{Stale}
use Rattle.tables.specs.Tables.{Tables}
use Rattle.tables.specs.Calls.{refuse}
use Rattle.shape.specs.Shape as rule
use Rattle.entry.specs.Entry.{entry_of}
use Rattle.entry.specs.declared.PassName.TheVariants as own
use Rattle.entry.specs.declared.Entry.{Entry}
use Rattle.entry.specs.declared.Entry.TheVariants.{Opens, Resumes}
use Rattle.entry.proofs.Entering.{Entered}
use Rattle.visits.proofs.Entered.{NoMerge, entered_formed}
use Rattle.sweep.specs.Sweep.{sweep_from, sweep_unless_stale, sweep_by, sweep_call}
use Rattle.sweep_visits.specs.Visits.{Sweepable}

pub entered_sweepable : {p : Pass} {t : Tables} {st : State} → Entered p t st → NoMerge p → st.fresh ≡ true → Sweepable st.n t.clauses t.literals t.times t.links
entered_sweepable {p} {t} {st} E other fresh = record {
  vars = st.v;
  variables = t.variables;
  formed = entered_formed E other;
  stamped = record { few = S.v_limit; timed = omega (arith, S.v_limit, S.long.times); linked = omega (arith, S.v_limit, S.long.links); fresh = S.stamps fresh };
  long = S.long.times;
}
  where
    S : rule.Shape t st
    S = E.shape

-- ---- the call, by its entry

module _ (n : ℕ) (t : Tables) (st : State) where
  pub stale_is : (k : ℕ) → st.fresh ≡ false → refuse Stale st t ≡ sweep_unless_stale st.fresh n k t st
  stale_is k e = ap (λ (b : Bool). sweep_unless_stale b n k t st) (sym e)

  pub fresh_is : (k : ℕ) → st.fresh ≡ true → sweep_from n k t st ≡ sweep_unless_stale st.fresh n k t st
  fresh_is k e = ap (λ (b : Bool). sweep_unless_stale b n k t st) (sym e)

  call_by : (e : Result Entry Refusal) → e ≡ entry_of own.Sweep t st → sweep_by e n t st ≡ sweep_call n t st
  unfolding sweep_call
  call_by e h = ap (λ (x : Result Entry Refusal). sweep_by x n t st) h

  module _ (e : Result Entry Refusal) (h : e ≡ entry_of own.Sweep t st) where
    pub call_refused : (r : Refusal) → e ≡ Err r → refuse r st t ≡ sweep_call n t st
    call_refused r told = call_by (Err r) (sym told ∙ h)

    pub call_opens : e ≡ Ok Opens → sweep_unless_stale st.fresh n 0 t st ≡ sweep_call n t st
    call_opens told = call_by (Ok Opens) (sym told ∙ h)

    pub call_resumes : (k : ℕ) (changed : Bool) → e ≡ Ok (Resumes k changed) → sweep_unless_stale st.fresh n k t st ≡ sweep_call n t st
    call_resumes k changed told = call_by (Ok (Resumes k changed)) (sym told ∙ h)
