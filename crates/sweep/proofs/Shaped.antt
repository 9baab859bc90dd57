-- THE LAW: at every stop of Sweep, refused calls included, the tables and the state keep the shape rule. Assumes nothing.
use Prim.Native.Nat.{ℕ, ◌+◌, ◌-◌, ◌≤◌, min}
use native.Mathlib.Nat.{min-le_right}
use native.Mathlib.Omega.{arith}
use mathlib.Core.Path.{◌≡◌, refl, sym, subst}
use mathlib.Core.Bool.{Bool, true, false, false≢true}
use Rattle.std.specs.Prelude.{Result, Ok, Err}
use Rattle.walk.specs.Walk.{Stamps}
use Rattle.stamp_columns.specs.Columns.{columns}
use Rattle.hidden.proofs.FreshColumns.{fresh_nested}
use Rattle.state.specs.States.{opened, closed}
use Rattle.state.specs.declared.State.{State}
use Rattle.state.specs.declared.Pass.TheVariants.{Sweep}
use Rattle.state.specs.declared.Refusal.{Refusal}
use Rattle.tables.specs.Tables.{Tables}
use Rattle.tables.specs.Fates.{visits}
use Rattle.tables.specs.Calls.{After}
use Rattle.shape.specs.Shape.{Spread, Shape}
use Rattle.entry.specs.Entry.{entry_of}
use Rattle.entry.specs.declared.PassName.TheVariants as own
use Rattle.entry.specs.declared.Entry.{Entry}
use Rattle.entry.specs.declared.Entry.TheVariants.{Opens, Resumes}
use Rattle.entry.proofs.Entering.{opens_entered, resumes_entered}
use Rattle.visits.proofs.Visiting.{Beside, visits_beside}
use Rattle.visits.proofs.StoreKeeps.{FormedIn, formed_shape_as}
use Rattle.visits.proofs.Entered.{entered_formed, entered_cursor}
use Rattle.visits.proofs.Advancing.{advance_cases}
use Rattle.sweep_visits.specs.Clause.{sweep_clause}
use Rattle.sweep_visits.proofs.Visiting.{sweep_shrinks}
use Rattle.sweep_visits.proofs.VisitKeeps.{formed_visits}
use Rattle.sweep.specs.Sweep.{sweep_from, sweep_unless_stale, sweep_by, sweep_call}

abbrev Shaped : After → Type 0
Shaped a = Shape a.tables a.state

-- ---- visits from clause k on, by fresh stamps

module _ (steps k : ℕ) (t : Tables) (st : State) (S : Shape t st) (F : FormedIn st.v st.n t) (fresh : st.fresh ≡ true) (le : k ≤ st.n) where
  abbrev σ : Stamps
  σ = columns t.times t.links

  abbrev m : ℕ
  m = min steps (st.n - k)

  abbrev t' : Tables
  t' = visits (sweep_clause σ) m k t

  B : Beside t t'
  B = visits_beside (sweep_clause σ) (sweep_shrinks σ) m k t

  F' : FormedIn st.v st.n t'
  F' = formed_visits t F σ (fresh_nested t.times t.links st.v (S.stamps fresh)) m k (omega (arith, min-le_right steps (st.n - k), le))

  -- no value changes
  values : Spread st.v t'.variables
  values = subst (Spread st.v) (sym B.variables) S.values

  pub from_shaped : Shaped (sweep_from steps k t st)
  from_shaped =
      advance_cases Sweep true false (sweep_clause σ) steps k t st Shaped
      (λ counts lt. formed_shape_as t t' (opened (Sweep (k + m)) true st) B.stamps S.long.times S.long.links (λ e. S.stamps fresh) F' values (lt, refl) S.programme)
      (λ counts done. formed_shape_as t t' (closed false st) B.stamps S.long.times S.long.links (λ e. absurd (false≢true e)) F' values tt S.programme)

-- ---- the call

pub sweep_shaped : (steps : ℕ) (t : Tables) (st : State) → Shape t st → Shaped (sweep_call steps t st)
unfolding sweep_call
sweep_shaped steps t st S = by (entry_of own.Sweep t st) refl
  where
    unless : (k : ℕ) → FormedIn st.v st.n t → k ≤ st.n → (b : Bool) → st.fresh ≡ b → Shaped (sweep_unless_stale b steps k t st)
    unless k F le true e = from_shaped steps k t st S F e le
    unless k F le false e = S

    by : (e : Result Entry Refusal) → entry_of own.Sweep t st ≡ e → Shaped (sweep_by e steps t st)
    by (Err r) q = S
    by (Ok Opens) q = unless 0 (entered_formed (opens_entered own.Sweep t st q) tt) (omega arith) st.fresh refl
    by (Ok (Resumes k changed)) q = let E = resumes_entered own.Sweep t st k changed q in unless k (entered_formed E tt) (omega (arith, (entered_cursor E).0)) st.fresh refl
