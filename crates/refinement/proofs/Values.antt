-- THE LAW of change request 4: "The value of v is that of its class literal, sign included, after every accepted call." For any tables, state, step count and order; a refused call changes nothing.
--     call_values    Propagate, Merge, Stamp, Failed and Sweep, wherever they stop
--     run_values     Run
--     start_values   a load, a join
-- Assumes nothing.
use Prim.Native.Nat.{ℕ}
use native.Mathlib.Omega.{arith}
use mathlib.Core.Path.{◌≡◌, refl, sym, ap, ◌∙◌}
use mathlib.Core.Bool.{Bool, true, false}
use Rattle.std.specs.Prelude.{Result}
use Rattle.state.specs.declared.State.{State}
use Rattle.state.specs.declared.Refusal.{Refusal}
use Rattle.state.specs.declared.Refusal.TheVariants as refusal
use Rattle.tables.specs.Tables.{Tables}
use Rattle.tables.specs.Calls.{After, refuse}
use Rattle.shape.specs.Shape.{Spread, Shape}
use Rattle.shape.specs.Decision.{shape_ok}
use Rattle.shape.proofs.Reading.{shaped}
use Rattle.entry.proofs.Entering.{opening_misshapen}
use Rattle.propagate.proofs.Shaped.{propagate_shaped}
use Rattle.merge.proofs.Shaped.{merge_shaped}
use Rattle.stamp.proofs.Shaped.{stamp_shaped}
use Rattle.failed.proofs.Shaping.{failed_shape}
use Rattle.sweep.proofs.Shaped.{sweep_shaped}
use Rattle.set_programme.proofs.Setting.{set_shaped}
use Rattle.run.specs.Run.{run_by, run_call}
use Rattle.run.proofs.Shaped.{run_shaped}
use Rattle.call_lists.specs.Lists.{Call, propagate, merge, stamp, failed, sweep, programme, call_on}
use Rattle.call_lists.specs.Starts.{Started, begun}
use Rattle.refinement.proofs.Starting.{start_held}
use Rattle.refinement.proofs.Demand3.{call_refused}

-- no refusal: its number is 0
abbrev pub Accepted : After → Type 0
Accepted a = a.reply.number ≡ 0

-- a call that is accepted was given tables that keep the shape rule
module _ (t : Tables) (st : State) (a : After) (misshapen : shape_ok t st ≡ false → a ≡ refuse refusal.Shape st t) where
  accepted_shape : Accepted a → Shape t st
  accepted_shape h = by (shape_ok t st) refl
    where
      by : (b : Bool) → shape_ok t st ≡ b → Shape t st
      by true e = shaped t st e
      by false e = absurd (let one : 1 ≡ 0 = sym (ap (λ (x : After). x.reply.number) (misshapen e)) ∙ h in omega (arith, one))

-- ---- the five passes

pub call_shaped : (c : Call) (t : Tables) (st : State) → Shape t st → Shape (call_on c t st).tables (call_on c t st).state
call_shaped (propagate steps) t st S = propagate_shaped steps t st S
call_shaped (merge steps) t st S = merge_shaped steps t st S
call_shaped (stamp order) t st S = stamp_shaped order t st S
call_shaped failed t st S = failed_shape t st S
call_shaped (sweep steps) t st S = sweep_shaped steps t st S
call_shaped (programme codes) t st S = set_shaped codes t st S

pub call_values : (c : Call) (t : Tables) (st : State) → Accepted (call_on c t st) → Spread (call_on c t st).state.v (call_on c t st).tables.variables
call_values c t st h = (call_shaped c t st (accepted_shape t st (call_on c t st) (call_refused c t st) h)).values

-- ---- Run, a load and a join

pub run_values : (count : ℕ) (t : Tables) (st : State) → Accepted (run_call count t st) → Spread (run_call count t st).state.v (run_call count t st).tables.variables
unfolding run_call
run_values count t st h = (run_shaped count t st (accepted_shape t st (run_call count t st) (λ e. ap (λ (x : Result (Unit {0}) Refusal). run_by x count t st) (opening_misshapen t st e)) h)).values

pub start_values : (b : Started) → Spread (begun b).state.v (begun b).tables.variables
start_values b = (start_held b).shape.values
