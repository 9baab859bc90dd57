-- The call: a call that is not refused finds what a run needs, and each way of its entry is a way of `run_call`. Assumes nothing.
use Prim.Native.Nat.{ℕ}
use mathlib.Core.Path.{◌≡◌, sym, ap}
use Rattle.std.specs.Prelude.{Result, Ok, Err}
use Rattle.state.specs.Programmes.{codes_of}
use Rattle.state.specs.declared.State.{State}
use Rattle.state.specs.declared.Refusal.{Refusal}
use Rattle.tables.specs.Tables.{Tables}
use Rattle.tables.specs.Calls.{refuse}
use Rattle.entry.specs.Entry.{opening_of}
use Rattle.entry.proofs.Entering.{granted_entered}
use Rattle.settle.specs.Steps.{standing_in}
use Rattle.run.specs.Run.{run_from, run_reply, run_by, run_call}
use Rattle.run.specs.Steps.{Runs}

pub granted_runs : (t : Tables) (st : State) → opening_of t st ≡ Ok tt → Runs (standing_in t st)
granted_runs t st e = let E = granted_entered t st e in record { shape = E.shape; idle = E.pass; unmarked = E.unmarked }

module _ (count : ℕ) (t : Tables) (st : State) where
  pub call_refused : (r : Refusal) → opening_of t st ≡ Err r → refuse r st t ≡ run_call count t st
  unfolding run_call
  call_refused r e = ap (λ (x : Result (Unit {0}) Refusal). run_by x count t st) (sym e)

  pub call_granted : opening_of t st ≡ Ok tt → run_reply (run_from (codes_of st.programme) count 0 (standing_in t st)) ≡ run_call count t st
  unfolding run_call
  call_granted e = ap (λ (x : Result (Unit {0}) Refusal). run_by x count t st) (sym e)
