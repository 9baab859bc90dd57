-- THE LAW: Run keeps the shape rule, a refused call too. Assumes nothing.
use Prim.Native.Nat.{ℕ, zero, suc}
use mathlib.Core.Path.{◌≡◌, refl}
use mathlib.Core.Bool.{Bool, true, false, ◌||◌}
use mathlib.Core.List.{List}
use Rattle.std.specs.Prelude.{Result, Ok, Err}
use Rattle.state.specs.Programmes.{codes_of}
use Rattle.state.specs.declared.State.{State}
use Rattle.state.specs.declared.Refusal.{Refusal}
use Rattle.tables.specs.Tables.{Tables}
use Rattle.shape.specs.Shape.{Shape}
use Rattle.entry.specs.Entry.{opening_of}
use Rattle.settle.specs.Settle.{Standing}
use Rattle.settle.specs.Steps.{standing_in}
use Rattle.run.specs.Run.{round, unchanged, Rounds, rounds, run_from, run_by, run_call}
use Rattle.run.specs.Steps.{Runs}
use Rattle.run.proofs.Resting.{Rests, runs_rests}
use Rattle.run.proofs.RoundKeeps.{round_rests, round_runs}
use Rattle.run.proofs.Calling.{granted_runs}

rounds_rest : (codes : List ℕ) (m k : ℕ) (w : Standing) → Runs w → Rests (run_from codes m k w).standing
unfolding run_from
rounds_rest codes zero k w R = runs_rests R
rounds_rest codes (suc m) k w R = by (round k codes w).state.mark refl (unchanged w (round k codes w)) (rounds_rest codes m (suc k) (round k codes w))
  where
    by : (a : Bool) → (round k codes w).state.mark ≡ a → (b : Bool) → (Runs (round k codes w) → Rests (run_from codes m (suc k) (round k codes w)).standing)
        → Rests (elim (a || b) as (λ x. Rounds) [ true ↦ rounds (suc k) (round k codes w) | false ↦ run_from codes m (suc k) (round k codes w) ]).standing
    by true e b more = round_rests k codes w R
    by false e true more = round_rests k codes w R
    by false e false more = more (round_runs k codes w R e)

pub run_shaped : (count : ℕ) (t : Tables) (st : State) → Shape t st → Shape (run_call count t st).tables (run_call count t st).state
unfolding run_call
run_shaped count t st S = by (opening_of t st) refl
  where
    by : (e : Result (Unit {0}) Refusal) → opening_of t st ≡ e → Shape (run_by e count t st).tables (run_by e count t st).state
    by (Err r) q = S
    by (Ok _) q = (rounds_rest (codes_of st.programme) count 0 (standing_in t st) (granted_runs t st q)).shape
