-- The call: its answer by what it found, and each way of its entry is a way of `failed_call`. Assumes nothing.
use Prim.Native.Nat.{◌*◌}
use native.Mathlib.Omega.{arith}
use mathlib.Core.Path.{◌≡◌, sym, ap, subst}
use mathlib.Core.Bool.{true, false}
use mathlib.Core.List.{List}
use lib.IntN.{ℤ}
use Rattle.std.specs.Prelude.{Result, Ok, Err}
use Rattle.stamp_columns.specs.Columns.{columns}
use Rattle.state.specs.declared.State.{State}
use Rattle.state.specs.declared.Refusal.{Refusal}
use Rattle.state.specs.declared.Answer.TheVariants.{Failed}
use Rattle.tables.specs.Tables.{Tables, with_variables}
use Rattle.tables.specs.Calls.{answered, refuse}
use Rattle.shape.specs.Shape.{Shape}
use Rattle.entry.specs.Entry.{opening_of}
use Rattle.entry.proofs.Entering.{granted_entered}
use Rattle.visits.specs.Formed.{Variables}
use Rattle.visits.proofs.Entered.{entered_formed}
use Rattle.spread.specs.Spread.{spread_behind}
use Rattle.failed.specs.Failed.{Found, found, failed_from, state_after, failed_reply, failed_fresh, failed_unless_stale, failed_by, failed_call}
use Rattle.failed.specs.Steps.{found_of, FullStamps, Callable}
use Rattle.failed.specs.declared.Tally.{Tally}
use Rattle.failed.proofs.Valuing.{failed_kept}

-- the shape rule says of fresh stamps what the functions ask
pub shape_stamped : {t : Tables} {st : State} → Shape t st → st.fresh ≡ true → FullStamps st.v t.times t.links
shape_stamped S f = record { few = S.v_limit; times_room = S.long.times; links_room = S.long.links; fresh = S.stamps f }

-- ---- the answer

module _ (t : Tables) (st : State) (r : Tally) (vs : List ℤ) (is : found_of r vs ≡ failed_from (columns t.times t.links) (2 * st.v) st.v 0 (found t.variables 0 false)) where
  pub fresh_replied : spread_behind st.v (answered (Failed r.set) (state_after r.opposite st) (with_variables vs t)) ≡ failed_fresh t st
  unfolding failed_fresh
  fresh_replied = ap (λ (f : Found). spread_behind st.v (failed_reply f t st)) is

  -- the records before the values are spread
  pub found_rows : FullStamps st.v t.times t.links → Variables st.v t.variables → Variables st.v vs
  found_rows S R = subst (Variables st.v) (sym (ap (λ (f : Found). f.variables) is)) (failed_kept S st.v 0 (omega arith) (found t.variables 0 false) R).rows

-- ---- the two ways of the call

module _ (t : Tables) (st : State) where
  pub call_refused : (r : Refusal) → opening_of t st ≡ Err r → refuse r st t ≡ failed_call t st
  unfolding failed_call
  call_refused r e = ap (λ (x : Result (Unit {0}) Refusal). failed_by x t st) (sym e)

  pub call_granted : opening_of t st ≡ Ok tt → failed_unless_stale st.fresh t st ≡ failed_call t st
  unfolding failed_call
  call_granted e = ap (λ (x : Result (Unit {0}) Refusal). failed_by x t st) (sym e)

  pub granted_callable : opening_of t st ≡ Ok tt → Callable st t.variables t.times t.links
  granted_callable e = let E = granted_entered t st e in record { rows = (entered_formed E tt).vars; stamped = shape_stamped E.shape }
