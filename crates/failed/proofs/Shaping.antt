-- Failed keeps the shape rule: it sets values only, each at a variable that is its own class, and then spreads them.
--     fresh_shape      on fresh stamps
--     failed_shape     the whole call
-- Assumes nothing.
use Prim.Native.Nat.{◌*◌}
use native.Mathlib.Omega.{arith}
use mathlib.Core.Path.{◌≡◌, refl}
use mathlib.Core.Bool.{Bool, true, false}
use Rattle.std.specs.Prelude.{Result, Ok, Err}
use Rattle.stamp_columns.specs.Columns.{columns}
use Rattle.state.specs.States.{closed, marked}
use Rattle.state.specs.declared.State.{State}
use Rattle.programmes.specs.Rules.{Passing}
use Rattle.state.specs.declared.Pass.TheVariants.{Idle}
use Rattle.state.specs.declared.Refusal.{Refusal}
use Rattle.tables.specs.Tables.{Tables, with_variables}
use Rattle.shape.specs.Shape.{Shape}
use Rattle.entry.specs.Entry.{opening_of}
use Rattle.entry.proofs.Entering.{Entered, granted_entered}
use Rattle.visits.specs.Formed.{Formed}
use Rattle.visits.proofs.Forming.{formed_values, formed_marked, formed_shape}
use Rattle.visits.proofs.Entered.{entered_formed}
use Rattle.spread.specs.Spread.{spread}
use Rattle.spread.proofs.Spreading.{spread_done, spread_formed}
use Rattle.failed.specs.Failed.{Found, found, failed_from, failed_fresh, failed_unless_stale, failed_by, failed_call}
use Rattle.failed.specs.Steps.{FullStamps}
use Rattle.failed.proofs.Valuing.{Kept, failed_kept}
use Rattle.failed.proofs.Calling.{shape_stamped}

module _ (t : Tables) (st : State) where
  pub fresh_shape : Formed st.v st.n st.n false t.clauses t.literals t.variables → FullStamps st.v t.times t.links → Passing st.programme → Shape (failed_fresh t st).tables (failed_fresh t st).state
  unfolding failed_fresh
  fresh_shape F S P = go f.opposite
    where
      f : Found
      f = failed_from (columns t.times t.links) (2 * st.v) st.v 0 (found t.variables 0 false)

      K : Kept st.v t.variables f.variables
      K = failed_kept S st.v 0 (omega arith) (found t.variables 0 false) F.vars

      after : Tables
      after = with_variables (spread st.v f.variables) t

      G : Formed st.v st.n st.n false t.clauses t.literals (spread st.v f.variables)
      G = spread_formed (formed_values F K.classes K.rows)

      go : (b : Bool) → Shape after (elim b as (λ x. State) [ true ↦ marked st | false ↦ closed true st ])
      go true = formed_shape after (marked st) (formed_marked G) S.times_room S.links_room (spread_done K.rows) tt (λ e. S.fresh) P
      go false = formed_shape after (closed true st) G S.times_room S.links_room (spread_done K.rows) tt (λ e. S.fresh) P

  entered_shape : Entered Idle t st → (b : Bool) → st.fresh ≡ b → Shape (failed_unless_stale b t st).tables (failed_unless_stale b t st).state
  entered_shape E true e = fresh_shape (entered_formed E tt) (shape_stamped E.shape e) E.shape.programme
  entered_shape E false e = E.shape

  pub failed_shape : Shape t st → Shape (failed_call t st).tables (failed_call t st).state
  unfolding failed_call
  failed_shape S = go (opening_of t st) refl
    where
      go : (x : Result (Unit {0}) Refusal) → opening_of t st ≡ x → Shape (failed_by x t st).tables (failed_by x t st).state
      go (Err r) e = S
      go (Ok _) e = entered_shape (granted_entered t st e) st.fresh refl
