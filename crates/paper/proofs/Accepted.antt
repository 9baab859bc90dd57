-- An accepted Stamp was fit, found no cycle and wrote its records. Assumes nothing.
use Prim.Native.Nat.{◌*◌}
use native.Mathlib.Omega.{arith}
use mathlib.Core.Path.{◌≡◌, refl, sym, ap, ◌∙◌}
use mathlib.Core.Bool.{Bool, true, false}
use mathlib.Core.List.{List}
use lib.IntN.{ℤ}
use Rattle.std.specs.Prelude.{Result, Ok, Err}
use Rattle.scc.specs.Groups.{cyclic}
use Rattle.state.specs.Answers.{refusal_number}
use Rattle.state.specs.declared.State.{State}
use Rattle.state.specs.declared.Refusal.{Refusal}
use Rattle.state.specs.declared.Refusal.TheVariants.{Cyclic}
use Rattle.state.proofs.Numbers.{number_bounds}
use Rattle.tables.specs.Tables.{Tables}
use Rattle.tables.specs.Calls.{After}
use Rattle.stamp.specs.Stamp.{stamp_fresh, stamp_call}
use Rattle.stamp.specs.Asking.{ask_of}
use Rattle.stamp.proofs.Asking.{Known, fit_known, call_refused, call_fit, acyclic_no, acyclic_yes}
use Rattle.paper.specs.Stamping.{edges_from}

-- no refusal has number 0
pub refusal_above : (r : Refusal) → refusal_number r ≡ 0 → ⊥
refusal_above r e = omega (arith, number_bounds r, e)

pub record Accepted (order : List ℤ) (t : Tables) (st : State) : Type 0 where
  pub known : Known order t st
  pub acyclic : cyclic (edges_from t st) (2 * st.v) ≡ false
  pub answer : stamp_call order t st ≡ stamp_fresh order t st

pub accepted : (order : List ℤ) (t : Tables) (st : State) → (stamp_call order t st).reply.number ≡ 0 → Accepted order t st
accepted order t st taken = by (ask_of order t st) refl
  where
    refused : (r : Refusal) → (stamp_call order t st).reply.number ≡ refusal_number r → Accepted order t st
    refused r e = absurd (refusal_above r (sym e ∙ taken))

    by : (r : Result (Unit {0}) Refusal) → ask_of order t st ≡ r → Accepted order t st
    by (Err r) e = refused r (ap (λ (a : After). a.reply.number) (sym (call_refused order t st r e)))
    by (Ok _) e = go (cyclic (edges_from t st) (2 * st.v)) refl
      where
        go : (b : Bool) → cyclic (edges_from t st) (2 * st.v) ≡ b → Accepted order t st
        go true c = refused Cyclic (ap (λ (a : After). a.reply.number) (sym (call_fit order t st e) ∙ acyclic_no order t st c))
        go false c = record { known = fit_known t st order e; acyclic = c; answer = sym (call_fit order t st e) ∙ acyclic_yes order t st c }
