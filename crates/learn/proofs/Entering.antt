-- The call of a learnt clause, by what the tests of its refusals have shown. Assumes nothing.
use Prim.Native.Nat.{ℕ}
use native.Mathlib.Omega.{arith}
use mathlib.Core.Path.{◌≡◌, sym, ap, ◌∙◌}
use mathlib.Core.Bool.{Bool, true, false}
use mathlib.Core.List.{List}
use lib.IntN.{ℤ}
use Rattle.std.specs.Prelude.{Result, Ok, Err}
use Rattle.base.specs.Decide.{Decides}
use Rattle.hidden_tautologies.specs.Judged.{Judged}
use Rattle.stamp_columns.specs.Columns.{columns}
use Rattle.state.specs.declared.State.{State}
use Rattle.state.specs.declared.Refusal.{Refusal}
use Rattle.state.specs.declared.Refusal.TheVariants as refusal
use Rattle.tables.specs.Tables.{Tables}
use Rattle.shape.specs.Shape.{Shape}
use Rattle.shape.specs.Decision.{shape_ok}
use Rattle.shape.proofs.Reading.{shaped}
use Rattle.entry.specs.Entry.{opening_by}
use Rattle.sweep_visits.specs.Clause.{sweep_clause}
use Rattle.window.specs.Window.{Places, AfterWindow, refuse_with}
use Rattle.window.specs.Rule.{Newcomer, WindowRule, learnable_agrees, window_ok, window_agrees}
use Rattle.learn.specs.Learn.{learn_by, learn_if, learn_unless_stale, learn_opening, learn_ruled, learn_call}
use Rattle.learn.specs.Ready.{Ready}
use Rattle.learn.proofs.Cases.{newcomer_fits}

-- what the shape rule leaves to the call
pub ready : (t : Tables) (st : State) → shape_ok t st ≡ true → Ready t.variables t.times t.links st
ready t st e = record {
  few = S.v_limit;
  room = omega (arith, S.v_limit, S.long.variables);
  long = S.long.times;
  stamped = λ fresh. record { few = S.v_limit; timed = omega (arith, S.v_limit, S.long.times); linked = omega (arith, S.v_limit, S.long.links); fresh = S.stamps fresh };
}
  where
    S : Shape t st
    S = shaped t st e

-- a newcomer that can be judged
pub can_judge : {variables : List ℤ} {times : List ℕ} {links : List ℤ} {st : State} (C : List ℤ) → Ready variables times links st → st.fresh ≡ true → Newcomer st.v C → Judged times links C
can_judge {st = st} C R fresh N = record { vars = st.v; stamped = R.stamped fresh; long = R.long; each = (newcomer_fits N).ranged }

module _ (C : List ℤ) (t : Tables) (st : State) (w : Places) where
  -- ---- 9 and 11

  pub stale_is : st.fresh ≡ false → refuse_with refusal.Stale t st w ≡ learn_unless_stale st.fresh C t st w
  stale_is e = ap (λ (b : Bool). learn_unless_stale b C t st w) (sym e)

  module _ (fresh : st.fresh ≡ true) {b : Bool} (tested : Decides b (Newcomer st.v C)) where
    fresh_is : (x : Bool) → b ≡ x → learn_if x C t st w ≡ learn_unless_stale st.fresh C t st w
    fresh_is x e = ap (λ (y : Bool). learn_if y C t st w) (sym e ∙ learnable_agrees st.v C tested) ∙ ap (λ (y : Bool). learn_unless_stale y C t st w) (sym fresh)

    pub forbidden_is : b ≡ false → refuse_with refusal.Newcomer t st w ≡ learn_unless_stale st.fresh C t st w
    forbidden_is e = fresh_is false e

    pub judged_is : b ≡ true → learn_by (sweep_clause (columns t.times t.links) C) C t st w ≡ learn_unless_stale st.fresh C t st w
    judged_is e = fresh_is true e

  -- ---- 1, 4 and 5

  call_by : (x : Bool) → x ≡ shape_ok t st → elim x as (λ y. AfterWindow) [ true ↦ learn_ruled (window_ok st.v w) C t st w | false ↦ refuse_with refusal.Shape t st w ] ≡ learn_call C t st w
  unfolding learn_call
  call_by x e = ap (λ (y : Bool). elim y as (λ z. AfterWindow) [ true ↦ learn_ruled (window_ok st.v w) C t st w | false ↦ refuse_with refusal.Shape t st w ]) e

  pub call_misshapen : shape_ok t st ≡ false → refuse_with refusal.Shape t st w ≡ learn_call C t st w
  call_misshapen e = call_by false (sym e)

  module _ (shape : shape_ok t st ≡ true) {b : Bool} (tested : Decides b (WindowRule st.v w)) where
    ruled_by : (x : Bool) → b ≡ x → learn_ruled x C t st w ≡ learn_call C t st w
    ruled_by x e = ap (λ (y : Bool). learn_ruled y C t st w) (sym e ∙ window_agrees st.v w tested) ∙ call_by true (sym shape)

    pub call_unruled : b ≡ false → refuse_with refusal.Shape t st w ≡ learn_call C t st w
    call_unruled e = ruled_by false e

    module _ (rule : b ≡ true) (o : Result (Unit {0}) Refusal) (is : o ≡ opening_by st.pass st.mark) where
      opening_is : (p : Result (Unit {0}) Refusal) → o ≡ p → learn_opening p C t st w ≡ learn_call C t st w
      opening_is p e = ap (λ (q : Result (Unit {0}) Refusal). learn_opening q C t st w) (sym e ∙ is) ∙ ruled_by true rule

      pub call_denied : (r : Refusal) → o ≡ Err r → refuse_with r t st w ≡ learn_call C t st w
      call_denied r e = opening_is (Err r) e

      pub call_granted : o ≡ Ok tt → learn_unless_stale st.fresh C t st w ≡ learn_call C t st w
      call_granted e = opening_is (Ok tt) e
