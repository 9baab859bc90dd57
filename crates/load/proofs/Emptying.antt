-- A call with the window, by the test of the window's lengths and by what the call on the tables answers: for a load and for a join. Assumes nothing.
use Prim.Native.Nat.{ℕ, zero, suc, ◌<◌}
use native.Mathlib.Omega.{arith}
use mathlib.Core.Path.{◌≡◌, refl, sym, ap, ◌∙◌}
use mathlib.Core.Bool.{Bool, true, false}
use mathlib.Core.List.{List}
use lib.IntN.{ℤ, pos}
use Rattle.base.specs.Decide.{Decides}
use Rattle.state.specs.declared.State.{State}
use Rattle.state.specs.declared.Refusal.TheVariants.{Shape}
use Rattle.tables.specs.Tables.{Tables}
use Rattle.tables.specs.Calls.{After}
use Rattle.window.specs.declared.Window.{Window}
use Rattle.window.specs.Window.{Places, places, window_of, emptied, AfterWindow, after_window, refuse_with}
use Rattle.window.specs.Rule.{LongWindow, long_agrees}
use Rattle.load.specs.Load.{emptied_by, emptying, with_window}
use Rattle.load.specs.Laid.{cleared}

-- by the test of the window's lengths
module _ (call : After) (t : Tables) (st : State) (w : Places) {b : Bool} (tested : Decides b (LongWindow w)) where
  by_test : (x : Bool) → b ≡ x → elim x as (λ y. AfterWindow) [ true ↦ emptying call w | false ↦ refuse_with Shape t st w ] ≡ with_window call t st w
  by_test x e = ap (λ (y : Bool). elim y as (λ z. AfterWindow) [ true ↦ emptying call w | false ↦ refuse_with Shape t st w ]) (sym e ∙ long_agrees w tested)

  pub window_short : b ≡ false → refuse_with Shape t st w ≡ with_window call t st w
  window_short e = by_test false e

  pub window_long : b ≡ true → {made : After} → made ≡ call → emptying made w ≡ with_window call t st w
  window_long long is = ap (λ (a : After). emptying a w) is ∙ by_test true long

-- by what the call on the tables has answered
module _ (made : After) (w : Places) where
  kept : (n : ℕ) → 0 < n → emptied_by n w ≡ w
  kept zero h = absurd (omega (arith, h))
  kept (suc n) h = refl

  pub window_stays : 0 < made.reply.number → after_window made w ≡ emptying made w
  window_stays h = ap (after_window made) (sym (kept made.reply.number h))

  pub window_emptied : made.reply.number ≡ 0 → {sizes : List ℕ} {learnt : List ℤ} {window : Window} → sizes ≡ cleared 0 w.sizes 0 64 → learnt ≡ cleared (pos 0) w.learnt 0 4096 → window ≡ window_of 0 0
      → after_window made (places sizes learnt window) ≡ emptying made w
  unfolding emptied
  window_emptied h a l e = (λ i. after_window made (places (a i) (l i) (e i))) ∙ ap (λ (n : ℕ). after_window made (emptied_by n w)) (sym h)
