-- A table that was moved down: its length, and the places that moved. Assumes nothing.
use Prim.Native.Nat.{ℕ, ◌+◌, ◌-◌, ◌≤◌, ◌<◌}
use native.Mathlib.Omega.{arith}
use mathlib.Core.Path.{◌≡◌, ◌∙◌}
use mathlib.Core.List.{List}
use lib.ListN.{length, get_or, take, drop, length-append, length-drop, get_or-append}
use lib.Seq.{get_or-take, get_or-drop, length-take-le}
use Rattle.window.specs.Window.{moved_down}

module _ {A : Type 0} (d : A) (step size : ℕ) (xs : List A) (le : step ≤ size) (room : size ≤ length xs) where
  front : length (take (size - step) (drop step xs)) ≡ size - step
  front = length-take-le (size - step) (drop step xs) (omega (arith, length-drop step xs))

  pub moved_length : length (moved_down step size xs) ≡ length xs
  moved_length = length-append (take (size - step) (drop step xs)) (drop (size - step) xs) ∙ omega (arith, front, length-drop (size - step) xs)

  pub moved_low : (k : ℕ) → k < size - step → get_or (moved_down step size xs) k d ≡ get_or xs (step + k) d
  moved_low k h = get_or-append (take (size - step) (drop step xs)) (drop (size - step) xs) d k (omega (arith, front, h)) ∙ get_or-take (size - step) (drop step xs) k d h ∙ get_or-drop step xs k d
