-- The window's numbers: what is read from numbers that a window was put over is that window, so that the calls can be made one after the other; a refused call leaves them; numbers behind the second stay. Assumes nothing.
use Prim.Native.Nat.{ℕ, zero, suc, ◌≤◌}
use mathlib.Core.Path.{◌≡◌, refl, sym, ap, ◌∙◌}
use mathlib.Core.List.{List, [], ◌∷◌}
use lib.ListN.{length, drop, set}
use Rattle.window.specs.declared.Window.{Window}
use Rattle.c_numbers.specs.WindowCalls.{window_at, put_window_by}
use Rattle.c_numbers.proofs.Over.{two_over, over_length}

-- ---- what `finish_window` leaves, by the number of the reply, which is 0 where the call was made
module _ (n : ℕ) (window : Window) (w : List ℕ) where
  -- THE LAW: a refused call leaves the numbers
  pub window_refused : (n ≡ 0 → ⊥) → w ≡ put_window_by n window w
  window_refused refused = numbered n refused
    where
      numbered : (m : ℕ) → (m ≡ 0 → ⊥) → w ≡ put_window_by m window w
      numbered zero d = absurd (d refl)
      numbered (suc m) d = refl

  pub window_made : 2 ≤ length w → n ≡ 0 → set (set w 0 window.clauses) 1 window.literals ≡ put_window_by n window w
  window_made long made = two_over window.clauses window.literals w long ∙ ap (λ (m : ℕ). put_window_by m window w) (sym made)

-- ---- what the next call finds

-- THE LAW: what is read is what was put
pub window_back : (window : Window) (w : List ℕ) → window_at (put_window_by 0 window w) ≡ window
unfolding window_at
window_back window w = refl

-- there are as many numbers as before
pub window_length : (n : ℕ) (window : Window) (w : List ℕ) → 2 ≤ length w → length (put_window_by n window w) ≡ length w
window_length zero window w long = over_length (window.clauses ∷ window.literals ∷ []) w long
window_length (suc n) window w long = refl

-- the numbers behind the second stay
pub window_behind : (n : ℕ) (window : Window) (w : List ℕ) → drop 2 (put_window_by n window w) ≡ drop 2 w
window_behind zero window w = refl
window_behind (suc n) window w = refl
