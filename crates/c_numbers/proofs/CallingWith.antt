-- The ways of a call for C that takes the window: the numbers cannot be read, or the call is made on them. Assumes nothing.
use Prim.Native.Nat.{ℕ}
use mathlib.Core.Bool.{Bool, true, false}
use mathlib.Core.Path.{◌≡◌, refl, sym, ap, ◌∙◌}
use mathlib.Core.List.{List}
use lib.IntN.{ℤ}
use Rattle.state.specs.Answers.{reply_of, result_by}
use Rattle.state.specs.declared.State.{State}
use Rattle.tables.specs.Tables.{Tables}
use Rattle.tables.specs.Calls.{after}
use Rattle.window.specs.declared.Window.{Window}
use Rattle.window.specs.declared.Windowed.{Windowed}
use Rattle.window.specs.Window.{Places, places, AfterWindow, after_with}
use Rattle.c_numbers.specs.StateNumbers.{state_of}
use Rattle.c_numbers.specs.CCalls.{put_answer, refuse_unread, told, after_c}
use Rattle.c_numbers.specs.WindowCalls.{ready_with, window_at, put_window_by, AfterLoadC, after_load_c, told_load, load_c, AfterLearnC, after_learn_c, told_learn, learn_c}

module _ (call : Tables → State → Places → AfterWindow) (t : Tables) (s a sizes : List ℕ) (learnt : List ℤ) (w : List ℕ) where
  -- what the call makes of the state and the window that are read from the numbers
  abbrev on_read : AfterWindow
  on_read = call t (state_of s) (places sizes learnt (window_at w))

  module _ (st : State) (window : Window) (read : st ≡ state_of s) (read-window : window ≡ window_at w) where
    -- the call is made on what is read
    on_given : call t st (places sizes learnt window) ≡ on_read
    on_given = λ i. call t (read i) (places sizes learnt (read-window i))

  -- ---- a load

  abbrev load_by_ready : Bool → AfterLoadC
  load_by_ready able = elim able [ true ↦ told_load on_read s a w | false ↦ after_load_c (after_c (result_by 1 0) (refuse_unread a) s t) sizes learnt w ]

  pub called_load : ready_with s a w ≡ true → load_c call t s a sizes learnt w ≡ told_load on_read s a w
  unfolding load_c
  called_load able = ap load_by_ready able

  -- what `call_with` says is what a load for C says. r is the number that the function returns, r' the one that `call_with` gave it; t', sizes' and learnt' are what the call left of the tables
  pub given_load : (r r' : ℤ) (left s' : List ℕ) (t' : Tables) (sizes' : List ℕ) (learnt' : List ℤ) (w' : List ℕ) → r ≡ r'
      → (ready_with s a w ≡ false → (r' ≡ result_by 1 0) × (left ≡ refuse_unread a) × (s' ≡ s) × (w' ≡ w) × (t' ≡ t) × (sizes' ≡ sizes) × (learnt' ≡ learnt))
      → (ready_with s a w ≡ true → (o : Windowed) × (after_with o t' sizes' learnt' ≡ on_read) × (w' ≡ put_window_by (reply_of o.outcome.answer).number o.window w) × ((u : Tables) → after_c r' left s' u ≡ told (after o.outcome u) s a))
      → after_load_c (after_c r left s' t') sizes' learnt' w' ≡ load_c call t s a sizes learnt w
  unfolding load_c told_load
  given_load r r' left s' t' sizes' learnt' w' result unread made = ap (λ (z : ℤ). after_load_c (after_c z left s' t') sizes' learnt' w') result ∙ by (ready_with s a w) refl
    where
      by : (b : Bool) → ready_with s a w ≡ b → after_load_c (after_c r' left s' t') sizes' learnt' w' ≡ load_by_ready (ready_with s a w)
      by true able = let it = made able in (λ i. after_load_c (it.3 t' i) sizes' learnt' (it.2 i)) ∙ ap (λ (m : AfterWindow). told_load m s a w) it.1 ∙ ap load_by_ready (sym able)
      by false unready = let it = unread unready in (λ i. after_load_c (after_c (it.0 i) (it.1 i) (it.2 i) (it.4 i)) (it.5 i) (it.6 i) (it.3 i)) ∙ ap load_by_ready (sym unready)

  -- ---- a learnt clause

  abbrev learn_by_ready : Bool → AfterLearnC
  learn_by_ready able = elim able [ true ↦ told_learn on_read a w | false ↦ after_learn_c (result_by 1 0) (refuse_unread a) sizes learnt w ]

  pub called_learn : ready_with s a w ≡ true → learn_c call t s a sizes learnt w ≡ told_learn on_read a w
  unfolding learn_c
  called_learn able = ap learn_by_ready able

  pub unread_learn : (r : ℤ) (left : List ℕ) → ready_with s a w ≡ false → r ≡ result_by 1 0 → left ≡ refuse_unread a → after_learn_c r left sizes learnt w ≡ learn_c call t s a sizes learnt w
  unfolding learn_c
  unread_learn r left unready result answer = (λ i. after_learn_c (result i) (answer i) sizes learnt w) ∙ ap learn_by_ready (sym unready)

  -- ---- a call that is made: o is what it gives back; t', sizes', learnt' and w' are the tables and the window's numbers as it leaves them
  module _ (st : State) (window : Window) (o : Windowed) (t' : Tables) (sizes' : List ℕ) (learnt' : List ℤ) (w' : List ℕ) (able : ready_with s a w ≡ true)
      (read : st ≡ state_of s) (read-window : window ≡ window_at w) (made : after_with o t' sizes' learnt' ≡ call t st (places sizes learnt window)) (put : w' ≡ put_window_by (reply_of o.outcome.answer).number o.window w) where
    pub made_learn : (r : ℤ) (left : List ℕ) → r ≡ result_by (reply_of o.outcome.answer).number 0 → left ≡ put_answer (reply_of o.outcome.answer) a → after_learn_c r left sizes' learnt' w' ≡ learn_c call t s a sizes learnt w
    unfolding told_learn
    made_learn r left result answer =
        (λ i. after_learn_c (result i) (answer i) sizes' learnt' (put i)) ∙ ap (λ (m : AfterWindow). told_learn m a w) (made ∙ on_given st window read read-window) ∙ sym (called_learn able)
