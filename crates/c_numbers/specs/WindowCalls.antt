-- The calls that take the window, as C makes them. The window's tables are lent as they are; its number of clauses and its literal total are two numbers at the front of a slice, and numbers behind them stay.
-- Refusal 1 with place 0, before anything else is looked at, also where this slice has fewer than 2 numbers. A refused call leaves the window as it is (laws `refused-load` and `refused-learn`, crate c_calls), and what is read back is what was put (law `window-back`). Assumes nothing: these are definitions.
use Rattle.std.specs.Prelude.{ℕ, zero, suc, Bool, true, false, ◌&&◌, List, [], ◌∷◌, length, get_or, leb, ℤ}
use Rattle.state.specs.Answers.{result_by}
use Rattle.state.specs.declared.State.{State}
use Rattle.tables.specs.Tables.{Tables}
use Rattle.window.specs.declared.Window.{Window}
use Rattle.window.specs.Window.{Places, places, window_of, AfterWindow}
use Rattle.c_numbers.specs.StateNumbers.{put_front, state_of}
use Rattle.c_numbers.specs.CCalls.{AfterC, after_c, ready, put_answer, refuse_unread, told}

-- all slices of numbers are long enough, and the state's numbers are a state's
unfoldable pub ready_with : List ℕ → List ℕ → List ℕ → Bool
ready_with s a w = leb 2 (length w) && ready s a

unfoldable pub window_at : List ℕ → Window
window_at w = window_of (get_or w 0 0) (get_or w 1 0)

-- by the reply's number, which is 0 where the call was made
abbrev pub put_window_by : ℕ → Window → List ℕ → List ℕ
put_window_by zero window w = put_front (window.clauses ∷ window.literals ∷ []) w
put_window_by (suc _) window w = w

-- ---- a load

pub record AfterLoadC : Type 0 where
  pub made : AfterC
  pub sizes : List ℕ
  pub learnt : List ℤ
  pub window : List ℕ

abbrev pub after_load_c : AfterC → List ℕ → List ℤ → List ℕ → AfterLoadC
after_load_c made sizes learnt window = record { made = made; sizes = sizes; learnt = learnt; window = window }

unfoldable pub told_load : AfterWindow → List ℕ → List ℕ → List ℕ → AfterLoadC
told_load m s a w = after_load_c (told m.made s a) m.window.sizes m.window.learnt (put_window_by m.made.reply.number m.window.window w)

-- a load, by its definition on tables, a state and a window, on the numbers that C lends
unfoldable pub load_c : (Tables → State → Places → AfterWindow) → Tables → List ℕ → List ℕ → List ℕ → List ℤ → List ℕ → AfterLoadC
load_c call t s a sizes learnt w =
    elim (ready_with s a w) [
      | true ↦ told_load (call t (state_of s) (places sizes learnt (window_at w))) s a w
      | false ↦ after_load_c (after_c (result_by 1 0) (refuse_unread a) s t) sizes learnt w
    ]

-- ---- a learnt clause: the tables and the state are lent to it for reading only

pub record AfterLearnC : Type 0 where
  pub result : ℤ
  pub answer : List ℕ
  pub sizes : List ℕ
  pub learnt : List ℤ
  pub window : List ℕ

abbrev pub after_learn_c : ℤ → List ℕ → List ℕ → List ℤ → List ℕ → AfterLearnC
after_learn_c result answer sizes learnt window = record { result = result; answer = answer; sizes = sizes; learnt = learnt; window = window }

unfoldable pub told_learn : AfterWindow → List ℕ → List ℕ → AfterLearnC
told_learn m a w = after_learn_c (result_by m.made.reply.number 0) (put_answer m.made.reply a) m.window.sizes m.window.learnt (put_window_by m.made.reply.number m.window.window w)

unfoldable pub learn_c : (Tables → State → Places → AfterWindow) → Tables → List ℕ → List ℕ → List ℕ → List ℤ → List ℕ → AfterLearnC
learn_c call t s a sizes learnt w =
    elim (ready_with s a w) [
      | true ↦ told_learn (call t (state_of s) (places sizes learnt (window_at w))) a w
      | false ↦ after_learn_c (result_by 1 0) (refuse_unread a) sizes learnt w
    ]
