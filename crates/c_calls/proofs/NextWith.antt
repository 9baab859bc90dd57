-- One call after the other, with the window: after a load, a join or a learnt clause, made or refused, the numbers are again a state's and a window's and the answer has its four places, and the next call finds the state, the tables and the window that the definition of the last one gave.
-- A call that does not take the window leaves it, and one that takes it can be made behind it (`next_beside`). Assumes nothing.
use Prim.Native.Nat.{ℕ, zero, suc}
use native.Mathlib.Omega.{arith}
use mathlib.Core.Bool.{true}
use mathlib.Core.Path.{◌≡◌, sym, ap, ◌∙◌}
use mathlib.Core.Logic.{◌⊎◌, inl, inr}
use mathlib.Core.List.{List}
use lib.IntN.{ℤ}
use Rattle.state.specs.declared.State.{State}
use Rattle.tables.specs.Tables.{Tables}
use Rattle.tables.specs.Calls.{After}
use Rattle.window.specs.declared.Window.{Window}
use Rattle.window.specs.Window.{Places, places, AfterWindow}
use Rattle.c_numbers.specs.StateNumbers.{state_of}
use Rattle.c_numbers.specs.CCalls.{ready, put_answer, told, call_c}
use Rattle.c_numbers.specs.WindowCalls.{ready_with, window_at, put_window_by, AfterLoadC, told_load, load_c, AfterLearnC, told_learn, learn_c}
use Rattle.c_numbers.proofs.WindowBack.{window_back, window_length}
use Rattle.c_numbers.proofs.Reading.{ready_readable, with_ready, with_long, with_able}
use Rattle.c_numbers.proofs.CallingWith.{called_load, called_learn}
use Rattle.c_calls.proofs.Refused.{Kept, Keeps}
use Rattle.c_calls.proofs.Next.{Found, able_again, told_found, next_call}
use Rattle.c_calls.proofs.RefusedWith.{KeptWith, KeepsWith, Only, KeepsOnly}

-- of the state and the tables alone
without_window : {t : Tables} {st : State} {w : Places} (m : AfterWindow) → KeptWith t st w m → Kept t st m.made
without_window m (inl made) = inl made
without_window m (inr same) = inr (same.0, same.1)

-- a refused call keeps the window that it was given
window_next : (m : AfterWindow) (sizes : List ℕ) (learnt : List ℤ) (w : List ℕ) → (m.made.reply.number ≡ 0) ⊎ (m.window ≡ places sizes learnt (window_at w))
    → places m.window.sizes m.window.learnt (window_at (put_window_by m.made.reply.number m.window.window w)) ≡ m.window
window_next m sizes learnt w kept = ap (λ (x : Window). places m.window.sizes m.window.learnt x) (by kept)
  where
    by : (m.made.reply.number ≡ 0) ⊎ (m.window ≡ places sizes learnt (window_at w)) → window_at (put_window_by m.made.reply.number m.window.window w) ≡ m.window.window
    by (inl made) = ap (λ (n : ℕ). window_at (put_window_by n m.window.window w)) made ∙ window_back m.window.window w
    by (inr same) = numbered m.made.reply.number
      where
        numbered : (n : ℕ) → window_at (put_window_by n m.window.window w) ≡ m.window.window
        numbered zero = window_back m.window.window w
        numbered (suc n) = sym (ap (λ (p : Places). p.window) same)

-- ---- a load or a join

-- what the next call finds
pub record FoundLoad (m : AfterWindow) (x : AfterLoadC) : Type 0 where
  pub able : ready_with x.made.state x.made.answer x.window ≡ true
  pub state : state_of x.made.state ≡ m.made.state
  pub tables : x.made.tables ≡ m.made.tables
  pub window : places x.sizes x.learnt (window_at x.window) ≡ m.window

module _ (t : Tables) (s a sizes : List ℕ) (learnt : List ℤ) (w : List ℕ) (e : ready_with s a w ≡ true) where
  -- the window's numbers are long enough again
  able_with : (m : AfterWindow) (s' a' : List ℕ) → ready s' a' ≡ true → ready_with s' a' (put_window_by m.made.reply.number m.window.window w) ≡ true
  able_with m s' a' able = with_able s' a' _ able (omega (arith, window_length m.made.reply.number m.window.window w (with_long s a w e), with_long s a w e))

  told_load_found : (m : AfterWindow) → KeptWith t (state_of s) (places sizes learnt (window_at w)) m → FoundLoad m (told_load m s a w)
  unfolding told_load
  told_load_found m kept = record {
    able = able_with m (told m.made s a).state (told m.made s a).answer found.able;
    state = found.state;
    tables = found.tables;
    window = window_next m sizes learnt w (window_kept kept);
  }
    where
      found : Found m.made (told m.made s a)
      found = told_found m.made t s a (without_window m kept) (with_ready s a w e)

      window_kept : KeptWith t (state_of s) (places sizes learnt (window_at w)) m → (m.made.reply.number ≡ 0) ⊎ (m.window ≡ places sizes learnt (window_at w))
      window_kept (inl made) = inl made.0
      window_kept (inr same) = inr same.2

  -- THE LAW, with `load_with_keeps` or `join_with_keeps`
  pub next_load : (call : Tables → State → Places → AfterWindow) → KeepsWith call → FoundLoad (call t (state_of s) (places sizes learnt (window_at w))) (load_c call t s a sizes learnt w)
  next_load call keeps = rw (called_load call t s a sizes learnt w e) (told_load_found (call t (state_of s) (places sizes learnt (window_at w))) (keeps t (state_of s) (places sizes learnt (window_at w))))

-- ---- a learnt clause, which leaves the numbers of the state and the tables that it was lent

-- what the next call finds
pub record FoundLearn (t : Tables) (s : List ℕ) (m : AfterWindow) (x : AfterLearnC) : Type 0 where
  pub able : ready_with s x.answer x.window ≡ true
  pub state : state_of s ≡ m.made.state
  pub tables : t ≡ m.made.tables
  pub window : places x.sizes x.learnt (window_at x.window) ≡ m.window

module _ (t : Tables) (s a sizes : List ℕ) (learnt : List ℤ) (w : List ℕ) (e : ready_with s a w ≡ true) where
  told_learn_found : (m : AfterWindow) → Only t (state_of s) (places sizes learnt (window_at w)) m → FoundLearn t s m (told_learn m a w)
  unfolding told_learn
  told_learn_found m only = record {
    able = able_with t s a sizes learnt w e m s (put_answer m.made.reply a) (able_again m.made.reply s a s (with_ready s a w e) (ready_readable s a (with_ready s a w e)));
    state = sym only.0;
    tables = sym only.1;
    window = window_next m sizes learnt w only.2;
  }

  -- THE LAW, with `learn_only`
  pub next_learn : (call : Tables → State → Places → AfterWindow) → KeepsOnly call → FoundLearn t s (call t (state_of s) (places sizes learnt (window_at w))) (learn_c call t s a sizes learnt w)
  next_learn call keeps = rw (called_learn call t s a sizes learnt w e) (told_learn_found (call t (state_of s) (places sizes learnt (window_at w))) (keeps t (state_of s) (places sizes learnt (window_at w))))

-- ---- a call that does not take the window, which keeps its numbers

-- THE LAW, with `calls_keep` for each call
pub next_beside : (call : Tables → State → After) → Keeps call → (t : Tables) (s a w : List ℕ) → ready_with s a w ≡ true → ready_with (call_c call t s a).state (call_c call t s a).answer w ≡ true
next_beside call keeps t s a w e = with_able (call_c call t s a).state (call_c call t s a).answer w (next_call call keeps t s a (with_ready s a w e)).able (with_long s a w e)
