-- One call after the other: after a call, made or refused, the numbers are again a state's and the answer has its four places, and the next call finds the state and the tables that the definition of the last one gave.
-- So a list of calls for C is the list of the same calls on tables and a state. The calls that take the window are in NextWith. Assumes nothing.
use Prim.Native.Nat.{ℕ, zero, suc, ◌≤◌}
use native.Mathlib.Omega.{arith}
use mathlib.Core.Bool.{true}
use mathlib.Core.Path.{◌≡◌, refl, sym, ap, ◌∙◌}
use mathlib.Core.Logic.{inl, inr}
use mathlib.Core.List.{List, [], ◌∷◌}
use lib.ListN.{length}
use lib.Dec.{leb}
use borrow.Author.Tests.{le-leb}
use Rattle.state.specs.Answers.{Reply, first_value}
use Rattle.state.specs.declared.State.{State}
use Rattle.tables.specs.Tables.{Tables}
use Rattle.tables.specs.Calls.{After}
use Rattle.c_numbers.specs.StateNumbers.{state_of, readable}
use Rattle.c_numbers.specs.CCalls.{ready, values_of, put_answer_by, put_answer, put_state_by, told, AfterC, call_c}
use Rattle.c_numbers.proofs.Over.{over_length}
use Rattle.c_numbers.proofs.StateBack.{Placed, state_back, put_readable, read_placed}
use Rattle.c_numbers.proofs.Reading.{passes, ready_long, ready_readable}
use Rattle.c_numbers.proofs.Calling.{called}
use Rattle.c_calls.proofs.Refused.{Kept, Keeps}

answer_length : (r : Reply) (a : List ℕ) → 4 ≤ length a → length (put_answer r a) ≡ length a
unfolding put_answer
answer_length r a h = numbered r.number
  where
    numbered : (n : ℕ) → length (put_answer_by n r a) ≡ length a
    numbered zero = over_length (values_of r) a h
    numbered (suc n) = over_length (first_value r.values ∷ []) a (omega arith)

state_readable : (n : ℕ) (st : State) (s : List ℕ) → Placed st → readable s ≡ true → readable (put_state_by n st s) ≡ true
state_readable zero st s placed e = put_readable st s placed
state_readable (suc n) st s placed e = e

-- the answer that a call leaves has its places again
pub able_again : (r : Reply) (s a s' : List ℕ) → ready s a ≡ true → readable s' ≡ true → ready s' (put_answer r a) ≡ true
unfolding ready
able_again r s a s' e f =
    sym (passes (leb 4 (length (put_answer r a))) (readable s') true (le-leb 4 (length (put_answer r a)) (omega (arith, answer_length r a (ready_long s a e).1, (ready_long s a e).1))) (sym f))

-- what a call leaves has the places of a programme
left_placed : (m : After) (t : Tables) (st : State) → Kept t st m → Placed st → Placed m.state
left_placed m t st (inl made) placed = made.1 placed
left_placed m t st (inr kept) placed = ap (λ (x : State). length x.programme.codes) kept.0 ∙ placed

-- a refused call keeps the state that it was given
state_next : (m : After) (t : Tables) (s : List ℕ) → Placed m.state → Kept t (state_of s) m → state_of (put_state_by m.reply.number m.state s) ≡ m.state
state_next m t s placed (inl made) = ap (λ (n : ℕ). state_of (put_state_by n m.state s)) made.0 ∙ state_back m.state s placed
state_next m t s placed (inr kept) = numbered m.reply.number
  where
    numbered : (n : ℕ) → state_of (put_state_by n m.state s) ≡ m.state
    numbered zero = state_back m.state s placed
    numbered (suc n) = sym kept.0

-- what the next call finds
pub record Found (m : After) (x : AfterC) : Type 0 where
  pub able : ready x.state x.answer ≡ true
  pub state : state_of x.state ≡ m.state
  pub tables : x.tables ≡ m.tables

pub told_found : (m : After) (t : Tables) (s a : List ℕ) → Kept t (state_of s) m → ready s a ≡ true → Found m (told m s a)
unfolding told
told_found m t s a kept e = let placed : Placed m.state = left_placed m t (state_of s) kept (read_placed s (ready_long s a e).0) in record {
  able = able_again m.reply s a (put_state_by m.reply.number m.state s) e (state_readable m.reply.number m.state s placed (ready_readable s a e));
  state = state_next m t s placed kept;
  tables = refl;
}

-- THE LAW, with `calls_keep` for each call
pub next_call : (call : Tables → State → After) → Keeps call → (t : Tables) (s a : List ℕ) → ready s a ≡ true → Found (call t (state_of s)) (call_c call t s a)
next_call call keeps t s a e = rw (called call t s a e) (told_found (call t (state_of s)) t s a (keeps t (state_of s)) e)
