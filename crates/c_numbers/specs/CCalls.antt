-- The calls as C makes them. The answer is four numbers at the front of a slice. Where the call was made they are the answer's values, 0 where it has none, and as the fourth 1 if the answer is Open, else 0; where it is refused the first is the refusal's place and the other three stay.
-- Numbers behind the fourth stay. The result is 0 where the call was made, else the refusal's number, negative. A refused call leaves the state and all tables as they are (law `refused-leaves`).
-- Refusal 1 with place 0, before anything else is looked at: the state has fewer than 40 numbers, the answer fewer than 4, or the numbers are no state's (`readable`). An answer of fewer than 4 numbers keeps them all, since it cannot hold an answer.
-- Assumes nothing: these are definitions.
use Rattle.std.specs.Prelude.{ℕ, zero, suc, Bool, true, false, ◌&&◌, List, [], ◌∷◌, length, get_or, eqb, leb, ℤ, Err}
use Rattle.state.specs.Answers.{Reply, reply_of, first_value, result_by}
use Rattle.state.specs.declared.State.{State}
use Rattle.state.specs.declared.Refusal.TheVariants.{Shape}
use Rattle.tables.specs.Tables.{Tables}
use Rattle.tables.specs.Calls.{After}
use Rattle.write.specs.Write.{AfterWrite}
use Rattle.c_numbers.specs.StateNumbers.{put_front, digit, put_state, state_of, readable}

-- both slices are long enough, and the state's numbers are a state's
unfoldable pub ready : List ℕ → List ℕ → Bool
ready s a = leb 4 (length a) && readable s

-- ---- what a reply leaves in the answer

-- at most three values, and whether visits are left (kind 2 is Open)
abbrev pub values_of : Reply → List ℕ
values_of r = get_or r.values 0 0 ∷ get_or r.values 1 0 ∷ get_or r.values 2 0 ∷ digit (eqb r.kind 2) ∷ []

-- by the reply's number, which is 0 where the call was made
abbrev pub put_answer_by : ℕ → Reply → List ℕ → List ℕ
put_answer_by zero r a = put_front (values_of r) a
put_answer_by (suc _) r a = put_front (first_value r.values ∷ []) a

unfoldable pub put_answer : Reply → List ℕ → List ℕ
put_answer r a = put_answer_by r.number r a

-- an answer slice that is too short stays as it is
unfoldable pub refuse_unread : List ℕ → List ℕ
refuse_unread a = elim (leb 4 (length a)) [ true ↦ put_answer (reply_of (Err Shape)) a | false ↦ a ]

-- ---- the calls that change the state

pub record AfterC : Type 0 where
  pub result : ℤ
  pub answer : List ℕ
  pub state : List ℕ
  pub tables : Tables

abbrev pub after_c : ℤ → List ℕ → List ℕ → Tables → AfterC
after_c result answer state t = record { result = result; answer = answer; state = state; tables = t }

-- by the reply's number
abbrev pub put_state_by : ℕ → State → List ℕ → List ℕ
put_state_by zero st s = put_state st s
put_state_by (suc _) st s = s

unfoldable pub told : After → List ℕ → List ℕ → AfterC
told made s a = after_c (result_by made.reply.number 0) (put_answer made.reply a) (put_state_by made.reply.number made.state s) made.tables

-- a call, by its definition on tables and a state, on the numbers that C lends
unfoldable pub call_c : (Tables → State → After) → Tables → List ℕ → List ℕ → AfterC
call_c call t s a = elim (ready s a) [ true ↦ told (call t (state_of s)) s a | false ↦ after_c (result_by 1 0) (refuse_unread a) s t ]

-- ---- the calls that write text: the state and the tables are lent to them for reading only

pub record AfterWriteC : Type 0 where
  pub result : ℤ
  pub answer : List ℕ
  pub out : List ℕ

abbrev pub after_write_c : ℤ → List ℕ → List ℕ → AfterWriteC
after_write_c result answer out = record { result = result; answer = answer; out = out }

unfoldable pub told_write : AfterWrite → List ℕ → AfterWriteC
told_write made a = after_write_c (result_by made.reply.number 0) (put_answer made.reply a) made.out

-- such a call, by its definition on tables, a state and an output, on the numbers that C lends. A refused one leaves the output as it is (law `refused-text`, crate c_calls)
unfoldable pub text_c : (Tables → State → List ℕ → AfterWrite) → Tables → List ℕ → List ℕ → List ℕ → AfterWriteC
text_c call t s a out = elim (ready s a) [ true ↦ told_write (call t (state_of s) out) a | false ↦ after_write_c (result_by 1 0) (refuse_unread a) out ]
