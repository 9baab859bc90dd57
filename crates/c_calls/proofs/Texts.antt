-- The calls for C that write text, by what each does on tables, a state and an output. A refused one leaves the output as it is: its result is 0, or nothing changed but the first number of the answer. The state and the tables are lent to them for reading only,
-- so behind one, made or refused, the next call finds them as they were, and an answer that has its four places. Assumes nothing.
use Prim.Native.Nat.{ℕ, zero, suc, ◌-◌}
use mathlib.Core.Bool.{Bool, true, false}
use mathlib.Core.Path.{◌≡◌, refl, ap}
use mathlib.Core.Logic.{◌⊎◌, inl, inr}
use mathlib.Core.List.{List, ◌++◌}
use lib.ListN.{length, drop}
use lib.Dec.{leb}
use lib.IntN.{pos}
use Rattle.std.specs.Prelude.{Result, Ok, Err}
use Rattle.state.specs.Answers.{reply_of, result_by}
use Rattle.state.specs.declared.State.{State}
use Rattle.state.specs.declared.Answer.{Answer}
use Rattle.state.specs.declared.Answer.TheVariants.{Written, Explained}
use Rattle.state.specs.declared.Refusal.{Refusal}
use Rattle.state.specs.declared.Refusal.TheVariants.{Shape, Short}
use Rattle.stamp_columns.specs.Columns.{columns}
use Rattle.tables.specs.Tables.{Tables}
use Rattle.tables.specs.Clauses.{literals_of}
use Rattle.shape.specs.Decision.{shape_ok}
use Rattle.entry.specs.Entry.{opening_of}
use Rattle.write.specs.Write.{AfterWrite, after_write, text_into, write_into, write_text, write_call}
use Rattle.explain.specs.Reasons.{Reasons, reasons_of}
use Rattle.explain.specs.Explain.{chains_text, stands, explain_if, explain_unless_stale, explain_opening, explain_call}
use Rattle.c_numbers.specs.StateNumbers.{state_of}
use Rattle.c_numbers.specs.CCalls.{ready, put_answer_by, put_answer, refuse_unread, AfterWriteC, after_write_c, told_write, text_c}
use Rattle.c_numbers.proofs.Answered.{unread_behind}
use Rattle.c_numbers.proofs.Reading.{ready_readable}
use Rattle.c_numbers.proofs.Calling.{called_text}
use Rattle.c_calls.proofs.Next.{able_again}

-- the call was made, or the output is as it was
abbrev pub KeptOut : List ℕ → AfterWrite → Type 0
KeptOut out m = (m.reply.number ≡ 0) ⊎ (m.out ≡ out)

-- so it is of a call on any tables, state and output
abbrev pub KeepsOut : (Tables → State → List ℕ → AfterWrite) → Type 0
KeepsOut call = (t : Tables) (st : State) (out : List ℕ) → KeptOut out (call t st out)

-- ---- the calls

-- a text into an output, with an answer that is no refusal
into_keeps : (answer : ℕ → Answer) → ((n : ℕ) → (reply_of (Ok (answer n))).number ≡ 0) → (text out : List ℕ) → KeptOut out (text_into answer text out)
into_keeps answer made text out = fits (leb (length text) (length out))
  where
    fits : (b : Bool) → KeptOut out (elim b as (λ _. AfterWrite) [ true ↦ after_write (Ok (answer (length text))) (text ++ drop (length text) out) | false ↦ after_write (Err (Short (length text))) out ])
    fits true = inl (made (length text))
    fits false = inr refl

pub write_keeps : KeepsOut write_call
unfolding write_call
write_keeps t st out = by (shape_ok t st)
  where
    by : (b : Bool) → KeptOut out (elim b as (λ _. AfterWrite) [ true ↦ write_into (write_text t st) out | false ↦ after_write (Err Shape) out ])
    by true = into_keeps Written (λ n. refl) (write_text t st) out
    by false = inr refl

pub explain_keeps : (number : ℕ) → KeepsOut (explain_call number)
unfolding explain_call
explain_keeps number t st out = by (opening_of t st)
  where
    why : Reasons
    why = reasons_of (columns t.times t.links) (literals_of t.clauses t.literals (number - 1))

    standing : (b : Bool) → KeptOut out (explain_if b number t out)
    standing true = into_keeps (Explained why.verdict why.out) (λ n. refl) (chains_text t.links why) out
    standing false = inr refl

    fresh : (b : Bool) → KeptOut out (explain_unless_stale b number t st out)
    fresh true = standing (stands number st.n t.clauses)
    fresh false = inr refl

    by : (o : Result (Unit {0}) Refusal) → KeptOut out (explain_opening o number t st out)
    by (Err r) = inr refl
    by (Ok _) = fresh st.fresh

-- ---- for C

-- the result is 0, or the numbers of the answer behind the first and the output are as they were
abbrev pub TextLeft : List ℕ → List ℕ → AfterWriteC → Type 0
TextLeft a out x = (x.result ≡ pos 0) ⊎ ((drop 1 x.answer ≡ drop 1 a) × (x.out ≡ out))

told_text_leaves : (m : AfterWrite) (a out : List ℕ) → KeptOut out m → TextLeft a out (told_write m a)
unfolding told_write put_answer
told_text_leaves m a out (inl made) = inl (ap (λ (n : ℕ). result_by n 0) made)
told_text_leaves m a out (inr same) = numbered m.reply.number
  where
    numbered : (n : ℕ) → (result_by n 0 ≡ pos 0) ⊎ ((drop 1 (put_answer_by n m.reply a) ≡ drop 1 a) × (m.out ≡ out))
    numbered zero = inl refl
    numbered (suc n) = inr (refl, same)

module _ (call : Tables → State → List ℕ → AfterWrite) (t : Tables) (s a out : List ℕ) where
  -- THE LAW, with `write_keeps` and `explain_keeps`
  pub refused_text : KeepsOut call → TextLeft a out (text_c call t s a out)
  unfolding text_c
  refused_text keeps = reading (ready s a)
    where
      reading : (b : Bool) → TextLeft a out (elim b as (λ _. AfterWriteC) [ true ↦ told_write (call t (state_of s) out) a | false ↦ after_write_c (result_by 1 0) (refuse_unread a) out ])
      reading true = told_text_leaves (call t (state_of s) out) a out (keeps t (state_of s) out)
      reading false = inr (unread_behind a, refl)

  told_able : ready s a ≡ true → ready s (told_write (call t (state_of s) out) a).answer ≡ true
  unfolding told_write
  told_able e = able_again (call t (state_of s) out).reply s a s e (ready_readable s a e)

  -- THE LAW, for any call: the next one is made on the state that this one was
  pub next_text : ready s a ≡ true → ready s (text_c call t s a out).answer ≡ true
  next_text e = rw (called_text call t s a out e) (told_able e)
