-- Document 02, CR 1: "For every run of newcomers under one stamping, a shortened one is true under the same assignments as before, among those that satisfy what stands, and a dropped one is true under all of these."
-- What a call says of a newcomer; runs of newcomers; lists of demand 3's calls and of learnt clauses. Assumes nothing: these are definitions.
use Rattle.std.specs.Prelude.{ℕ, ◌<◌, ◌≡◌, true, length, take, drop, ℤ, Ok}
use mathlib.Core.List.{List, [], ◌∷◌, ◌++◌, Sublistᴰ}
use Rattle.literal.specs.Assignments.{Assignment, some_true}
use Rattle.state.specs.Answers.{reply_of}
use Rattle.state.specs.declared.State.{State}
use Rattle.state.specs.declared.Answer.TheVariants.{KeptWhole, KeptShort, NotKept}
use Rattle.tables.specs.Tables.{Tables}
use Rattle.tables.specs.Stands.{Stands}
use Rattle.window.specs.Window.{Places, places, youngest, AfterWindow}
use Rattle.learn.specs.Learn.{learn_call}
use Rattle.call_lists.specs.Lists.{Lent, lend, give_back, Step, step_on}

-- ---- one newcomer

-- what a call has made of the newcomer C is right for what stands in the tables t with the state st
pub record Right (t : Tables) (st : State) (C : List ℤ) (a : AfterWindow) : Type 0 where
  -- "a dropped one is true under all of these"
  pub dropped : a.made.reply ≡ reply_of (Ok NotKept) → (τ : Assignment) → Stands t st τ → some_true τ C ≡ true
  -- "a shortened one is true under the same assignments as before": what is left of it is the youngest in the window
  pub shortened : (n : ℕ) → a.made.reply ≡ reply_of (Ok (KeptShort n)) → (τ : Assignment) → Stands t st τ → some_true τ (youngest a.window) ≡ some_true τ C
  -- and it is the newcomer with literals left out
  pub left_out : (n : ℕ) → a.made.reply ≡ reply_of (Ok (KeptShort n)) → Sublistᴰ (youngest a.window) C × (length (youngest a.window) ≡ n) × (n < length C)
  -- a newcomer that is kept whole is in the window as it came
  pub whole : (n : ℕ) → a.made.reply ≡ reply_of (Ok (KeptWhole n)) → (youngest a.window ≡ C) × (length C ≡ n)

-- ---- a run of newcomers, each judged with the window that the call before has left

abbrev pub RunRight : List (List ℤ) → Tables → State → Places → Type 0
RunRight [] t st w = Unit {0}
RunRight (C ∷ Cs) t st w = Right t st C (learn_call C t st w) × RunRight Cs t st (learn_call C t st w).window

-- ---- lists of calls and of learnt clauses

pub data Act : Type 0 where
  -- one of demand 3's calls, with how much of each table its caller lends
  call : Step → Act
  -- a learnt clause, with how much of each table its caller lends, and how many sizes and places of the window
  learn : List ℤ → Lent → ℕ → ℕ → Act

-- what there is between two of them
pub record Stage : Type 0 where
  pub tables : Tables
  pub state : State
  pub window : Places

abbrev pub stage : Tables → State → Places → Stage
stage t st w = record { tables = t; state = st; window = w }

abbrev pub lend_window : ℕ → ℕ → Places → Places
lend_window sizes learnt w = places (take sizes w.sizes) (take learnt w.learnt) w.window

-- the lent fronts come back, and what was not lent is as it was
abbrev pub give_back_window : ℕ → ℕ → Places → Places → Places
give_back_window sizes learnt w lent = places (lent.sizes ++ drop sizes w.sizes) (lent.learnt ++ drop learnt w.learnt) lent.window

-- the call of a learnt clause on what is lent to it
abbrev pub learn_on : List ℤ → Lent → ℕ → ℕ → Stage → AfterWindow
learn_on C lent sizes learnt g = learn_call C (lend lent g.tables) g.state (lend_window sizes learnt g.window)

unfoldable pub act_on : Act → Stage → Stage
act_on (call s) g = stage (step_on s g.tables g.state).tables (step_on s g.tables g.state).state g.window
act_on (learn C lent sizes learnt) g =
    let a = learn_on C lent sizes learnt g in
    stage (give_back lent g.tables a.made.tables) a.made.state (give_back_window sizes learnt g.window a.window)

unfoldable pub acts_on : List Act → Stage → Stage
acts_on [] g = g
acts_on (x ∷ xs) g = acts_on xs (act_on x g)
