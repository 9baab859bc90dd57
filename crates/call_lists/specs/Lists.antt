-- Document 01, demand 3: "any list of Propagate, Merge, Stamp, Failed and Sweep calls"; with document 02's CR 5 a list may set programmes in between. The calls as data, each with how much of every table its caller lends. Assumes nothing: these are definitions.
use Rattle.std.specs.Prelude.{ℕ, List, [], ◌∷◌, ◌++◌, take, drop, ℤ}
use Rattle.state.specs.Answers.{Reply}
use Rattle.state.specs.declared.State.{State}
use Rattle.tables.specs.Tables.{Tables, tables}
use Rattle.tables.specs.Calls.{After}
use Rattle.propagate.specs.Propagate.{propagate_call}
use Rattle.merge.specs.Merge.{merge_call}
use Rattle.stamp.specs.Stamp.{stamp_call}
use Rattle.failed.specs.Failed.{failed_call}
use Rattle.sweep.specs.Sweep.{sweep_call}
use Rattle.set_programme.specs.SetProgramme.{set_call}

pub data Call : Type 0 where
  propagate : ℕ → Call
  merge : ℕ → Call
  stamp : List ℤ → Call
  failed : Call
  sweep : ℕ → Call
  programme : List ℕ → Call

-- how many numbers of each table are lent
pub record Lent : Type 0 where
  pub clauses : ℕ
  pub literals : ℕ
  pub variables : ℕ
  pub times : ℕ
  pub links : ℕ

abbrev pub lend : Lent → Tables → Tables
lend k t = tables (take k.clauses t.clauses) (take k.literals t.literals) (take k.variables t.variables) (take k.times t.times) (take k.links t.links)

-- the lent fronts come back, and what was not lent is as it was
abbrev pub give_back : Lent → Tables → Tables → Tables
give_back k t lent =
    tables (lent.clauses ++ drop k.clauses t.clauses) (lent.literals ++ drop k.literals t.literals) (lent.variables ++ drop k.variables t.variables)
    (lent.times ++ drop k.times t.times) (lent.links ++ drop k.links t.links)

abbrev pub call_on : Call → Tables → State → After
call_on (propagate steps) t st = propagate_call steps t st
call_on (merge steps) t st = merge_call steps t st
call_on (stamp order) t st = stamp_call order t st
call_on failed t st = failed_call t st
call_on (sweep steps) t st = sweep_call steps t st
call_on (programme codes) t st = set_call codes t st

-- one call of a list
pub record Step : Type 0 where
  pub call : Call
  pub lent : Lent

abbrev pub with_back : Lent → Tables → After → After
with_back lent t made = record { reply = made.reply; state = made.state; tables = give_back lent t made.tables }

unfoldable pub step_on : Step → Tables → State → After
step_on s t st = with_back s.lent t (call_on s.call (lend s.lent t) st)

-- what stands after a list of calls, and their replies in order
pub record Trail : Type 0 where
  pub tables : Tables
  pub state : State
  pub replies : List Reply

abbrev pub before : Reply → Trail → Trail
before r rest = record { tables = rest.tables; state = rest.state; replies = r ∷ rest.replies }

unfoldable pub steps_on : List Step → Tables → State → Trail
steps_on [] t st = record { tables = t; state = st; replies = [] }
steps_on (s ∷ ss) t st = before (step_on s t st).reply (steps_on ss (step_on s t st).tables (step_on s t st).state)
