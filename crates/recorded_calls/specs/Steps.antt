-- Document 01, demand 3, of the calls that lend the stamps as a slice of records: a list of them as data, each with how much of every table its caller lends, and what they leave, as the contracts of crate `calls` say it.
-- Assumes nothing: these are definitions.
use Rattle.std.specs.Prelude.{ℕ, ◌≡◌, List, [], ◌∷◌, ◌++◌, take, drop, ℤ}
use Rattle.state.specs.Answers.{Reply, reply_of}
use Rattle.state.specs.declared.State.{State}
use Rattle.state.specs.declared.Outcome.{Outcome}
use Rattle.stamp_records.specs.declared.StampRecord.{StampRecord}
use Rattle.tables.specs.Tables.{Tables}
use Rattle.tables.specs.Calls.{After}
use Rattle.load.specs.Load.{load_call}
use Rattle.call_lists.specs.Starts.{Start, start_on}
use Rattle.propagate.specs.Propagate.{propagate_call}
use Rattle.merge.specs.Merge.{merge_call}
use Rattle.stamp.specs.Stamp.{stamp_call}
use Rattle.failed.specs.Failed.{failed_call}
use Rattle.sweep.specs.Sweep.{sweep_call}
use Rattle.run.specs.Run.{run_call}
use Rattle.set_programme.specs.SetProgramme.{set_call}
use Rattle.calls.specs.Calls.{recorded, in_records, run_in_records}
use Rattle.call_lists.specs.Lists.{Call, propagate, merge, stamp, failed, sweep, programme}

-- what the caller holds: the tables, the stamps as records
pub record CallerTables : Type 0 where
  pub clauses : List ℕ
  pub literals : List ℤ
  pub variables : List ℤ
  pub stamps : List StampRecord

abbrev pub caller_tables : List ℕ → List ℤ → List ℤ → List StampRecord → CallerTables
caller_tables c l v s = record { clauses = c; literals = l; variables = v; stamps = s }

-- the tables that the definitions of the calls read in it: of the stamps, the columns of the first 2,048 records
abbrev pub columned : CallerTables → Tables
columned h = recorded h.clauses h.literals h.variables h.stamps

-- what a call leaves: its reply, the state, and what its caller then holds
pub record AfterCall : Type 0 where
  pub reply : Reply
  pub state : State
  pub held : CallerTables

abbrev pub leaving : Outcome → CallerTables → AfterCall
leaving o h = record { reply = reply_of o.answer; state = o.state; held = h }

-- ---- one call on what is lent

-- the stamps are lent for reading only
abbrev pub reading_stamps : After → List StampRecord → AfterCall
reading_stamps a stamps = record { reply = a.reply; state = a.state; held = caller_tables a.tables.clauses a.tables.literals a.tables.variables stamps }

-- Stamp writes the lent records, and the other tables are lent to it for reading only
abbrev pub writing_stamps : After → CallerTables → AfterCall
writing_stamps a h = record { reply = a.reply; state = a.state; held = caller_tables h.clauses h.literals h.variables (in_records a h.stamps).stamps }

abbrev pub call_on_records : Call → CallerTables → State → AfterCall
call_on_records (propagate steps) h st = reading_stamps (propagate_call steps (columned h) st) h.stamps
call_on_records (merge steps) h st = reading_stamps (merge_call steps (columned h) st) h.stamps
call_on_records (stamp order) h st = writing_stamps (stamp_call order (columned h) st) h
call_on_records failed h st = reading_stamps (failed_call (columned h) st) h.stamps
call_on_records (sweep steps) h st = reading_stamps (sweep_call steps (columned h) st) h.stamps
call_on_records (programme codes) h st = reading_stamps (set_call codes (columned h) st) h.stamps

abbrev pub load_on_records : List ℕ → CallerTables → State → AfterCall
load_on_records text h st = reading_stamps (load_call text (columned h) st) h.stamps

-- a load, or a join, which crate `calls` does not have: it is made on the records' columns and leaves the records
abbrev pub start_on_records : Start → CallerTables → State → AfterCall
start_on_records s h st = reading_stamps (start_on s (columned h) st) h.stamps

-- one that was accepted, with the tables that were lent to it and the state that it was given
pub record StartedOnRecords : Type 0 where
  pub start : Start
  pub held : CallerTables
  pub state : State
  pub accepted : (start_on_records start held state).reply.number ≡ 0

abbrev pub begun_on_records : StartedOnRecords → AfterCall
begun_on_records b = start_on_records b.start b.held b.state

-- Run writes the lent records and the other tables
abbrev pub run_on_records : ℕ → CallerTables → State → AfterCall
run_on_records count h st =
    let a = run_in_records (run_call count (columned h) st) h.stamps in
    record { reply = a.reply; state = a.state; held = caller_tables a.clauses a.literals a.variables a.stamps }

-- ---- parts that are lent

-- how many numbers of each table, and how many stamp records
pub record Lent : Type 0 where
  pub clauses : ℕ
  pub literals : ℕ
  pub variables : ℕ
  pub stamps : ℕ

abbrev pub lend : Lent → CallerTables → CallerTables
lend k h = caller_tables (take k.clauses h.clauses) (take k.literals h.literals) (take k.variables h.variables) (take k.stamps h.stamps)

-- the lent fronts come back, and what was not lent is as it was
abbrev pub give_back : Lent → CallerTables → CallerTables → CallerTables
give_back k h lent =
    caller_tables (lent.clauses ++ drop k.clauses h.clauses) (lent.literals ++ drop k.literals h.literals) (lent.variables ++ drop k.variables h.variables)
    (lent.stamps ++ drop k.stamps h.stamps)

-- ---- lists of calls

pub record Step : Type 0 where
  pub call : Call
  pub lent : Lent

abbrev pub with_back : Lent → CallerTables → AfterCall → AfterCall
with_back k h made = record { reply = made.reply; state = made.state; held = give_back k h made.held }

unfoldable pub step_on : Step → CallerTables → State → AfterCall
step_on s h st = with_back s.lent h (call_on_records s.call (lend s.lent h) st)

-- what stands after a list of calls, and their replies in order
pub record Trail : Type 0 where
  pub held : CallerTables
  pub state : State
  pub replies : List Reply

abbrev pub before : Reply → Trail → Trail
before r rest = record { held = rest.held; state = rest.state; replies = r ∷ rest.replies }

unfoldable pub steps_on : List Step → CallerTables → State → Trail
steps_on [] h st = record { held = h; state = st; replies = [] }
steps_on (s ∷ ss) h st = before (step_on s h st).reply (steps_on ss (step_on s h st).held (step_on s h st).state)
