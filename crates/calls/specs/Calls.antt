-- The tables with the stamps as records in a slice that the caller lends, and what Stamp and Run leave in that slice. Assumes nothing: these are definitions.
use Rattle.std.specs.Prelude.{ℕ, List, ℤ}
use Rattle.state.specs.Answers.{Reply, reply_of}
use Rattle.state.specs.declared.State.{State}
use Rattle.state.specs.declared.Outcome.{Outcome}
use Rattle.stamp_records.specs.declared.StampRecord.{StampRecord}
use Rattle.stamp_records.specs.Records.{times_of, links_of, packed}
use Rattle.tables.specs.Tables.{Tables, tables}
use Rattle.tables.specs.Calls.{After}

-- the tables that the definitions of the calls speak of: a slice of fewer than 2,048 records gives columns that are too short, which every call refuses
abbrev pub recorded : List ℕ → List ℤ → List ℤ → List StampRecord → Tables
recorded clauses literals variables stamps = tables clauses literals variables (times_of stamps) (links_of stamps)

-- what Stamp leaves: its reply, the state and the lent records. The other tables are lent to it for reading only
pub record AfterStamp : Type 0 where
  pub reply : Reply
  pub state : State
  pub stamps : List StampRecord

abbrev pub after_stamp : Outcome → List StampRecord → AfterStamp
after_stamp o stamps = record { reply = reply_of o.answer; state = o.state; stamps = stamps }

-- the definition's tables as records: the columns are put over the lent records, so that later ones stay
abbrev pub in_records : After → List StampRecord → AfterStamp
in_records a stamps = record { reply = a.reply; state = a.state; stamps = packed a.tables.times a.tables.links stamps }

-- what Run leaves: its reply, the state, the tables and the lent records
pub record AfterRun : Type 0 where
  pub reply : Reply
  pub state : State
  pub clauses : List ℕ
  pub literals : List ℤ
  pub variables : List ℤ
  pub stamps : List StampRecord

abbrev pub after_run : Outcome → List ℕ → List ℤ → List ℤ → List StampRecord → AfterRun
after_run o clauses literals variables stamps = record { reply = reply_of o.answer; state = o.state; clauses = clauses; literals = literals; variables = variables; stamps = stamps }

-- the definition's tables, the stamps as records over the lent ones
abbrev pub run_in_records : After → List StampRecord → AfterRun
run_in_records a stamps = record {
  reply = a.reply;
  state = a.state;
  clauses = a.tables.clauses;
  literals = a.tables.literals;
  variables = a.tables.variables;
  stamps = packed a.tables.times a.tables.links stamps;
}
