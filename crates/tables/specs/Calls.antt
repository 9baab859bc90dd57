-- What a call leaves: its reply, the state and the tables. A call's contract is one equation between two of these. Assumes nothing: these are definitions.
use Rattle.std.specs.Prelude.{Ok, Err}
use Rattle.state.specs.Answers.{Reply, reply_of}
use Rattle.state.specs.declared.State.{State}
use Rattle.state.specs.declared.Refusal.{Refusal}
use Rattle.state.specs.declared.Answer.{Answer}
use Rattle.state.specs.declared.Outcome.{Outcome}
use Rattle.tables.specs.Tables.{Tables}

pub record After : Type 0 where
  pub reply : Reply
  pub state : State
  pub tables : Tables

-- an answer with the state and the tables that go with it
abbrev pub answered : Answer → State → Tables → After
answered a st t = record { reply = reply_of (Ok a); state = st; tables = t }

-- what the code's outcome says, with the tables at the end of the call
abbrev pub after : Outcome → Tables → After
after o t = record { reply = reply_of o.answer; state = o.state; tables = t }

-- "A refusal returns its number and a place .. and changes nothing."
abbrev pub refuse : Refusal → State → Tables → After
refuse r st t = record { reply = reply_of (Err r); state = st; tables = t }
