-- Document 01, demand 3: "After an accepted load .."; document 02, CR 11: in all else a join "counts as one". What a list of calls begins with, as data: an accepted load or an accepted join. Assumes nothing: these are definitions.
use Rattle.std.specs.Prelude.{ℕ, ◌≡◌, List, ℤ}
use Rattle.state.specs.declared.State.{State}
use Rattle.tables.specs.Tables.{Tables}
use Rattle.tables.specs.Calls.{After}
use Rattle.dimacs.specs.Text.{judge_text, text_clauses}
use Rattle.window.specs.Window.{Places, AfterWindow}
use Rattle.load.specs.Load.{load_call, join_call, load_with, join_with}
use Rattle.write.specs.Write.{write_text}
use Rattle.join.specs.Join.{join_clauses, judge_join}
use Rattle.call_lists.specs.Lists.{Step, Trail, steps_on}
use Rattle.std.specs.Prelude.{Result}
use Rattle.dimacs.specs.declared.Header.{Header}
use Rattle.state.specs.declared.Refusal.{Refusal}

-- a load of a text; a join of a left and a right text by links
pub data Start : Type 0 where
  load : List ℕ → Start
  join : List ℕ → List ℕ → List ℕ → Start

abbrev pub start_on : Start → Tables → State → After
start_on (load text) t st = load_call text t st
start_on (join left right links) t st = join_call left right links t st

-- with a window
abbrev pub start_with : Start → Tables → State → Places → AfterWindow
start_with (load text) t st w = load_with text t st w
start_with (join left right links) t st w = join_with left right links t st w

-- the clauses as written, and the judgement on them
abbrev pub formula_of : Start → List (List ℤ)
formula_of (load text) = text_clauses text
formula_of (join left right links) = join_clauses left right links

abbrev pub verdict_on : Start → Result Header Refusal
verdict_on (load text) = judge_text text
verdict_on (join left right links) = judge_join left right links

-- the text of a load; of a join, what Write gives of what it left
abbrev pub text_by : Start → After → List ℕ
text_by (load text) made = text
text_by (join left right links) made = write_text made.tables made.state

-- a load or a join that was accepted, with the tables that were lent to it and the state that it was given
pub record Started : Type 0 where
  pub start : Start
  pub tables : Tables
  pub state : State
  pub accepted : (start_on start tables state).reply.number ≡ 0

-- its formula, what it left, its text, and what a list of calls then leaves
abbrev pub formula : Started → List (List ℤ)
formula b = formula_of b.start

abbrev pub begun : Started → After
begun b = start_on b.start b.tables b.state

-- Document 02, CR 11: "its text for CR 9 being what Write then gives": the text that a log is checked against
abbrev pub formula_text : Started → List ℕ
formula_text b = text_by b.start (begun b)

abbrev pub after : Started → List Step → Trail
after b ss = steps_on ss (begun b).tables (begun b).state
