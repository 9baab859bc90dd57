-- A worked case: a text is loaded into empty tables, a list of calls follows, and what is then seen is compared in one equation, so that everything is computed once. Or a text goes through the program; or a programme is set behind the load, and a run follows.
-- Assumes nothing: these are definitions.
use Rattle.std.specs.Prelude.{ℕ, ◌≡◌, Bool, List, [], ◌∷◌, map, length, take, ℤ}
use Prim.Native.String.{String}
use Rattle.base.specs.Bytes.{bytes}
use Rattle.state.specs.States.{empty_state}
use Rattle.state.specs.Answers.{Reply}
use Rattle.tables.specs.Calls.{After}
use Rattle.load.specs.Load.{load_call}
use Rattle.write.specs.Write.{write_text}
use Rattle.run.specs.Run.{run_call}
use Rattle.set_programme.specs.SetProgramme.{set_call}
use Rattle.simplify.specs.Texts.{empty_tables, unhide_text}
use Rattle.call_lists.specs.Lists.{Call, Step, Trail, steps_on}

-- every table is lent as stated
abbrev pub whole : Call → Step
whole c = record { call = c; lent = record { clauses = 12288; literals = 16384; variables = 2048; times = 4096; links = 4096 } }

-- what is seen after the calls: the replies of the load and of each call, the state, the fronts of the tables, and what Write gives
pub record Seen : Type 0 where
  pub replies : List Reply
  pub mark : Bool
  pub clauses : List ℕ
  pub literals : List ℤ
  pub variables : List ℤ
  pub times : List ℕ
  pub links : List ℤ
  pub written : List ℕ

-- as much of each table as the expectation has
abbrev pub see : Seen → Reply → Trail → Seen
see e first trail =
    record {
      replies = first ∷ trail.replies;
      mark = trail.state.mark;
      clauses = take (length e.clauses) trail.tables.clauses;
      literals = take (length e.literals) trail.tables.literals;
      variables = take (length e.variables) trail.tables.variables;
      times = take (length e.times) trail.tables.times;
      links = take (length e.links) trail.tables.links;
      written = write_text trail.tables trail.state;
    }

abbrev pub see_from : Seen → List Call → After → Seen
see_from e calls a = see e a.reply (steps_on (map whole calls) a.tables a.state)

pub data Case : Type 0 where
  -- a text, the calls, what is seen
  calls : String → List Call → Seen → Case
  -- an input of the program, what it prints
  prints : String → String → Case
  -- a text, the codes of a programme, a round count: the replies of the load, of the call that sets the programme and of the run, and what is then written
  runs : String → List ℕ → ℕ → List Reply → String → Case

-- what is seen after a load, a programme set and a run
pub record Ran : Type 0 where
  pub replies : List Reply
  pub written : List ℕ

abbrev pub see_run : Reply → After → After → Ran
see_run first set ran = record { replies = first ∷ set.reply ∷ ran.reply ∷ []; written = write_text ran.tables ran.state }

abbrev pub run_set : ℕ → Reply → After → Ran
run_set count first set = see_run first set (run_call count set.tables set.state)

abbrev pub run_loaded : List ℕ → ℕ → After → Ran
run_loaded codes count a = run_set count a.reply (set_call codes a.tables a.state)

abbrev pub Holds : Case → Type 0
Holds (calls text cs e) = see_from e cs (load_call (bytes text) empty_tables empty_state) ≡ e
Holds (prints input output) = unhide_text (bytes input) ≡ bytes output
Holds (runs text codes count replies written) = run_loaded codes count (load_call (bytes text) empty_tables empty_state) ≡ record { replies = replies; written = bytes written }

abbrev pub All : List Case → Type 0
All [] = Unit {0}
All (c ∷ cs) = Holds c × All cs
