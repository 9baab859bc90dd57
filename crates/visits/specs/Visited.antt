-- What the functions of a visit say to each other, and what a call answers when its visits are made. Assumes nothing: these are definitions.
use Rattle.std.specs.Prelude.{ℕ, ◌+◌, ◌*◌, ◌≤◌, ◌<◌, Bool, true, false, List, [], length, set, ltb, ℤ, nat_abs}
use Rattle.state.specs.States.{opened, closed}
use Rattle.state.specs.declared.State.{State}
use Rattle.state.specs.declared.Counts.{Counts}
use Rattle.state.specs.declared.Pass.{Pass}
use Rattle.state.specs.declared.Answer.TheVariants.{Open, Done}
use Rattle.tables.specs.Tables.{Tables, start_of, length_of}
use Rattle.tables.specs.Values.{set_true}
use Rattle.tables.specs.Fates.{Fate, kept, left, dropped, unit, conflict, store, fate_at}
use Rattle.tables.specs.Calls.{After, answered}
use Rattle.visits.specs.Formed.{Formed}
use Rattle.literal.specs.Holding.{holding}
use Rattle.visits.specs.declared.Visited.{Visited}
use Rattle.visits.specs.declared.Visited.TheVariants.{Kept, Left, Dropped, MadeTrue, Conflict}

-- ---- what a visit asks

-- clause k has a record, and its part lies within the places that are stated
pub record Placed (k : ℕ) (clauses : List ℕ) : Type 0 where
  pub record_in : (3 * k + 2 < length clauses) × (k ≤ 4096)
  pub within : start_of clauses k + length_of clauses k ≤ 16384

-- clause k of tables without the mark, of which the first `settled` clauses are settled
pub record Visitable (k : ℕ) (clauses : List ℕ) (literals variables : List ℤ) : Type 0 where
  pub vars : ℕ
  pub number : ℕ
  pub settled : ℕ
  pub formed : Formed vars number settled false clauses literals variables
  pub below : k < number

-- ---- what a visit leaves

-- a fate, as the code answers it
abbrev pub visited_as : Fate → Visited
visited_as kept = Kept
visited_as (left C) = Left (length C)
visited_as dropped = Dropped
visited_as (unit l) = MadeTrue (nat_abs l)
visited_as conflict = Conflict

-- the answer, and the clause's part after it
pub record Part : Type 0 where
  pub visited : Visited
  pub part : List ℤ

abbrev pub part_of : Visited → List ℤ → Part
part_of visited part = record { visited = visited; part = part }

abbrev pub part_after : Fate → List ℤ → Part
part_after kept part = part_of Kept part
part_after (left C) part = part_of (Left (length C)) (holding C part)
part_after dropped part = part_of Dropped (holding [] part)
part_after (unit l) part = part_of (MadeTrue (nat_abs l)) (holding [] part)
part_after conflict part = part_of Conflict (holding [] part)

abbrev pub variables_after : Fate → List ℤ → List ℤ
variables_after kept variables = variables
variables_after (left C) variables = variables
variables_after dropped variables = variables
variables_after (unit l) variables = set_true variables l
variables_after conflict variables = variables

-- the clause records after a visit to clause k
abbrev pub record_after : ℕ → Visited → List ℕ → List ℕ
record_after k Kept clauses = clauses
record_after k (Left n) clauses = set clauses (3 * k + 1) n
record_after k Dropped clauses = set (set clauses (3 * k + 1) 0) (3 * k + 2) 0
record_after k (MadeTrue w) clauses = set (set clauses (3 * k + 1) 0) (3 * k + 2) 0
record_after k Conflict clauses = set clauses (3 * k + 1) 0

-- the answer, and the tables after it
pub record Visit : Type 0 where
  pub visited : Visited
  pub tables : Tables

abbrev pub visit_of : Visited → Tables → Visit
visit_of visited t = record { visited = visited; tables = t }

abbrev pub visit_by : ℕ → Fate → Tables → Visit
visit_by k f t = visit_of (visited_as f) (store k f t)

-- a visit by a rule to clause k
unfoldable pub visit_at : (List ℤ → Fate) → ℕ → Tables → Visit
visit_at rule k t = visit_by k (fate_at rule k t) t

-- ---- the call

-- a call that has made its visits and stands before clause k: `stopped_at`, by the counts; `pass` is the pass with its cursor
abbrev pub stands_at : Pass → Bool → Bool → Counts → ℕ → State → Tables → After
stands_at pass freshOpen freshDone counts k st t =
    elim (ltb k st.n) [
      | true ↦ answered (Open counts) (opened pass freshOpen st) t
      | false ↦ answered (Done counts) (closed freshDone st) t
    ]
