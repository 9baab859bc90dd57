-- Document 01: "Stamp (000, figure 1) is whole in one call and takes a list of all 2V literals. It starts at each root in list order, then at each literal not yet entered, in list order. .. The result is one record per literal: discovery, finish, parent, start.
-- A starting literal is its own parent. Records past 2V stay." Refusals 8 ("length not 2V (index 0), or first entry 0, out of range or repeated"), 6, 7 ("two different literals reach each other"). Assumes nothing: these are definitions.
use Rattle.std.specs.Prelude.{ℕ, ◌+◌, ◌*◌, Bool, true, false, not, ◌||◌, List, ◌++◌, map, length, get_or, take, drop, replicate, ltb, eqb, ℤ, pos, Result, Ok, Err}
use Rattle.base.specs.Lists.{absent, first, interleave}
use Rattle.literal.specs.Literals.{in_range, slot_of, lit_at}
use Rattle.literal.specs.Clauses.{has}
use Rattle.walk.specs.Walk.{Stamps, stamp_all}
use Rattle.implications.specs.Clauses.{implications, tos}
use Rattle.scc.specs.Groups.{blank, cyclic}
use Rattle.state.specs.States.{closed}
use Rattle.state.specs.declared.State.{State}
use Rattle.state.specs.declared.Refusal.{Refusal}
use Rattle.state.specs.declared.Refusal.TheVariants.{Unsettled, Cyclic, Order}
use Rattle.state.specs.declared.Answer.TheVariants.{Stamped}
use Rattle.tables.specs.Tables.{Tables, tables}
use Rattle.tables.specs.Clauses.{slots_from}
use Rattle.tables.specs.Passes.{first_unsettled}
use Rattle.tables.specs.Calls.{After, answered, refuse}
use Rattle.entry.specs.Entry.{opening_of}

-- ---- the list

-- entry i is 0 or out of range, or stands before
abbrev pub bad_entry : ℕ → List ℤ → ℕ → Bool
bad_entry v order i = not (in_range (get_or order i (pos 0)) v) || has (get_or order i (pos 0)) (take i order)

-- the first such entry; the list's length if there is none
unfoldable pub first_bad : ℕ → List ℤ → ℕ
first_bad v order = first (bad_entry v order) (length order) 0

-- ---- the walk

-- the stamps of the graph of the clauses, under an order of its slots; a root has no edge into it
unfoldable pub stamps_of : List (List ℕ) → ℕ → List ℕ → Stamps
stamps_of cs size order = stamp_all (implications cs) (λ q. absent q (tos cs)) order (blank size (replicate size 0) (replicate size 0) (replicate size 0))

-- one record per literal; the records past them stay
unfoldable pub stamped_tables : ℕ → Stamps → Tables → Tables
stamped_tables v σ t =
    tables t.clauses t.literals t.variables (interleave σ.discoveries σ.finishes ++ drop (4 * v) t.times)
    (interleave (map lit_at σ.parents) (map lit_at σ.starts) ++ drop (4 * v) t.links)

-- ---- the call

abbrev pub stamp_fresh : List ℤ → Tables → State → After
stamp_fresh order t st = answered Stamped (closed true st) (stamped_tables st.v (stamps_of (slots_from t.clauses t.literals st.n 0) (2 * st.v) (map slot_of order)) t)

unfoldable pub stamp_acyclic : List ℤ → Tables → State → After
stamp_acyclic order t st = elim (cyclic (implications (slots_from t.clauses t.literals st.n 0)) (2 * st.v)) [ true ↦ refuse Cyclic st t | false ↦ stamp_fresh order t st ]

unfoldable pub stamp_settled : List ℤ → Tables → State → After
stamp_settled order t st =
    elim (ltb (first_unsettled t st.n) st.n) [ true ↦ refuse (Unsettled (first_unsettled t st.n + 1)) st t | false ↦ stamp_acyclic order t st ]

unfoldable pub stamp_ordered : List ℤ → Tables → State → After
stamp_ordered order t st =
    elim (eqb (length order) (2 * st.v)) [
      | true ↦ elim (ltb (first_bad st.v order) (2 * st.v)) [ true ↦ refuse (Order (first_bad st.v order)) st t | false ↦ stamp_settled order t st ]
      | false ↦ refuse (Order 0) st t
    ]

abbrev pub stamp_by : Result (Unit {0}) Refusal → List ℤ → Tables → State → After
stamp_by (Err r) order t st = refuse r st t
stamp_by (Ok _) order t st = stamp_ordered order t st

unfoldable pub stamp_call : List ℤ → Tables → State → After
stamp_call order t st = stamp_by (opening_of t st) order t st
