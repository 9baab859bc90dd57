-- Document 01: "Settle repeats whole Propagate and Merge passes until a Merge finds only groups of one." Assumes nothing: these are definitions.
use Rattle.std.specs.Prelude.{ℕ, zero, suc, ◌+◌, ◌*◌, Bool, true, false, take}
use Rattle.scc.specs.Groups.{cyclic}
use Rattle.state.specs.declared.State.{State}
use Rattle.tables.specs.Tables.{Tables}
use Rattle.tables.specs.Clauses.{literal_count}
use Rattle.tables.specs.Calls.{After}
use Rattle.propagate.specs.Propagate.{propagate_from}
use Rattle.propagate_visits.specs.Visits.{begin}
use Rattle.merge.specs.Merge.{edges_of, merge_open}

-- the tables and the state between two passes of a run
pub record Standing : Type 0 where
  pub tables : Tables
  pub state : State

abbrev pub between : After → Standing
between a = record { tables = a.tables; state = a.state }

-- each time through the clauses but the last takes a literal away, so a whole Propagate makes at most so many visits
abbrev pub enough : Tables → State → ℕ
enough t st = (literal_count (take (3 * st.n) t.clauses) + 2) * st.n

-- a whole Propagate
abbrev pub propagated : Standing → Standing
propagated w = between (propagate_from false (enough w.tables w.state) (begin w.state.n w.tables) w.tables w.state)

-- a whole Merge
abbrev pub merged : Standing → Standing
merged w = between (merge_open w.state.n w.tables w.state)

-- a Merge would find a group of two or more
abbrev pub grouped : Standing → Bool
grouped w = cyclic (edges_of w.tables w.state.n) (2 * w.state.v)

-- what follows unless the mark is set
abbrev pub unmarked : Standing → (Standing → Standing) → Standing
unmarked w next = elim w.state.mark [ true ↦ w | false ↦ next w ]

-- each Merge that finds a group leaves fewer variables their own class, so the number of variables and one more is enough
unfoldable pub settle_for : ℕ → Standing → Standing
settle_for zero w = w
settle_for (suc fuel) w = unmarked (propagated w) (λ p. unmarked (merged p) (λ m. elim (grouped p) [ true ↦ settle_for fuel m | false ↦ m ]))

unfoldable pub settle : Standing → Standing
settle w = settle_for (w.state.v + 1) w
