-- Document 01: "Merge. The call that opens it, for any n, finds the groups of literals that reach each other. If v and −v share one, the mark is set, nothing else changes and it is Done.
-- Otherwise each literal's class becomes the group's smallest variable, with the sign that equality gives it; older classes pass through the new. Visits then put class literals in, remove repeats (the first stays) and drop a clause that has v and −v."
-- Assumes nothing: these are definitions.
use Rattle.std.specs.Prelude.{ℕ, zero, suc, ◌+◌, ◌*◌, Bool, true, false, List, [], ◌∷◌, ltb, ℤ, Result, Ok, Err}
use Rattle.base.specs.Lists.{any_below}
use Rattle.literal.specs.Literals.{slot_of, lit_at}
use Rattle.implications.specs.Clauses.{implications}
use Rattle.scc.specs.Groups.{connected, least_mutual}
use Rattle.state.specs.States.{marked}
use Rattle.state.specs.declared.State.{State}
use Rattle.state.specs.declared.Pass.TheVariants.{Merge}
use Rattle.state.specs.declared.Refusal.{Refusal}
use Rattle.state.specs.declared.Refusal.TheVariants.{Unsettled}
use Rattle.state.specs.declared.Answer.TheVariants.{Done}
use Rattle.tables.specs.Tables.{Tables, tables}
use Rattle.tables.specs.Clauses.{slots_from, gone}
use Rattle.tables.specs.Passes.{advance, first_unsettled}
use Rattle.tables.specs.Calls.{After, answered, refuse}
use Rattle.entry.specs.Entry.{entry_of}
use Rattle.entry.specs.declared.PassName.TheVariants as own
use Rattle.entry.specs.declared.Entry.{Entry}
use Rattle.entry.specs.declared.Entry.TheVariants.{Opens, Resumes}
use Rattle.merge_visits.specs.Clause.{merge_clause}

-- ---- the groups

-- where the edges of a slot go, in the graph of the standing two-literal clauses among the first n
abbrev pub edges_of : Tables → ℕ → ℕ → List ℕ
edges_of t n = implications (slots_from t.clauses t.literals n 0)

-- v and −v share a group, for one of v variables
unfoldable pub clashes : (ℕ → List ℕ) → ℕ → Bool
clashes adj v = any_below v (λ w. connected adj (2 * v) (2 * w) (2 * w + 1))

-- the literal that now stands for the literal l: the least slot of its group has the group's smallest variable, and the sign that equality gives it
unfoldable pub representative : (ℕ → List ℕ) → ℕ → ℤ → ℤ
representative adj v l = lit_at (least_mutual adj (2 * v) (slot_of l))

-- the records (class, value) of m variables with new classes: an older class passes through the new one
unfoldable pub regrouped : (ℤ → ℤ) → ℕ → List ℤ → List ℤ
regrouped new zero rs = rs
regrouped new (suc m) [] = []
regrouped new (suc m) (class ∷ []) = class ∷ []
regrouped new (suc m) (class ∷ value ∷ rs) = new class ∷ value ∷ regrouped new m rs

unfoldable pub merged_classes : ℕ → ℕ → Tables → Tables
merged_classes v n t = tables t.clauses t.literals (regrouped (representative (edges_of t n) v) v t.variables) t.times t.links

-- ---- the call

-- visits from clause k on; Merge leaves the stamps as its opening did
abbrev pub merge_from : Bool → ℕ → ℕ → Tables → State → After
merge_from fresh steps k t st = advance (merge_clause t.variables) Merge fresh fresh steps k t st

unfoldable pub merge_open : ℕ → Tables → State → After
merge_open steps t st =
    elim (clashes (edges_of t st.n) st.v) [
      | true ↦ answered (Done (gone 0 st.n t.clauses t.clauses)) (marked st) t
      | false ↦ merge_from false steps 0 (merged_classes st.v st.n t) st
    ]

-- refusal 6 names the clause by its number, which counts from 1
unfoldable pub merge_settled : ℕ → Tables → State → After
merge_settled steps t st =
    elim (ltb (first_unsettled t st.n) st.n) [ true ↦ refuse (Unsettled (first_unsettled t st.n + 1)) st t | false ↦ merge_open steps t st ]

abbrev pub merge_by : Result Entry Refusal → ℕ → Tables → State → After
merge_by (Err r) steps t st = refuse r st t
merge_by (Ok Opens) steps t st = merge_settled steps t st
merge_by (Ok (Resumes k changed)) steps t st = merge_from st.fresh steps k t st

unfoldable pub merge_call : ℕ → Tables → State → After
merge_call steps t st = merge_by (entry_of own.Merge t st) steps t st
