-- A whole Merge: where v and −v share a group it only sets the mark; else it makes all its visits and is done, with the tables formed. Assumes nothing.
use native.Mathlib.Omega.{arith}
use mathlib.Core.Path.{◌≡◌, refl, ap, ◌∙◌}
use mathlib.Core.Bool.{true, false}
use mathlib.Core.List.{List}
use lib.IntN.{ℤ}
use Rattle.state.specs.States.{closed, marked}
use Rattle.state.specs.declared.State.{State}
use Rattle.state.specs.declared.Pass.TheVariants.{Merge}
use Rattle.tables.specs.Tables.{Tables}
use Rattle.tables.specs.Fates.{visits}
use Rattle.tables.specs.Passes.{first_unsettled}
use Rattle.visits.proofs.Visiting.{visits_beside}
use Rattle.visits.proofs.StoreKeeps.{FormedTo}
use Rattle.visits.proofs.Advancing.{advance_whole}
use Rattle.merge.specs.Merge.{edges_of, clashes, representative, regrouped, merged_classes}
use Rattle.merge_visits.specs.Clause.{merge_clause}
use Rattle.merge.proofs.Merged.{classes_formed}
use Rattle.merge_visits.proofs.Visiting.{merge_shrinks}
use Rattle.merge_visits.proofs.VisitKeeps.{formed_visits}
use Rattle.merge.proofs.Calling.{open_clash, open_none}
use Rattle.settle.specs.Settle.{between, merged}
use Rattle.settle.specs.Steps.{standing_in}

-- the classes that the opening makes
abbrev pub new_classes : Tables → State → List ℤ
new_classes t st = regrouped (representative (edges_of t st.n) st.v) st.v t.variables

-- the tables after all visits
abbrev pub merged_tables : Tables → State → Tables
merged_tables t st = visits (merge_clause (new_classes t st)) st.n 0 (merged_classes st.v st.n t)

-- the state in which a pass ends
abbrev pub ended : State → State
ended st = closed false st

module _ (t : Tables) (st : State) where
  pub merged_clash : clashes (edges_of t st.n) st.v ≡ true → merged (standing_in t st) ≡ standing_in t (marked st)
  merged_clash e = ap between (open_clash st.n st t e)

  pub merged_visits : clashes (edges_of t st.n) st.v ≡ false → merged (standing_in t st) ≡ standing_in (merged_tables t st) (ended st)
  unfolding merged_classes
  merged_visits e = ap between (open_none st.n st t e ∙ advance_whole Merge false false (merge_clause (new_classes t st)) (merged_classes st.v st.n t) st)

  -- the visits leave the new classes
  pub merged_variables : (merged_tables t st).variables ≡ new_classes t st
  unfolding merged_classes
  merged_variables = (visits_beside (merge_clause (new_classes t st)) (merge_shrinks (new_classes t st)) st.n 0 (merged_classes st.v st.n t)).variables

  pub merged_keeps : FormedTo st.v st.n st.n t → clashes (edges_of t st.n) st.v ≡ false → first_unsettled t st.n ≡ st.n → FormedTo st.v st.n st.n (merged_tables t st)
  unfolding merged_classes
  merged_keeps F none settled = formed_visits st.v st.n st.n 0 st.n (new_classes t st) (merged_classes st.v st.n t) refl (omega arith) (omega arith) (classes_formed t F none settled)
