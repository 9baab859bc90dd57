-- After an accepted join and any list of calls, refused ones included, an assignment satisfies what stands exactly when its left share satisfies the left text's clauses and its right share, through the links, the right's. Assumes nothing.
use Prim.Native.Nat.{ℕ}
use mathlib.Core.Path.{◌≡◌}
use mathlib.Core.Logic.Iff
use mathlib.Core.Logic.{◌↔◌}
use mathlib.Core.List.{List}
use Rattle.literal.specs.Assignments.{Assignment, Satisfies}
use Rattle.state.specs.declared.State.{State}
use Rattle.tables.specs.Tables.{Tables}
use Rattle.tables.specs.Stands.{Stands}
use Rattle.dimacs.specs.Text.{judge_text, text_clauses}
use Rattle.load.specs.Load.{join_call}
use Rattle.join.specs.Join.{variables_by}
use Rattle.call_lists.specs.Lists.{Step}
use Rattle.call_lists.specs.Starts.{join, Started, after}
use Rattle.refinement.proofs.Starting.{started_laid}
use Rattle.refinement.proofs.Demand3.{demand_3}
use Rattle.shares.specs.Shares.{left_share, right_share}
use Rattle.shares.proofs.Shares.{join_shares}

module _ (left right links : List ℕ) (t : Tables) (st : State) (accepted : (join_call left right links t st).reply.number ≡ 0) (ss : List Step) where
  abbrev begins : Started
  begins = record { start = join left right links; tables = t; state = st; accepted = accepted }

  pub join_stands : (τ : Assignment) → Stands (after begins ss).tables (after begins ss).state τ
      ↔ (Satisfies (left_share τ) (text_clauses left) × Satisfies (right_share (variables_by (judge_text left)) links τ) (text_clauses right))
  join_stands τ = let L = started_laid begins in Iff.trans (demand_3 begins ss τ) ((join_shares left right links L.v L.n L.body L.fits).satisfied τ)
