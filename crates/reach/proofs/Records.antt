-- CHANGE REQUEST 13, over the calls that lend the stamps as a slice of records (`records_reach`): a call over records is one over their columns. Assumes nothing.
use mathlib.Core.Path.{◌≡◌, ap, subst, ◌∙◌}
use mathlib.Core.List.Memᴰ
use mathlib.Core.List.{List, map, Memᴰ}
use lib.IntN.{ℤ}
use Rattle.state.specs.declared.State.{State}
use Rattle.tables.specs.Calls.{After}
use Rattle.call_lists.specs.Lists.{stamp}
use Rattle.call_lists.specs.Lists as columns
use Rattle.recorded_calls.specs.Steps.{CallerTables, columned, AfterCall, Lent, Step, step_on, steps_on}
use Rattle.recorded_calls.proofs.Simulated.{step_in_columns, in_columns, step_simulated, steps_simulated}
use Rattle.reach.specs.Reach.{ReachKept}
use Rattle.reach.specs.Following.{Follows, Following}
use Rattle.reach.proofs.Kept.{reach_kept}

module _ (order : List ℤ) (lent : Lent) (h : CallerTables) (st : State) where
  -- what a Stamp leaves that is lent these parts
  abbrev stamped : AfterCall
  stamped = step_on (record { call = stamp order; lent = lent }) h st

  pub records_reach : stamped.reply.number ≡ 0 → (ss : List Step) → ((s : Step) → Memᴰ s ss → Follows s.call)
      → let now = steps_on ss stamped.held stamped.state in
      ReachKept (columned stamped.held) stamped.state (columned now.held) now.state
  records_reach taken ss may =
      subst (λ (w : columns.Trail). ReachKept (columned stamped.held) stamped.state w.tables w.state) (steps_simulated ss stamped.held stamped.state)
      (subst (λ (a : After). let now = columns.steps_on (map step_in_columns ss) a.tables a.state in ReachKept a.tables a.state now.tables now.state) same
      (reach_kept order (in_columns lent) (columned h) st (ap (λ (a : After). a.reply.number) same ∙ taken) (map step_in_columns ss) follows))
    where
      same : columns.step_on (record { call = stamp order; lent = in_columns lent }) (columned h) st ≡ record { reply = stamped.reply; state = stamped.state; tables = columned stamped.held }
      same = step_simulated (record { call = stamp order; lent = lent }) h st

      follows : Following (map step_in_columns ss)
      follows s m = let r = Memᴰ.of_map step_in_columns ss m in subst (λ (x : columns.Step). Follows x.call) r.2 (may r.0 r.1)
