-- CHANGE REQUEST 13, over the calls as their users see them. Tables and state of any origin on which a Stamp was accepted, and behind it any list of Sweep calls with any step counts, finished or stopped, refused ones included, any parts of the tables lent:
-- if no two-literal clause was shortened, what could be reached in the stamped graph can be reached over the two-literal clauses that now stand; if no clause was shortened at all, the reach is the same (`reach_kept`). Behind an accepted load and any list of calls: `loaded_reach`.
-- Assumes nothing.
use Prim.Native.Nat.{ℕ}
use mathlib.Core.Path.{◌≡◌, refl, sym, subst}
use mathlib.Core.List.{List}
use lib.IntN.{ℤ}
use Rattle.walk.specs.Walk.{Stamps}
use Rattle.state.specs.declared.State.{State}
use Rattle.tables.specs.Tables.{Tables}
use Rattle.tables.specs.Calls.{After}
use Rattle.call_lists.specs.Starts.{Start, start_on}
use Rattle.stamp.specs.Stamp.{stamp_call}
use Rattle.sound.specs.Formula.{Clause}
use Rattle.sound.specs.Sweep.{visit_first}
use Rattle.sound.proofs.Fresh.{Fresh}
use Rattle.moves.specs.Core.{Core}
use Rattle.moves.specs.Moves.{spent, stay, go}
use Rattle.moves.proofs.Keeps.{moves_kept}
use Rattle.paper.specs.Stamping.{walk_of}
use Rattle.paper.proofs.Accepted.{Accepted, accepted}
use Rattle.call_lists.specs.Lists.{stamp, Lent, lend, Step, step_on, steps_on}
use Rattle.refinement.specs.Represented.{Represented, core_of}
use Rattle.refinement.proofs.Standing.{core_represented}
use Rattle.refinement.proofs.Held.{HeldBy}
use Rattle.refinement.proofs.HeldStamp.{stamps_move, stamped_held}
use Rattle.refinement.proofs.Fronts.{held_same}
use Rattle.refinement.proofs.Demand3.{back_fronts}
use Rattle.reach.specs.Reach.{ReachKept}
use Rattle.reach.specs.Following.{Following}
use Rattle.reach.proofs.Swept.{Cursor, SweptOf, swept_lasting, follow_held}
use Rattle.reach.proofs.Between.{Begun, swept_reach}

-- where no visit is made, the clauses are a sweep of themselves
begun_swept : (vars : ℕ) (σ : Stamps) (f : List Clause) {t : Tables} {st : State} → HeldBy (Begun vars σ f) t st → HeldBy (SweptOf vars σ f) t st
unfolding visit_first
begun_swept vars σ f H =
    record {
      core = H.core;
      stamped = H.stamped;
      so = record { variables = H.so.variables; count = 0; swept = H.so.clauses; cursor = subst (Cursor σ 0) (sym H.so.cursor) (refl, refl) };
      shape = H.shape;
      tied = H.tied;
      stamps = H.stamps;
    }

-- ---- the theorem

module _ (order : List ℤ) (lent : Lent) (t : Tables) (st : State) where
  -- what a Stamp leaves that is lent these parts of the tables
  abbrev stamped : After
  stamped = step_on (record { call = stamp order; lent = lent }) t st

  pub reach_kept : stamped.reply.number ≡ 0 → (ss : List Step) → Following ss → let now = steps_on ss stamped.tables stamped.state in ReachKept stamped.tables stamped.state now.tables now.state
  unfolding step_on visit_first
  reach_kept taken ss may = swept_reach st.v σ G.then G.ready begun (follow_held (swept_lasting st.v σ G.then) ss may stamped.tables stamped.state (begun_swept st.v σ G.then begun))
    where
      u : Tables
      u = lend lent t

      σ : Stamps
      σ = walk_of order u st

      A : Accepted order u st
      A = accepted order u st taken

      k : Core
      k = core_of st.v st.n st.mark u

      R : Represented st.v st.n st.mark u k
      R = core_represented st.v st.n st.mark u

      G : Fresh st.v σ 0 k.clauses
      G = (moves_kept (go stay (stamps_move A.known k R A.acyclic spent)) tt).0

      on_lent : HeldBy (Begun st.v σ G.then) (stamp_call order u st).tables (stamp_call order u st).state
      on_lent =
          subst (λ (a : After). HeldBy (Begun st.v σ G.then) a.tables a.state) (sym A.answer)
          (stamped_held A.known k R (record { variables = refl; clauses = G.swept; cursor = refl }))

      begun : HeldBy (Begun st.v σ G.then) stamped.tables stamped.state
      begun = held_same (back_fronts lent t (stamp_call order u st).tables on_lent.shape.long) on_lent

-- and so behind a load or a join and any list of calls, refused ones included
pub loaded_reach : (s : Start) (t : Tables) (st : State) (before : List Step) (order : List ℤ) (lent : Lent)
    → let loaded = start_on s t st in
    let stood = steps_on before loaded.tables loaded.state in
    let stamped = step_on (record { call = stamp order; lent = lent }) stood.tables stood.state in
    stamped.reply.number ≡ 0 → (ss : List Step) → Following ss
    → let now = steps_on ss stamped.tables stamped.state in
    ReachKept stamped.tables stamped.state now.tables now.state
loaded_reach s t st before order lent =
    let loaded = start_on s t st in
    let stood = steps_on before loaded.tables loaded.state in
    reach_kept order lent stood.tables stood.state
