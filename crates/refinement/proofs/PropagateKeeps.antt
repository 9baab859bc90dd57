-- Propagate's theorem, over the call as its user sees it: whatever the tables, the state and the step count, an assignment satisfies what stands after the call exactly if it satisfied what stood before; refused calls included.
-- Assumes nothing.
use Prim.Native.Nat.{ℕ, zero, suc}
use mathlib.Core.Path.{◌≡◌, refl, sym, subst}
use mathlib.Core.Bool.{Bool, false}
use mathlib.Core.Logic.Iff
use mathlib.Core.Logic.{◌↔◌}
use mathlib.Core.List.{List}
use Rattle.std.specs.Prelude.{Result, Ok, Err}
use Rattle.literal.specs.Assignments.{Assignment}
use Rattle.state.specs.declared.State.{State}
use Rattle.state.specs.declared.Refusal.{Refusal}
use Rattle.tables.specs.Tables.{Tables}
use Rattle.tables.specs.Stands.{Stands}
use Rattle.shape.specs.Shape.{Spread}
use Rattle.entry.specs.Entry.{entry_of}
use Rattle.entry.specs.declared.PassName.TheVariants as own
use Rattle.entry.specs.declared.Entry.{Entry}
use Rattle.entry.specs.declared.Entry.TheVariants.{Opens, Resumes}
use Rattle.entry.proofs.Entering.{opens_entered, resumes_entered}
use Rattle.visits.specs.Formed.{Formed}
use Rattle.visits.proofs.Entered.{entered_formed, entered_cursor}
use Rattle.spread.specs.Spread.{spread_tables}
use Rattle.spread.proofs.Spreading.{spread_done, spread_formed}
use Rattle.propagate.specs.Propagate.{propagate_from, replied, propagate_by, propagate_call}
use Rattle.propagate_visits.specs.Visits.{Progress, going, settled, contradicted, begin, propagate_visits}
use Rattle.propagate_visits.proofs.Stepping.{Good, visits_good}
use Rattle.propagate.proofs.Shaped.{begin_good}
use Rattle.moves.specs.Core as core
use Rattle.moves.proofs.Keeps.{moves_kept}
use Rattle.refinement.specs.Represented.{Represented, core_of}
use Rattle.refinement.proofs.Literals.{spread_represented}
use Rattle.refinement.proofs.Standing.{core_represented}
use Rattle.refinement.proofs.Equivalent.{tie}
use Rattle.refinement.proofs.Propagated.{Simulated}
use Rattle.refinement.proofs.Propagation.{Tied, Follows, visits_follow}

module _ (t : Tables) (st : State) (F : Formed st.v st.n st.n false t.clauses t.literals t.variables) (values : Spread st.v t.variables) (unmarked : st.mark ≡ false) (τ : Assignment) where
  k : core.Core
  k = core_of st.v st.n false t

  before_tie : Stands t st τ ↔ core.ModelOf k τ
  unfolding k
  before_tie =
      tie st t (core_of st.v st.n false t) st.n (subst (λ (b : Bool). Formed st.v st.n st.n b t.clauses t.literals t.variables) (sym unmarked) F) values
      (subst (λ (b : Bool). Represented st.v st.n b t (core_of st.v st.n false t)) (sym unmarked) (core_represented st.v st.n false t)) τ

  -- tables that the visits have reached, once their values are spread
  reached_tie : (st' : State) (t' : Tables) → Formed st'.v st'.n st.n st'.mark t'.clauses t'.literals t'.variables → Simulated st'.v st'.n st'.mark t' k → Stands (spread_tables st'.v t') st' τ ↔ Stands t st τ
  reached_tie st' t' G S =
      Iff.trans (tie st' (spread_tables st'.v t') S.to st.n (spread_formed G) (spread_done G.vars) (spread_represented G.vars S.tied) τ) (Iff.trans ((moves_kept S.moves tt).1 τ) (Iff.symm before_tie))

  -- wherever the visits end
  after_tie : (fresh : Bool) (m : ℕ) (before : List ℕ) (q : Progress) → Good st.v st.n q → Follows st.v st.n q k → Stands (spread_tables st.v (replied fresh before st m q).tables) (replied fresh before st m q).state τ ↔ Stands t st τ
  after_tie fresh m before (going i changed t') G S = reached_tie (replied fresh before st m (going i changed t')).state t' G.0 (record { to = S.to; moves = S.moves; tied = S.tied })
  after_tie fresh m before (settled t') G S = reached_tie (replied fresh before st m (settled t')).state t' G (record { to = S.to; moves = S.moves; tied = S.tied })
  after_tie fresh m before (contradicted t') G S = reached_tie (replied fresh before st m (contradicted t')).state t' G (record { to = S.to; moves = S.moves; tied = S.tied })

  from_keeps : (fresh : Bool) (steps : ℕ) (p : Progress) → Good st.v st.n p → Tied st.v st.n p k → Stands (propagate_from fresh steps p t st).tables (propagate_from fresh steps p t st).state τ ↔ Stands t st τ
  unfolding propagate_from
  from_keeps fresh steps p G R =
      after_tie fresh (propagate_visits st.n steps 0 p).visits t.clauses (propagate_visits st.n steps 0 p).progress (visits_good st.v st.n steps 0 p G) (visits_follow st.v st.n steps 0 p k G R)

pub begin_tied : (v n : ℕ) (t : Tables) (k : core.Core) → Represented v n false t k → Tied v n (begin n t) k
begin_tied v zero t k R = R
begin_tied v (suc n) t k R = R

-- THE THEOREM
pub propagate_keeps : (steps : ℕ) (t : Tables) (st : State) (τ : Assignment) → Stands (propagate_call steps t st).tables (propagate_call steps t st).state τ ↔ Stands t st τ
unfolding propagate_call k
propagate_keeps steps t st τ = by (entry_of own.Propagate t st) refl
  where
    by : (e : Result Entry Refusal) → entry_of own.Propagate t st ≡ e → Stands (propagate_by e steps t st).tables (propagate_by e steps t st).state τ ↔ Stands t st τ
    by (Err r) q = Iff.rfl
    by (Ok Opens) q =
        let E = opens_entered own.Propagate t st q in
        let F = entered_formed E tt in
        from_keeps t st F E.shape.values E.unmarked τ false steps (begin st.n t) (begin_good st.v st.n t F) (begin_tied st.v st.n t (core_of st.v st.n false t) (core_represented st.v st.n false t))
    by (Ok (Resumes i changed)) q =
        let E = resumes_entered own.Propagate t st i changed q in
        let F = entered_formed E tt in
        from_keeps t st F E.shape.values E.unmarked τ st.fresh steps (going i changed t) (F, (entered_cursor E).0) (core_represented st.v st.n false t)
