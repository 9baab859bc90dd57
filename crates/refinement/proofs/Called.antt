-- Propagate and Merge as their user sees them, refused calls included: what stands after the call is reached by moves from what stood before. Assumes nothing.
use Prim.Native.Nat.{ℕ, ◌-◌, ◌≤◌, min}
use native.Mathlib.Nat.{min-le_right}
use native.Mathlib.Omega.{arith}
use mathlib.Core.Path.{◌≡◌, refl, subst}
use mathlib.Core.Bool.{Bool, false}
use mathlib.Core.List.{List}
use Rattle.std.specs.Prelude.{Result, Ok, Err}
use Rattle.state.specs.declared.State.{State}
use Rattle.state.specs.declared.Pass.TheVariants.{Merge}
use Rattle.state.specs.declared.Refusal.{Refusal}
use Rattle.tables.specs.Tables.{Tables}
use Rattle.tables.specs.Passes.{first_unsettled}
use Rattle.tables.specs.Calls.{After}
use Rattle.entry.specs.Entry.{entry_of}
use Rattle.entry.specs.declared.PassName.TheVariants as own
use Rattle.entry.specs.declared.Entry.{Entry}
use Rattle.entry.specs.declared.Entry.TheVariants.{Opens, Resumes}
use Rattle.entry.proofs.Entering.{opens_entered, resumes_entered}
use Rattle.visits.proofs.Entered.{entered_formed, entered_cursor}
use Rattle.visits.proofs.StoreKeeps.{FormedTo}
use Rattle.visits.proofs.Advancing.{advance_cases}
use Rattle.spread.specs.Spread.{spread_behind}
use Rattle.propagate.specs.Propagate.{propagate_from, replied, propagate_by, propagate_call}
use Rattle.propagate_visits.specs.Visits.{Progress, going, settled, contradicted, begin, propagate_visits}
use Rattle.propagate_visits.proofs.Stepping.{Good, visits_good}
use Rattle.propagate.proofs.Shaped.{begin_good}
use Rattle.merge.specs.Merge.{merged_classes, merge_from, merge_open, merge_by, merge_call}
use Rattle.merge_visits.specs.Clause.{merge_clause}
use Rattle.merge.proofs.Merged.{classes_formed}
use Rattle.merge.proofs.Calling.{open_cases, settled_cases, opens_formed, resumes_resumable}
use Rattle.moves.specs.Core as core
use Rattle.moves.specs.Moves as moves
use Rattle.refinement.specs.Represented.{Represented}
use Rattle.refinement.proofs.Literals.{spread_represented}
use Rattle.refinement.proofs.Propagated.{Simulated}
use Rattle.refinement.proofs.Propagation.{Tied, Follows, visits_follow, moves_join}
use Rattle.refinement.proofs.PropagateKeeps.{begin_tied}
use Rattle.refinement.proofs.Merging.{visits_simulated, clash_simulated, opening_simulated}

-- the call's answer, state and tables, and what stood before it
abbrev pub Reached : State → core.Core → After → Type 0
Reached st k a = Simulated st.v st.n a.state.mark a.tables k

refused : (st : State) {t : Tables} {k : core.Core} → Represented st.v st.n st.mark t k → Simulated st.v st.n st.mark t k
refused st {k = k} R = record { to = k; moves = moves.stay; tied = R }

unmarked : (st : State) {t : Tables} {k : core.Core} → st.mark ≡ false → Represented st.v st.n st.mark t k → Represented st.v st.n false t k
unmarked st {t} {k} e R = subst (λ (b : Bool). Represented st.v st.n b t k) e R

-- ---- Propagate

module _ (st : State) (k : core.Core) where
  replied_reached : (fresh : Bool) (m : ℕ) (before : List ℕ) (q : Progress) → Good st.v st.n q → Follows st.v st.n q k → Reached st k (spread_behind st.v (replied fresh before st m q))
  replied_reached fresh m before (going i changed t) G S = record { to = S.to; moves = S.moves; tied = spread_represented G.0.vars S.tied }
  replied_reached fresh m before (settled t) G S = record { to = S.to; moves = S.moves; tied = spread_represented G.vars S.tied }
  replied_reached fresh m before (contradicted t) G S = record { to = S.to; moves = S.moves; tied = spread_represented G.vars S.tied }

  propagate_from_lem : (fresh : Bool) (steps : ℕ) (p : Progress) (t : Tables) → Good st.v st.n p → Tied st.v st.n p k → Reached st k (propagate_from fresh steps p t st)
  unfolding propagate_from
  propagate_from_lem fresh steps p t G R = replied_reached fresh (propagate_visits st.n steps 0 p).visits t.clauses (propagate_visits st.n steps 0 p).progress (visits_good st.v st.n steps 0 p G) (visits_follow st.v st.n steps 0 p k G R)

pub propagate_reached : (steps : ℕ) (t : Tables) (st : State) (k : core.Core) → Represented st.v st.n st.mark t k → Reached st k (propagate_call steps t st)
unfolding propagate_call
propagate_reached steps t st k R = by (entry_of own.Propagate t st) refl
  where
    by : (e : Result Entry Refusal) → entry_of own.Propagate t st ≡ e → Reached st k (propagate_by e steps t st)
    by (Err r) q = refused st R
    by (Ok Opens) q =
        let E = opens_entered own.Propagate t st q in
        propagate_from_lem st k false steps (begin st.n t) t (begin_good st.v st.n t (entered_formed E tt)) (begin_tied st.v st.n t k (unmarked st E.unmarked R))
    by (Ok (Resumes i changed)) q =
        let E = resumes_entered own.Propagate t st i changed q in
        propagate_from_lem st k st.fresh steps (going i changed t) t (entered_formed E tt, (entered_cursor E).0) (unmarked st E.unmarked R)

-- ---- Merge

module _ (st : State) where
  merge_from_lem : (fresh : Bool) (steps c : ℕ) (t : Tables) (k : core.Core) → FormedTo st.v st.n c t → c ≤ st.n → Represented st.v st.n false t k → Reached st k (merge_from fresh steps c t st)
  merge_from_lem fresh steps c t k F le R =
      let S = visits_simulated st.v st.n (min steps (st.n - c)) c t.variables t k refl (omega (arith, min-le_right steps (st.n - c), le)) F R in
      advance_cases Merge fresh fresh (merge_clause t.variables) steps c t st (Reached st k) (λ counts lt. S) (λ counts done. S)

  merge_open_lem : (steps : ℕ) (t : Tables) (k : core.Core) → FormedTo st.v st.n st.n t → Represented st.v st.n false t k → first_unsettled t st.n ≡ st.n → Reached st k (merge_open steps t st)
  merge_open_lem steps t k F R s =
      open_cases steps st t (Reached st k) (clash_simulated F R)
      (λ e.
      let o = opening_simulated F R e s in
      let r = merge_from_lem false steps 0 (merged_classes st.v st.n t) o.to (classes_formed t F e s) (omega arith) o.tied in
      record { to = r.to; moves = moves_join o.moves r.moves; tied = r.tied })

pub merge_reached : (steps : ℕ) (t : Tables) (st : State) (k : core.Core) → Represented st.v st.n st.mark t k → Reached st k (merge_call steps t st)
unfolding merge_call
merge_reached steps t st k R = by (entry_of own.Merge t st) refl
  where
    by : (e : Result Entry Refusal) → entry_of own.Merge t st ≡ e → Reached st k (merge_by e steps t st)
    by (Err r) q = refused st R
    by (Ok Opens) q = settled_cases steps st t (Reached st k) (refused st R) (merge_open_lem st steps t k (opens_formed steps t st q) (unmarked st (opens_entered own.Merge t st q).unmarked R))
    by (Ok (Resumes i changed)) q = let P = resumes_resumable t st i changed q in merge_from_lem st st.fresh steps i t k P.formed P.within (unmarked st (resumes_entered own.Merge t st i changed q).unmarked R)
