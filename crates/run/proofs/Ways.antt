-- The ways of a call of the five passes and of Run: it is refused and changes nothing, or it is made, and then V and the programme are as they were. So Run follows one programme in all its rounds, until a call sets another or a load puts the constant one back.
-- Assumes nothing.
use Prim.Native.Nat.{ℕ, zero, suc, ◌+◌, ◌*◌}
use mathlib.Core.Path.{◌≡◌, refl, sym, subst, ◌∙◌}
use mathlib.Core.Logic.{◌⊎◌, inl, inr}
use mathlib.Core.Bool.{Bool, true, false, ◌||◌}
use mathlib.Core.List.{List, [], ◌∷◌}
use lib.ListN.{length}
use lib.Dec.{ltb, eqb}
use lib.IntN.{ℤ}
use Rattle.std.specs.Prelude.{Result, Ok, Err}
use Rattle.implications.specs.Clauses.{implications}
use Rattle.scc.specs.Groups.{cyclic}
use Rattle.stamp_columns.specs.Columns.{columns}
use Rattle.state.specs.Programmes.{codes_of}
use Rattle.state.specs.States.{closed, marked}
use Rattle.state.specs.declared.State.{State}
use Rattle.state.specs.declared.Pass.TheVariants.{Merge, Sweep}
use Rattle.state.specs.declared.Refusal.{Refusal}
use Rattle.tables.specs.Tables.{Tables}
use Rattle.tables.specs.Clauses.{slots_from}
use Rattle.tables.specs.Passes.{first_unsettled}
use Rattle.tables.specs.Calls.{After}
use Rattle.entry.specs.Entry.{entry_of, opening_of}
use Rattle.entry.specs.declared.PassName.TheVariants as own
use Rattle.entry.specs.declared.Entry.{Entry}
use Rattle.entry.specs.declared.Entry.TheVariants.{Opens, Resumes}
use Rattle.visits.proofs.Advancing.{advance_cases}
use Rattle.propagate.specs.Propagate.{replied, propagate_from, propagate_by, propagate_call}
use Rattle.propagate_visits.specs.Visits.{Progress, going, settled, contradicted, begin, propagate_visits}
use Rattle.spread.specs.Spread.{spread_behind}
use Rattle.merge.specs.Merge.{merged_classes, merge_from, merge_open, merge_settled, merge_by, merge_call}
use Rattle.merge_visits.specs.Clause.{merge_clause}
use Rattle.merge.proofs.Calling.{open_cases}
use Rattle.stamp.specs.Stamp.{first_bad, stamp_acyclic, stamp_settled, stamp_ordered, stamp_by, stamp_call}
use Rattle.failed.specs.Failed.{found, failed_from, failed_fresh, failed_unless_stale, failed_by, failed_call}
use Rattle.sweep.specs.Sweep.{sweep_unless_stale, sweep_by, sweep_call}
use Rattle.sweep_visits.specs.Clause.{sweep_clause}
use Rattle.settle.specs.Settle.{Standing, enough, propagated, merged, grouped, settle_for, settle}
use Rattle.settle.specs.Steps.{standing_in}
use Rattle.round_order.specs.Order.{order_of}
use Rattle.run.specs.Run.{follow, round, unchanged, Rounds, rounds, run_from, run_by, run_call}

-- V and the programme of a state in another
pub record Same (st x : State) : Type 0 where
  pub v : x.v ≡ st.v
  pub programme : x.programme ≡ st.programme

same_none : {st : State} → Same st st
same_none = record { v = refl; programme = refl }

same_then : {a b c : State} → Same a b → Same b c → Same a c
same_then S T = record { v = T.v ∙ S.v; programme = T.programme ∙ S.programme }

abbrev pub Way : Tables → State → After → Type 0
Way t st a = ((a.reply.number ≡ 0) × Same st a.state) ⊎ ((a.state ≡ st) × (a.tables ≡ t))

pub way_same : (t : Tables) (st : State) (a : After) → Way t st a → Same st a.state
way_same t st a (inl made) = made.1
way_same t st a (inr kept) = subst (Same st) (sym kept.0) same_none

-- an answer, with a state that is made of the one before
answers : {st x : State} → x.v ≡ st.v → x.programme ≡ st.programme → (◌≡◌ {A = ℕ} 0 0) × Same st x
answers v programme = (refl, record { v = v; programme = programme })

by_test : (t : Tables) (st : State) (x y : After) (b : Bool) → Way t st x → Way t st y → Way t st (elim b as (λ _. After) [ true ↦ x | false ↦ y ])
by_test t st x y true p q = p
by_test t st x y false p q = q

-- ---- Propagate

propagate_from_lem : (fresh : Bool) (steps : ℕ) (p : Progress) (t : Tables) (st : State) → Way t st (propagate_from fresh steps p t st)
unfolding propagate_from
propagate_from_lem fresh steps p t st = by (propagate_visits st.n steps 0 p).progress
  where
    by : (q : Progress) → Way t st (spread_behind st.v (replied fresh t.clauses st (propagate_visits st.n steps 0 p).visits q))
    by (going k changed u) = inl (answers refl refl)
    by (settled u) = inl (answers refl refl)
    by (contradicted u) = inl (answers refl refl)

pub propagate_way : (steps : ℕ) (t : Tables) (st : State) → Way t st (propagate_call steps t st)
unfolding propagate_call
propagate_way steps t st = by (entry_of own.Propagate t st)
  where
    by : (e : Result Entry Refusal) → Way t st (propagate_by e steps t st)
    by (Err r) = inr (refl, refl)
    by (Ok Opens) = propagate_from_lem false steps (begin st.n t) t st
    by (Ok (Resumes k changed)) = propagate_from_lem st.fresh steps (going k changed t) t st

-- ---- Merge

merge_from_lem : (fresh : Bool) (steps k : ℕ) (t u : Tables) (st : State) → Way t st (merge_from fresh steps k u st)
merge_from_lem fresh steps k t u st = advance_cases Merge fresh fresh (merge_clause u.variables) steps k u st (Way t st) (λ counts lt. inl (answers refl refl)) (λ counts done. inl (answers refl refl))

merge_open_lem : (steps : ℕ) (t : Tables) (st : State) → Way t st (merge_open steps t st)
merge_open_lem steps t st = open_cases steps st t (Way t st) (λ e. inl (answers refl refl)) (λ e. merge_from_lem false steps 0 t (merged_classes st.v st.n t) st)

pub merge_way : (steps : ℕ) (t : Tables) (st : State) → Way t st (merge_call steps t st)
unfolding merge_call merge_settled
merge_way steps t st = by (entry_of own.Merge t st)
  where
    by : (e : Result Entry Refusal) → Way t st (merge_by e steps t st)
    by (Err r) = inr (refl, refl)
    by (Ok Opens) = by_test t st _ _ (ltb (first_unsettled t st.n) st.n) (inr (refl, refl)) (merge_open_lem steps t st)
    by (Ok (Resumes k changed)) = merge_from_lem st.fresh steps k t t st

-- ---- Stamp

stamp_ordered_lem : (order : List ℤ) (t : Tables) (st : State) → Way t st (stamp_ordered order t st)
unfolding stamp_ordered stamp_settled stamp_acyclic
stamp_ordered_lem order t st =
    by_test t st _ _ (eqb (length order) (2 * st.v))
    (by_test t st _ _ (ltb (first_bad st.v order) (2 * st.v)) (inr (refl, refl))
    (by_test t st _ _ (ltb (first_unsettled t st.n) st.n) (inr (refl, refl))
    (by_test t st _ _ (cyclic (implications (slots_from t.clauses t.literals st.n 0)) (2 * st.v)) (inr (refl, refl)) (inl (answers refl refl)))))
    (inr (refl, refl))

pub stamp_way : (order : List ℤ) (t : Tables) (st : State) → Way t st (stamp_call order t st)
unfolding stamp_call
stamp_way order t st = by (opening_of t st)
  where
    by : (o : Result (Unit {0}) Refusal) → Way t st (stamp_by o order t st)
    by (Err r) = inr (refl, refl)
    by (Ok _) = stamp_ordered_lem order t st

-- ---- Failed

failed_unless : (fresh : Bool) (t : Tables) (st : State) → Way t st (failed_unless_stale fresh t st)
unfolding failed_fresh
failed_unless true t st = inl (refl, by (failed_from (columns t.times t.links) (2 * st.v) st.v 0 (found t.variables 0 false)).opposite)
  where
    by : (b : Bool) → Same st (elim b as (λ x. State) [ true ↦ marked st | false ↦ closed true st ])
    by true = record { v = refl; programme = refl }
    by false = record { v = refl; programme = refl }
failed_unless false t st = inr (refl, refl)

pub failed_way : (t : Tables) (st : State) → Way t st (failed_call t st)
unfolding failed_call
failed_way t st = by (opening_of t st)
  where
    by : (o : Result (Unit {0}) Refusal) → Way t st (failed_by o t st)
    by (Err r) = inr (refl, refl)
    by (Ok _) = failed_unless st.fresh t st

-- ---- Sweep

sweep_unless : (fresh : Bool) (steps k : ℕ) (t : Tables) (st : State) → Way t st (sweep_unless_stale fresh steps k t st)
sweep_unless true steps k t st = advance_cases Sweep true false (sweep_clause (columns t.times t.links)) steps k t st (Way t st) (λ counts lt. inl (answers refl refl)) (λ counts done. inl (answers refl refl))
sweep_unless false steps k t st = inr (refl, refl)

pub sweep_way : (steps : ℕ) (t : Tables) (st : State) → Way t st (sweep_call steps t st)
unfolding sweep_call
sweep_way steps t st = by (entry_of own.Sweep t st)
  where
    by : (e : Result Entry Refusal) → Way t st (sweep_by e steps t st)
    by (Err r) = inr (refl, refl)
    by (Ok Opens) = sweep_unless st.fresh steps 0 t st
    by (Ok (Resumes k changed)) = sweep_unless st.fresh steps k t st

-- ---- Run

abbrev Stays : Standing → Standing → Type 0
Stays w x = Same w.state x.state

settle_stays : (fuel : ℕ) (w : Standing) → Stays w (settle_for fuel w)
unfolding settle_for
settle_stays zero w = same_none
settle_stays (suc fuel) w = by p.state.mark m.state.mark (grouped p) (settle_stays fuel m)
  where
    p : Standing
    p = propagated w

    m : Standing
    m = merged (propagated w)

    first : Stays w p
    first = way_same w.tables w.state (propagate_from false (enough w.tables w.state) (begin w.state.n w.tables) w.tables w.state) (propagate_from_lem false (enough w.tables w.state) (begin w.state.n w.tables) w.tables w.state)

    second : Stays w m
    second = same_then first (way_same p.tables p.state (merge_open p.state.n p.tables p.state) (merge_open_lem p.state.n p.tables p.state))

    by : (a b c : Bool) → Stays m (settle_for fuel m)
        → Stays w (elim a as (λ x. Standing) [ true ↦ p | false ↦ elim b as (λ x. Standing) [ true ↦ m | false ↦ elim c as (λ x. Standing) [ true ↦ settle_for fuel m | false ↦ m ] ] ])
    by true b c rest = first
    by false true c rest = second
    by false false true rest = same_then second rest
    by false false false rest = second

follow_stays : (k code : ℕ) (w : Standing) → Stays w (follow k code w)
unfolding follow settle
follow_stays k code w = by (eqb code 1) (eqb code 2) (eqb code 3) (eqb code 4)
  where
    t : Tables
    t = w.tables

    st : State
    st = w.state

    by : (a b c d : Bool) → Stays w (elim a as (λ x. Standing) [
      | true ↦ settle_for (st.v + 1) w
      | false ↦ elim b as (λ x. Standing) [
        | true ↦ standing_in (stamp_ordered (order_of st.v k) t st).tables (stamp_ordered (order_of st.v k) t st).state
        | false ↦ elim c as (λ x. Standing) [
          | true ↦ standing_in (failed_unless_stale st.fresh t st).tables (failed_unless_stale st.fresh t st).state
          | false ↦ elim d as (λ x. Standing) [ true ↦ standing_in (sweep_unless_stale st.fresh st.n 0 t st).tables (sweep_unless_stale st.fresh st.n 0 t st).state | false ↦ w ]
        ]
      ]
    ])
    by true b c d = settle_stays (st.v + 1) w
    by false true c d = way_same t st (stamp_ordered (order_of st.v k) t st) (stamp_ordered_lem (order_of st.v k) t st)
    by false false true d = way_same t st (failed_unless_stale st.fresh t st) (failed_unless st.fresh t st)
    by false false false true = way_same t st (sweep_unless_stale st.fresh st.n 0 t st) (sweep_unless st.fresh st.n 0 t st)
    by false false false false = same_none

round_stays : (k : ℕ) (codes : List ℕ) (w : Standing) → Stays w (round k codes w)
unfolding round
round_stays k [] w = same_none
round_stays k (code ∷ codes) w = by (follow k code w).state.mark (round_stays k codes (follow k code w))
  where
    by : (b : Bool) → Stays (follow k code w) (round k codes (follow k code w)) → Stays w (elim b as (λ x. Standing) [ true ↦ follow k code w | false ↦ round k codes (follow k code w) ])
    by true rest = follow_stays k code w
    by false rest = same_then (follow_stays k code w) rest

rounds_stay : (codes : List ℕ) (m k : ℕ) (w : Standing) → Stays w (run_from codes m k w).standing
unfolding run_from
rounds_stay codes zero k w = same_none
rounds_stay codes (suc m) k w = by ((round k codes w).state.mark || unchanged w (round k codes w)) (rounds_stay codes m (suc k) (round k codes w))
  where
    by : (b : Bool) → Stays (round k codes w) (run_from codes m (suc k) (round k codes w)).standing → Stays w (elim b as (λ x. Rounds) [ true ↦ rounds (suc k) (round k codes w) | false ↦ run_from codes m (suc k) (round k codes w) ]).standing
    by true rest = round_stays k codes w
    by false rest = same_then (round_stays k codes w) rest

pub run_way : (count : ℕ) (t : Tables) (st : State) → Way t st (run_call count t st)
unfolding run_call
run_way count t st = by (opening_of t st)
  where
    by : (o : Result (Unit {0}) Refusal) → Way t st (run_by o count t st)
    by (Err r) = inr (refl, refl)
    by (Ok _) = inl (refl, rounds_stay (codes_of st.programme) count 0 (standing_in t st))
