-- Run leaves as many stamps as there were: of its passes only Stamp writes them, and into their places. Assumes nothing.
use Prim.Native.Nat.{ℕ, zero, suc, ◌+◌, ◌-◌, min}
use mathlib.Core.Path.{◌≡◌, refl, sym, ◌∙◌, subst}
use mathlib.Core.Bool.{Bool, true, false, ◌||◌}
use mathlib.Core.List.{List, [], ◌∷◌}
use lib.IntN.{ℤ}
use lib.ListN.{length}
use lib.Dec.{ltb, eqb}
use Rattle.std.specs.Prelude.{Result, Ok, Err}
use Rattle.base.proofs.Booleans.{or_left}
use Rattle.state.specs.Programmes.{codes_of}
use Rattle.state.specs.declared.State.{State}
use Rattle.state.specs.declared.Pass.{Pass}
use Rattle.state.specs.declared.Refusal.{Refusal}
use Rattle.tables.specs.Tables.{Tables, length_of}
use Rattle.tables.specs.Fates.{Fate, kept, left, dropped, unit, conflict, shortened, dropped_at, store, fate_at, visit, visits}
use Rattle.tables.specs.Passes.{advance}
use Rattle.tables.specs.Calls.{After}
use Rattle.entry.specs.Entry.{opening_of}
use Rattle.propagate.specs.Propagate.{propagate_from}
use Rattle.propagate_visits.specs.Visits.{Progress, going, settled, contradicted, onward, visited, changes, propagate_clause, propagate_visit, propagate_visits, begin}
use Rattle.propagate.proofs.Shaped.{tables_at, begin_tables, replied_tables}
use Rattle.merge.specs.Merge.{edges_of, clashes, merged_classes, merge_open}
use Rattle.merge_visits.specs.Clause.{merge_clause}
use Rattle.stamp.specs.Stamp.{stamp_ordered}
use Rattle.failed.specs.Failed.{failed_fresh}
use Rattle.failed.specs.Failed as failing
use Rattle.sweep.specs.Sweep as sweeping
use Rattle.settle.specs.Settle.{Standing, propagated, merged, grouped, settle_for, settle}
use Rattle.round_order.specs.Order.{order_of}
use Rattle.run.specs.Run.{follow, round, unchanged, Rounds, rounds, run_from, run_call}
use Rattle.run.specs.Steps.{Runs}
use Rattle.run.proofs.Running.{called}
use Rattle.run.proofs.RoundKeeps.{follow_runs, round_runs}
use Rattle.run.proofs.Calling.{granted_runs, call_refused, call_granted}
use Rattle.calls.proofs.Recorded.{stamp_kept}

pub record AsMany (t u : Tables) : Type 0 where
  pub times : length u.times ≡ length t.times
  pub links : length u.links ≡ length t.links

same : (t : Tables) → AsMany t t
same t = record { times = refl; links = refl }

on : {a b c : Tables} → AsMany a b → AsMany b c → AsMany a c
on S T = record { times = T.times ∙ S.times; links = T.links ∙ S.links }

-- what holds on both sides of a test holds after it
either : {X : Type 0} (P : X → Type 0) (b : Bool) (x y : X) → P x → P y → P (elim b as (λ z. X) [ true ↦ x | false ↦ y ])
either P true x y p q = p
either P false x y p q = q

-- ---- visits

store_many : (i : ℕ) (f : Fate) (t : Tables) → AsMany t (store i f t)
unfolding shortened dropped_at
store_many i kept t = same t
store_many i (left C) t = record { times = refl; links = refl }
store_many i dropped t = record { times = refl; links = refl }
store_many i (unit l) t = record { times = refl; links = refl }
store_many i conflict t = record { times = refl; links = refl }

visits_many : (rule : List ℤ → Fate) (m k : ℕ) (t : Tables) → AsMany t (visits rule m k t)
unfolding visits
visits_many rule zero k t = same t
visits_many rule (suc m) k t = on (store_many k (fate_at rule k t) t) (visits_many rule m (suc k) (visit rule k t))

advance_many : (rule : List ℤ → Fate) (pass : ℕ → Pass) (a b : Bool) (steps k : ℕ) (t : Tables) (st : State) → AsMany t (advance rule pass a b steps k t st).tables
unfolding advance
advance_many rule pass a b steps k t st =
    let S = visits_many rule (min steps (st.n - k)) k t in
    either (λ (x : After). AsMany t x.tables) (ltb (k + min steps (st.n - k)) st.n) _ _ S S

-- ---- Propagate

onward_many : (n j : ℕ) (changed : Bool) (t : Tables) → AsMany t (tables_at (onward n j changed t))
onward_many n j changed t = either (λ (p : Progress). AsMany t (tables_at p)) (ltb j n) _ _ (same t) (either (λ (p : Progress). AsMany t (tables_at p)) changed _ _ (same t) (same t))

visited_many : (n i : ℕ) (changed : Bool) (f : Fate) (t : Tables) → AsMany t (tables_at (visited n i changed f t))
visited_many n i changed kept t = onward_many n (suc i) changed t
visited_many n i changed (left C) t = on (store_many i (left C) t) (onward_many n (suc i) (changed || changes (length_of t.clauses i) (left C)) (store i (left C) t))
visited_many n i changed dropped t = on (store_many i dropped t) (onward_many n (suc i) true (store i dropped t))
visited_many n i changed (unit l) t = on (store_many i (unit l) t) (onward_many n (suc i) true (store i (unit l) t))
visited_many n i changed conflict t = store_many i conflict t

visit_many : (n i : ℕ) (changed : Bool) (t : Tables) → AsMany t (tables_at (propagate_visit n i changed t))
unfolding propagate_visit
visit_many n i changed t = visited_many n i changed (fate_at (propagate_clause t.variables) i t) t

progress_many : (n m made : ℕ) (p : Progress) → AsMany (tables_at p) (tables_at (propagate_visits n m made p).progress)
unfolding propagate_visits
progress_many n zero made p = same (tables_at p)
progress_many n (suc m) made (going i changed t) = on (visit_many n i changed t) (progress_many n m (suc made) (propagate_visit n i changed t))
progress_many n (suc m) made (settled t) = same t
progress_many n (suc m) made (contradicted t) = same t

propagate_many : (fresh : Bool) (steps : ℕ) (t : Tables) (st : State) → AsMany t (propagate_from fresh steps (begin st.n t) t st).tables
unfolding propagate_from
propagate_many fresh steps t st =
    let q = propagate_visits st.n steps 0 (begin st.n t) in
    let S = subst (AsMany t) (sym (replied_tables fresh t.clauses st q.visits q.progress)) (subst (λ (x : Tables). AsMany x (tables_at q.progress)) (begin_tables st.n t) (progress_many st.n steps 0 (begin st.n t))) in
    record { times = S.times; links = S.links }

-- ---- Merge and Settle

merge_many : (steps : ℕ) (t : Tables) (st : State) → AsMany t (merge_open steps t st).tables
unfolding merge_open merged_classes
merge_many steps t st =
    either (λ (x : After). AsMany t x.tables) (clashes (edges_of t st.n) st.v) _ _ (same t)
    (on (record { times = refl; links = refl }) (advance_many (merge_clause (merged_classes st.v st.n t).variables) _ false false steps 0 (merged_classes st.v st.n t) st))

settle_many : (fuel : ℕ) (w : Standing) → AsMany w.tables (settle_for fuel w).tables
unfolding settle_for
settle_many zero w = same w.tables
settle_many (suc fuel) w =
    let P = propagate_many false _ w.tables w.state in
    let M = on P (merge_many (propagated w).state.n (propagated w).tables (propagated w).state) in
    either (λ (x : Standing). AsMany w.tables x.tables) (propagated w).state.mark _ _ P
    (either (λ (x : Standing). AsMany w.tables x.tables) (merged (propagated w)).state.mark _ _ M
    (either (λ (x : Standing). AsMany w.tables x.tables) (grouped (propagated w)) _ _ (on M (settle_many fuel (merged (propagated w)))) M))

-- ---- the codes

failed_many : (b : Bool) (t : Tables) (st : State) → AsMany t (failing.failed_unless_stale b t st).tables
unfolding failed_fresh
failed_many true t st = record { times = refl; links = refl }
failed_many false t st = same t

sweep_many : (b : Bool) (steps k : ℕ) (t : Tables) (st : State) → AsMany t (sweeping.sweep_unless_stale b steps k t st).tables
sweep_many true steps k t st = advance_many _ _ true false steps k t st
sweep_many false steps k t st = same t

stamp_many : (order : List ℤ) {w : Standing} → Runs w → AsMany w.tables (stamp_ordered order w.tables w.state).tables
stamp_many order {w} R = subst (λ (a : After). AsMany w.tables a.tables) (called R order) (let K = stamp_kept order w.tables w.state in record { times = K.times; links = K.links })

follow_many : (k code : ℕ) {w : Standing} → Runs w → AsMany w.tables (follow k code w).tables
unfolding follow settle
follow_many k code {w} R =
    let So : Standing → Type 0 = λ x. AsMany w.tables x.tables in
    either So (eqb code 1) _ _ (settle_many (w.state.v + 1) w)
    (either So (eqb code 2) _ _ (stamp_many (order_of w.state.v k) R)
    (either So (eqb code 3) _ _ (failed_many w.state.fresh w.tables w.state)
    (either So (eqb code 4) _ _ (sweep_many w.state.fresh w.state.n 0 w.tables w.state) (same w.tables))))

round_many : (k : ℕ) (codes : List ℕ) {w : Standing} → Runs w → AsMany w.tables (round k codes w).tables
unfolding round
round_many k [] {w} R = same w.tables
round_many k (code ∷ codes) {w} R = go (follow k code w).state.mark refl (round_many k codes {w = follow k code w})
  where
    go : (b : Bool) → (follow k code w).state.mark ≡ b → (Runs (follow k code w) → AsMany (follow k code w).tables (round k codes (follow k code w)).tables)
        → AsMany w.tables (elim b as (λ x. Standing) [ true ↦ follow k code w | false ↦ round k codes (follow k code w) ]).tables
    go true e rest = follow_many k code R
    go false e rest = on (follow_many k code R) (rest (follow_runs k code R e))

-- ---- the call

rounds_many : (codes : List ℕ) (m k : ℕ) {w : Standing} → Runs w → AsMany w.tables (run_from codes m k w).standing.tables
unfolding run_from
rounds_many codes zero k {w} R = same w.tables
rounds_many codes (suc m) k {w} R = go ((round k codes w).state.mark || unchanged w (round k codes w)) refl (rounds_many codes m (suc k) {w = round k codes w})
  where
    go : (b : Bool) → ((round k codes w).state.mark || unchanged w (round k codes w)) ≡ b → (Runs (round k codes w) → AsMany (round k codes w).tables (run_from codes m (suc k) (round k codes w)).standing.tables)
        → AsMany w.tables (elim b as (λ x. Rounds) [ true ↦ rounds (suc k) (round k codes w) | false ↦ run_from codes m (suc k) (round k codes w) ]).standing.tables
    go true e rest = round_many k codes R
    go false e rest = on (round_many k codes R) (rest (round_runs k codes w R (or_left (round k codes w).state.mark (unchanged w (round k codes w)) e)))

-- THE LAW
pub run_many : (n : ℕ) (t : Tables) (st : State) → AsMany t (run_call n t st).tables
run_many n t st = by (opening_of t st) refl
  where
    by : (e : Result (Unit {0}) Refusal) → opening_of t st ≡ e → AsMany t (run_call n t st).tables
    by (Err r) e = subst (λ (a : After). AsMany t a.tables) (call_refused n t st r e) (same t)
    by (Ok _) e = subst (λ (a : After). AsMany t a.tables) (call_granted n t st e) (rounds_many (codes_of st.programme) n 0 (granted_runs t st e))
