-- Propagate keeps the shape rule, wherever it stops. Assumes nothing.
use Prim.Native.Nat.{ℕ, zero, suc, ◌<◌}
use native.Mathlib.Omega.{arith}
use mathlib.Core.Path.{◌≡◌, refl, sym, subst, ◌∙◌}
use mathlib.Core.Bool.{Bool, true, false, ◌||◌, false≢true}
use mathlib.Core.List.{List}
use lib.Dec.{ltb}
use Rattle.std.specs.Prelude.{Result, Ok, Err}
use Rattle.state.specs.declared.State.{State}
use Rattle.programmes.specs.Rules.{Passing}
use Rattle.state.specs.declared.Refusal.{Refusal}
use Rattle.tables.specs.Tables.{Tables, length_of, class_of}
use Rattle.tables.specs.Fates.{Fate, kept, left, dropped, unit, conflict, store, fate_at}
use Rattle.stamps.specs.Fresh.{FreshStamps}
use Rattle.shape.specs.Shape.{settled_to, Cursor, Shape}
use Rattle.entry.specs.Entry.{entry_of}
use Rattle.entry.specs.declared.PassName.TheVariants as own
use Rattle.entry.specs.declared.Entry.{Entry}
use Rattle.entry.specs.declared.Entry.TheVariants.{Opens, Resumes}
use Rattle.entry.proofs.Entering.{opens_entered, resumes_entered}
use Rattle.visits.specs.Formed.{Formed}
use Rattle.visits.proofs.Visiting.{SameStamps, stamps_same, stamps_join, store_stamps}
use Rattle.visits.proofs.StoreKeeps.{FormedIn, formed_shape_as}
use Rattle.visits.proofs.Entered.{entered_formed, entered_cursor}
use Rattle.spread.specs.Spread.{spread_tables}
use Rattle.spread.proofs.Spreading.{spread_done, spread_formed}
use Rattle.propagate.specs.Propagate.{replied, propagate_from, propagate_by, propagate_call}
use Rattle.propagate_visits.specs.Visits.{Progress, going, settled, contradicted, onward, changes, visited, propagate_clause, propagate_visit, propagate_visits, begin}
use Rattle.propagate_visits.proofs.VisitKeeps.{visit_classes}
use Rattle.propagate_visits.proofs.Stepping.{Good, visit_good, visits_good}

-- ---- what every visit keeps

-- the tables where a pass stands
abbrev pub tables_at : Progress → Tables
tables_at (going j changed t) = t
tables_at (settled t) = t
tables_at (contradicted t) = t

pub onward_tables : (n j : ℕ) (changed : Bool) (t : Tables) → tables_at (onward n j changed t) ≡ t
onward_tables n j changed t = by (ltb j n) changed
  where
    by : (x y : Bool) → tables_at (elim x as (λ z. Progress) [ true ↦ going j y t | false ↦ elim y as (λ z. Progress) [ true ↦ going 0 false t | false ↦ settled t ] ]) ≡ t
    by true y = refl
    by false true = refl
    by false false = refl

visited_tables : (n i : ℕ) (changed : Bool) (f : Fate) (t : Tables) → tables_at (visited n i changed f t) ≡ store i f t
visited_tables n i changed kept t = onward_tables n (suc i) changed t
visited_tables n i changed (left C) t = onward_tables n (suc i) (changed || changes (length_of t.clauses i) (left C)) (store i (left C) t)
visited_tables n i changed dropped t = onward_tables n (suc i) true (store i dropped t)
visited_tables n i changed (unit l) t = onward_tables n (suc i) true (store i (unit l) t)
visited_tables n i changed conflict t = refl

-- what storing a clause's fate keeps, visits keep
pub visits_keep : (P : Tables → Type 0) (v n : ℕ) → ((k : ℕ) (t : Tables) → FormedIn v n t → k < n → P t → P (store k (fate_at (propagate_clause t.variables) k t) t))
    → (m made : ℕ) (p : Progress) → Good v n p → P (tables_at p) → P (tables_at (propagate_visits n m made p).progress)
unfolding propagate_visits propagate_visit
visits_keep P v n one zero made p G h = h
visits_keep P v n one (suc m) made (going k changed t) G h =
    visits_keep P v n one m (suc made) (propagate_visit n k changed t) (visit_good v n k changed t G.0 G.1)
    (subst P (sym (visited_tables n k changed (fate_at (propagate_clause t.variables) k t) t)) (one k t G.0 G.1 h))
visits_keep P v n one (suc m) made (settled t) G h = h
visits_keep P v n one (suc m) made (contradicted t) G h = h

-- so no visit touches the stamp records
pub visits_stamps : (v n m made : ℕ) (p : Progress) → Good v n p → SameStamps (tables_at p) (tables_at (propagate_visits n m made p).progress)
visits_stamps v n m made p G =
    visits_keep (SameStamps (tables_at p)) v n (λ k t F lt S. stamps_join S (store_stamps k (fate_at (propagate_clause t.variables) k t) t)) m made p G (stamps_same (tables_at p))

-- nor the classes
pub visits_classes : (v n m made : ℕ) (p : Progress) → Good v n p → (u : ℕ) → class_of (tables_at (propagate_visits n m made p).progress).variables u ≡ class_of (tables_at p).variables u
visits_classes v n m made p G =
    visits_keep (λ (t : Tables). (u : ℕ) → class_of t.variables u ≡ class_of (tables_at p).variables u) v n (λ k t F lt h u. visit_classes v n t F k lt u ∙ h u) m made p G (λ u. refl)

-- the tables where a call begins, and where it stops
pub begin_tables : (n : ℕ) (t : Tables) → tables_at (begin n t) ≡ t
begin_tables zero t = refl
begin_tables (suc n) t = refl

pub replied_tables : (fresh : Bool) (before : List ℕ) (st : State) (m : ℕ) (p : Progress) → (replied fresh before st m p).tables ≡ tables_at p
replied_tables fresh before st m (going k changed t) = refl
replied_tables fresh before st m (settled t) = refl
replied_tables fresh before st m (contradicted t) = refl

-- ---- the shape rule after the visits and behind them the values spread

module _ (t : Tables) (st : State) (S : Shape t st) (fresh : Bool) (fresher : fresh ≡ true → FreshStamps st.v t.times t.links) where
  spread_shaped : (u : Tables) (st' : State) → st'.v ≡ st.v → SameStamps t u → (st'.fresh ≡ true → FreshStamps st'.v t.times t.links)
      → Formed st'.v st'.n (settled_to st'.pass st'.n) st'.mark u.clauses u.literals u.variables → Cursor st'.pass st'.n st'.mark → Passing st'.programme → Shape (spread_tables st.v u) st'
  spread_shaped u st' e Q fresh' F cursor programme =
      subst (λ (v : ℕ). Shape (spread_tables v u) st') e
      (formed_shape_as t (spread_tables st'.v u) st' (record { times = Q.times; links = Q.links }) S.long.times S.long.links fresh' (spread_formed F) (spread_done F.vars) cursor programme)

  replied_shaped : (m : ℕ) (before : List ℕ) (q : Progress) → Good st.v st.n q → SameStamps t (tables_at q) → Shape (spread_tables st.v (replied fresh before st m q).tables) (replied fresh before st m q).state
  replied_shaped m before (going i changed u) G Q = spread_shaped u (replied fresh before st m (going i changed u)).state refl Q fresher G.0 (G.1, refl) S.programme
  replied_shaped m before (settled u) G Q = spread_shaped u (replied fresh before st m (settled u)).state refl Q fresher G tt S.programme
  replied_shaped m before (contradicted u) G Q = spread_shaped u (replied fresh before st m (contradicted u)).state refl Q (λ e. absurd (false≢true e)) G tt S.programme

  from_shaped : (steps : ℕ) (p : Progress) → Good st.v st.n p → tables_at p ≡ t → Shape (propagate_from fresh steps p t st).tables (propagate_from fresh steps p t st).state
  unfolding propagate_from
  from_shaped steps p G e =
      replied_shaped (propagate_visits st.n steps 0 p).visits t.clauses (propagate_visits st.n steps 0 p).progress (visits_good st.v st.n steps 0 p G)
      (subst (λ (x : Tables). SameStamps x (tables_at (propagate_visits st.n steps 0 p).progress)) e (visits_stamps st.v st.n steps 0 p G))

-- ---- where a call begins

pub begin_good : (v n : ℕ) (t : Tables) → FormedIn v n t → Good v n (begin n t)
begin_good v zero t F = F
begin_good v (suc n) t F = (F, omega arith)

-- THE THEOREM: a call of Propagate keeps the shape rule
pub propagate_shaped : (steps : ℕ) (t : Tables) (st : State) → Shape t st → Shape (propagate_call steps t st).tables (propagate_call steps t st).state
unfolding propagate_call
propagate_shaped steps t st S = by (entry_of own.Propagate t st) refl
  where
    by : (e : Result Entry Refusal) → entry_of own.Propagate t st ≡ e → Shape (propagate_by e steps t st).tables (propagate_by e steps t st).state
    by (Err r) q = S
    by (Ok Opens) q =
        let F = entered_formed (opens_entered own.Propagate t st q) tt in
        from_shaped t st S false (λ e. absurd (false≢true e)) steps (begin st.n t) (begin_good st.v st.n t F) (begin_tables st.n t)
    by (Ok (Resumes k changed)) q =
        let E = resumes_entered own.Propagate t st k changed q in
        from_shaped t st S st.fresh S.stamps steps (going k changed t) (entered_formed E tt, (entered_cursor E).0) refl
