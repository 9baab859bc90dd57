-- The invariant of a list of calls: what stands has a property, the tables hold it and keep the shape rule, and fresh stamps are those of the last Stamp (`HeldBy`).
-- After a load of the clauses f the property is that what stands is reached by moves from f (`Held`); Propagate and Merge keep that. Assumes nothing.
use Prim.Native.Nat.{ℕ, ◌+◌, ◌-◌, ◌*◌, ◌<◌, min}
use mathlib.Core.Path.{◌≡◌, refl, sym, subst, subst₂}
use mathlib.Core.Bool.{Bool, true, false}
use mathlib.Core.List.{List, Memᴰ}
use lib.Dec.{ltb}
use Rattle.std.specs.Prelude.{Result, Ok, Err}
use Rattle.walk.specs.Walk.{Stamps}
use Rattle.stamp_columns.specs.Columns.{columns}
use Rattle.hidden.proofs.Agree.{Agree}
use Rattle.state.specs.States.{opened, closed, marked}
use Rattle.state.specs.declared.State.{State}
use Rattle.state.specs.declared.Pass.{Pass}
use Rattle.state.specs.declared.Pass.TheVariants.{Idle, Propagate, Merge, Sweep}
use Rattle.state.specs.declared.Answer.TheVariants.{Open, Done}
use Rattle.state.specs.declared.Refusal.{Refusal}
use Rattle.state.specs.declared.Refusal.TheVariants.{Unsettled}
use Rattle.tables.specs.Tables.{Tables}
use Rattle.tables.specs.Clauses.{gone}
use Rattle.tables.specs.Fates.{visits}
use Rattle.tables.specs.Passes.{advance, first_unsettled}
use Rattle.tables.specs.Calls.{After, answered, refuse}
use Rattle.shape.specs.Shape.{Shape}
use Rattle.entry.specs.Entry.{entry_of}
use Rattle.entry.specs.declared.PassName.TheVariants as own
use Rattle.entry.specs.declared.Entry.{Entry}
use Rattle.entry.specs.declared.Entry.TheVariants.{Opens, Resumes}
use Rattle.entry.proofs.Entering.{resumes_entered}
use Rattle.propagate.specs.Propagate.{propagate_from, replied, propagate_by, propagate_call}
use Rattle.propagate_visits.specs.Visits.{Progress, going, settled, contradicted, begin, propagate_visits}
use Rattle.propagate.proofs.Shaped.{propagate_shaped}
use Rattle.merge.specs.Merge.{edges_of, clashes, merged_classes, merge_from, merge_open, merge_settled, merge_by, merge_call}
use Rattle.merge_visits.specs.Clause.{merge_clause}
use Rattle.merge.proofs.Shaped.{merge_shaped}
use Rattle.sound.specs.Formula.{Clause, standing}
use Rattle.moves.specs.Core.{Core, load}
use Rattle.moves.specs.Moves.{Freshness, spent, fresh, Behind, spend, behind, Moves, go}
use Rattle.refinement.specs.Represented.{Represented}
use Rattle.refinement.proofs.Propagation.{moves_join}
use Rattle.refinement.proofs.Called.{Reached, propagate_reached, merge_reached}

-- the clauses that Sweep has visited while stamps are fresh; no other pass is open then
abbrev pub At : Pass → ℕ → Type 0
At Idle c = c ≡ 0
At (Propagate i changed) c = ⊥
At (Merge i) c = ⊥
At (Sweep i) c = c ≡ i

-- the stamps are spent, or those of a Stamp
pub data StampsOf (t : Tables) (st : State) : Freshness → Type 0 where
  stale : {w : Freshness} → st.fresh ≡ false → StampsOf t st w
  from : (σ : Stamps) (c : ℕ) → Agree (2 * st.v) (columns t.times t.links) σ → At st.pass c → StampsOf t st (fresh σ c)

-- what stands has P, over the variables and with the stamps that there are
pub record HeldBy (P : ℕ → Core → Freshness → Type 0) (t : Tables) (st : State) : Type 0 where
  pub core : Core
  pub stamped : Freshness
  pub so : P st.v core stamped
  pub shape : Shape t st
  pub tied : Represented st.v st.n st.mark t core
  pub stamps : StampsOf t st stamped

-- moves behind a Stamp keep P
pub record Lasting (P : ℕ → Core → Freshness → Type 0) : Type 0 where
  pub step : {v : ℕ} {k k' : Core} {w w' : Freshness} → P v k w → Behind v k w k' w' → P v k' w'

-- what stands is reached by moves from a load of the clauses f
pub record FromLoad (f : List Clause) (v : ℕ) (k : Core) (w : Freshness) : Type 0 where
  pub moves : Moves v (load f) spent k w
  -- the loaded literals are those of the variables
  pub within : (C : List ℕ) → Memᴰ (standing C) f → (l : ℕ) → Memᴰ l C → l < 2 * v

abbrev pub Held : List Clause → Tables → State → Type 0
Held f t st = HeldBy (FromLoad f) t st

pub load_lasting : (f : List Clause) → Lasting (FromLoad f)
load_lasting f = record { step = λ L m. record { moves = go L.moves (behind m); within = L.within } }

-- a call that leaves V and N, and no fresh stamps
pub record Spends (st : State) (a : After) : Type 0 where
  pub v : a.state.v ≡ st.v
  pub n : a.state.n ≡ st.n
  pub fresh : a.state.fresh ≡ false

pub held_spent : {f : List Clause} {t : Tables} {st : State} (H : Held f t st) (a : After) → Spends st a → Shape a.tables a.state → Reached st H.core a → Held f a.tables a.state
held_spent {f} H a E S R = record {
  core = R.to;
  stamped = spent;
  so = subst (λ (x : ℕ). FromLoad f x R.to spent) (sym E.v) (record { moves = moves_join (go H.so.moves (behind spend)) R.moves; within = H.so.within });
  shape = S;
  tied = subst₂ (λ (x y : ℕ). Represented x y a.state.mark a.tables R.to) (sym E.v) (sym E.n) R.tied;
  stamps = stale E.fresh;
}

-- an open Propagate or Merge has no fresh stamps
abbrev Spent : Pass → Type 0
Spent Idle = ⊥
Spent (Propagate i changed) = Unit
Spent (Merge i) = Unit
Spent (Sweep i) = ⊥

at_spent : (p : Pass) (c : ℕ) → At p c → Spent p → ⊥
at_spent (Merge _) c a s = elim a [ ]
at_spent (Propagate _ _) c a s = elim a [ ]
at_spent Idle c a s = s
at_spent (Sweep i) c a s = s

pub resumed_stale : {t : Tables} {st : State} {w : Freshness} (p : Pass) → Spent p → st.pass ≡ p → StampsOf t st w → st.fresh ≡ false
resumed_stale p s e (stale h) = h
resumed_stale {st = st} p s e (from σ c A at) = absurd (at_spent p c (subst (λ (q : Pass). At q c) e at) s)

-- ---- Propagate

replied_spends : (st : State) (b : Bool) → b ≡ false → (m : ℕ) (before : List ℕ) (q : Progress) → Spends st (replied b before st m q)
replied_spends st b e m before (going i changed t) = record { v = refl; n = refl; fresh = e }
replied_spends st b e m before (settled t) = record { v = refl; n = refl; fresh = e }
replied_spends st b e m before (contradicted t) = record { v = refl; n = refl; fresh = refl }

pub propagate_spends : (st : State) (b : Bool) → b ≡ false → (steps : ℕ) (p : Progress) (t : Tables) → Spends st (propagate_from b steps p t st)
unfolding propagate_from
propagate_spends st b e steps p t = let E = replied_spends st b e (propagate_visits st.n steps 0 p).visits t.clauses (propagate_visits st.n steps 0 p).progress in record { v = E.v; n = E.n; fresh = E.fresh }

pub propagate_held : {f : List Clause} (steps : ℕ) (t : Tables) (st : State) → Held f t st → Held f (propagate_call steps t st).tables (propagate_call steps t st).state
unfolding propagate_call
propagate_held {f} steps t st H = by (entry_of own.Propagate t st) refl (propagate_shaped steps t st H.shape) (propagate_reached steps t st H.core H.tied)
  where
    by : (e : Result Entry Refusal) → entry_of own.Propagate t st ≡ e → Shape (propagate_by e steps t st).tables (propagate_by e steps t st).state → Reached st H.core (propagate_by e steps t st) → Held f (propagate_by e steps t st).tables (propagate_by e steps t st).state
    by (Err r) q S R = H
    by (Ok Opens) q S R = held_spent H (propagate_from false steps (begin st.n t) t st) (propagate_spends st false refl steps (begin st.n t) t) S R
    by (Ok (Resumes i changed)) q S R =
        held_spent H (propagate_from st.fresh steps (going i changed t) t st)
        (propagate_spends st st.fresh (resumed_stale (Propagate i changed) tt (resumes_entered own.Propagate t st i changed q).pass H.stamps) steps (going i changed t) t) S R

-- ---- Merge

pub merge_spends : (st : State) (b : Bool) → b ≡ false → (steps c : ℕ) (t : Tables) → Spends st (merge_from b steps c t st)
unfolding advance
merge_spends st b e steps c t = go (ltb (c + min steps (st.n - c)) st.n)
  where
    go : (x : Bool) → Spends st (elim x as (λ y. After) [
      | true ↦ answered (Open (gone (min steps (st.n - c)) st.n t.clauses (visits (merge_clause t.variables) (min steps (st.n - c)) c t).clauses)) (opened (Merge (c + min steps (st.n - c))) b st) (visits (merge_clause t.variables) (min steps (st.n - c)) c t)
      | false ↦ answered (Done (gone (min steps (st.n - c)) st.n t.clauses (visits (merge_clause t.variables) (min steps (st.n - c)) c t).clauses)) (closed b st) (visits (merge_clause t.variables) (min steps (st.n - c)) c t)
    ])
    go true = record { v = refl; n = refl; fresh = e }
    go false = record { v = refl; n = refl; fresh = e }

pub open_spends : (st : State) (steps : ℕ) (t : Tables) → Spends st (merge_open steps t st)
unfolding merge_open
open_spends st steps t = go (clashes (edges_of t st.n) st.v)
  where
    go : (b : Bool) → Spends st (elim b as (λ x. After) [
      | true ↦ answered (Done (gone 0 st.n t.clauses t.clauses)) (marked st) t
      | false ↦ merge_from false steps 0 (merged_classes st.v st.n t) st
    ])
    go true = record { v = refl; n = refl; fresh = refl }
    go false = merge_spends st false refl steps 0 (merged_classes st.v st.n t)

pub merge_held : {f : List Clause} (steps : ℕ) (t : Tables) (st : State) → Held f t st → Held f (merge_call steps t st).tables (merge_call steps t st).state
unfolding merge_call merge_settled
merge_held {f} steps t st H = by (entry_of own.Merge t st) refl (merge_shaped steps t st H.shape) (merge_reached steps t st H.core H.tied)
  where
    opens : (b : Bool) → Shape (elim b as (λ x. After) [ true ↦ refuse (Unsettled (first_unsettled t st.n + 1)) st t | false ↦ merge_open steps t st ]).tables (elim b as (λ x. After) [ true ↦ refuse (Unsettled (first_unsettled t st.n + 1)) st t | false ↦ merge_open steps t st ]).state
        → Reached st H.core (elim b as (λ x. After) [ true ↦ refuse (Unsettled (first_unsettled t st.n + 1)) st t | false ↦ merge_open steps t st ])
        → Held f (elim b as (λ x. After) [ true ↦ refuse (Unsettled (first_unsettled t st.n + 1)) st t | false ↦ merge_open steps t st ]).tables (elim b as (λ x. After) [ true ↦ refuse (Unsettled (first_unsettled t st.n + 1)) st t | false ↦ merge_open steps t st ]).state
    opens true S R = H
    opens false S R = held_spent H (merge_open steps t st) (open_spends st steps t) S R

    by : (e : Result Entry Refusal) → entry_of own.Merge t st ≡ e → Shape (merge_by e steps t st).tables (merge_by e steps t st).state → Reached st H.core (merge_by e steps t st) → Held f (merge_by e steps t st).tables (merge_by e steps t st).state
    by (Err r) q S R = H
    by (Ok Opens) q S R = opens (ltb (first_unsettled t st.n) st.n) S R
    by (Ok (Resumes i changed)) q S R =
        held_spent H (merge_from st.fresh steps i t st)
        (merge_spends st st.fresh (resumed_stale (Merge i) tt (resumes_entered own.Merge t st i changed q).pass H.stamps) steps i t) S R
