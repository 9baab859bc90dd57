-- Sweep keeps the invariant of a list of calls, at every stopping point; by its end the stamps are spent. Assumes nothing.
use Prim.Native.Nat.{ℕ, ◌+◌, ◌-◌, ◌*◌, ◌≤◌, min}
use native.Mathlib.Nat.{min-le_right}
use native.Mathlib.Omega.{arith}
use mathlib.Core.Path.{◌≡◌, refl, sym, subst, ◌∙◌}
use mathlib.Core.Bool.{Bool, true, false, false≢true}
use mathlib.Core.List.{List}
use lib.IntN.{ℤ}
use Rattle.std.specs.Prelude.{Result, Ok, Err}
use Rattle.walk.specs.Walk.{Stamps}
use Rattle.stamp_columns.specs.Columns.{columns}
use Rattle.hidden.proofs.Intervals.{Nested}
use Rattle.hidden.proofs.Agree.{Agree}
use Rattle.hidden.proofs.FreshColumns.{fresh_nested}
use Rattle.state.specs.States.{opened, closed}
use Rattle.state.specs.declared.State.{State}
use Rattle.state.specs.declared.Pass.{Pass}
use Rattle.state.specs.declared.Pass.TheVariants.{Idle, Propagate, Merge, Sweep}
use Rattle.state.specs.declared.Refusal.{Refusal}
use Rattle.tables.specs.Tables.{Tables}
use Rattle.tables.specs.Fates.{visits}
use Rattle.tables.specs.Calls.{After}
use Rattle.shape.specs.Shape.{Shape}
use Rattle.entry.specs.Entry.{entry_of}
use Rattle.entry.specs.declared.PassName.TheVariants as own
use Rattle.entry.specs.declared.Entry.{Entry}
use Rattle.entry.specs.declared.Entry.TheVariants.{Opens, Resumes}
use Rattle.entry.proofs.Entering.{Entered, opens_entered, resumes_entered}
use Rattle.visits.specs.Formed.{Formed}
use Rattle.visits.proofs.Entered.{NoMerge, entered_formed, entered_cursor}
use Rattle.visits.proofs.Visiting.{SameStamps, visits_beside}
use Rattle.visits.proofs.Advancing.{advance_cases}
use Rattle.sweep.specs.Sweep.{sweep_from, sweep_unless_stale, sweep_by, sweep_call}
use Rattle.sweep.proofs.Shaped.{from_shaped}
use Rattle.sweep_visits.specs.Clause.{sweep_clause}
use Rattle.sweep_visits.proofs.Visiting.{sweep_shrinks}
use Rattle.sound.specs.Sweep as sound
use Rattle.moves.specs.Core.{Core, with_clauses}
use Rattle.moves.specs.Moves.{Freshness, spent, fresh, spend, sweep}
use Rattle.refinement.specs.Represented.{Represented}
use Rattle.refinement.proofs.Swept.{sweeps_tied}
use Rattle.refinement.proofs.Held.{At, StampsOf, stale, from, HeldBy, Lasting}

-- ---- visits from the cursor on

module _ {P : ℕ → Core → Freshness → Type 0} (lasting : Lasting P) {t : Tables} {st : State} (H : HeldBy P t st) (F : Formed st.v st.n st.n false t.clauses t.literals t.variables) (R : Represented st.v st.n false t H.core)
    (fresh_is : st.fresh ≡ true) (c : ℕ) (le : c ≤ st.n) where
  abbrev ρ : Stamps
  ρ = columns t.times t.links

  module _ (σ : Stamps) (A : Agree (2 * st.v) ρ σ) (since : P st.v H.core (fresh σ c)) (steps : ℕ) where
    abbrev m : ℕ
    m = min steps (st.n - c)

    abbrev t' : Tables
    t' = visits (sweep_clause ρ) m c t

    abbrev k' : Core
    k' = with_clauses (sound.visit_from (sound.sweep_visit σ) c m H.core.clauses) H.core

    ends : c + m ≤ st.n
    ends = omega (arith, min-le_right steps (st.n - c), le)

    B : SameStamps t t'
    B = (visits_beside (sweep_clause ρ) (sweep_shrinks ρ) m c t).stamps

    N : Nested (2 * st.v) ρ
    N = fresh_nested t.times t.links st.v (H.shape.stamps fresh_is)

    tied : Represented st.v st.n false t' k'
    tied = sweeps_tied st.v st.n ρ σ N A m c ends t H.core F R

    agree_still : Agree (2 * st.v) (columns t'.times t'.links) σ
    agree_still = subst (λ (x : List ℕ). Agree (2 * st.v) (columns x t'.links) σ) (sym B.times) (subst (λ (x : List ℤ). Agree (2 * st.v) (columns t.times x) σ) (sym B.links) A)

    open_held : Shape t' (opened (Sweep (c + m)) true st) → HeldBy P t' (opened (Sweep (c + m)) true st)
    open_held Q = record {
      core = k';
      stamped = fresh σ (c + m);
      so = lasting.step since (sweep m);
      shape = Q;
      tied = tied;
      stamps = from σ (c + m) agree_still refl;
    }

    done_held : Shape t' (closed false st) → HeldBy P t' (closed false st)
    done_held Q = record {
      core = k';
      stamped = spent;
      so = lasting.step (lasting.step since (sweep m)) spend;
      shape = Q;
      tied = tied;
      stamps = stale refl;
    }

    from_held : HeldBy P (sweep_from steps c t st).tables (sweep_from steps c t st).state
    from_held =
        advance_cases Sweep true false (sweep_clause ρ) steps c t st (λ (a : After). Shape a.tables a.state → HeldBy P a.tables a.state) (λ counts lt. open_held) (λ counts done. done_held)
        (from_shaped steps c t st H.shape F fresh_is le)

-- ---- the call

-- Sweep goes on where its visits so far have ended
abbrev Begins : Pass → ℕ → Type 0
Begins Idle k = k ≡ 0
Begins (Propagate i changed) k = ⊥
Begins (Merge i) k = ⊥
Begins (Sweep i) k = k ≡ i

at_cursor : (p : Pass) (c k : ℕ) → At p c → Begins p k → c ≡ k
at_cursor (Merge _) c k a b = elim a [ ]
at_cursor (Propagate _ _) c k a b = elim a [ ]
at_cursor Idle c k a b = a ∙ sym b
at_cursor (Sweep i) c k a b = a ∙ sym b

begins_unmerged : (p : Pass) (k : ℕ) → Begins p k → NoMerge p
begins_unmerged (Merge _) k b = elim b [ ]
begins_unmerged (Propagate _ _) k b = elim b [ ]
begins_unmerged Idle k b = tt
begins_unmerged (Sweep i) k b = tt

pub sweep_held : {P : ℕ → Core → Freshness → Type 0} → Lasting P → (steps : ℕ) (t : Tables) (st : State) → HeldBy P t st → HeldBy P (sweep_call steps t st).tables (sweep_call steps t st).state
unfolding sweep_call
sweep_held {P} lasting steps t st H = by (entry_of own.Sweep t st) refl
  where
    stamped : {p : Pass} → Entered p t st → (k : ℕ) → Begins p k → k ≤ st.n → st.fresh ≡ true → HeldBy P (sweep_from steps k t st).tables (sweep_from steps k t st).state
    stamped {p} E k b le e = by_stamps H.stamps H.so
      where
        by_stamps : {w : Freshness} → StampsOf t st w → P st.v H.core w → HeldBy P (sweep_from steps k t st).tables (sweep_from steps k t st).state
        by_stamps (stale h) ms = absurd (false≢true (sym h ∙ e))
        by_stamps (from σ c A at) ms =
            from_held lasting H (entered_formed E (begins_unmerged p k b)) (subst (λ (b : Bool). Represented st.v st.n b t H.core) E.unmarked H.tied) e k le σ A
            (subst (λ (x : ℕ). P st.v H.core (fresh σ x)) (at_cursor p c k (subst (λ (q : Pass). At q c) E.pass at) b) ms) steps

    unless : {p : Pass} → Entered p t st → (k : ℕ) → Begins p k → k ≤ st.n → (b : Bool) → st.fresh ≡ b → HeldBy P (sweep_unless_stale b steps k t st).tables (sweep_unless_stale b steps k t st).state
    unless E k b le true e = stamped E k b le e
    unless E k b le false e = H

    by : (e : Result Entry Refusal) → entry_of own.Sweep t st ≡ e → HeldBy P (sweep_by e steps t st).tables (sweep_by e steps t st).state
    by (Err r) q = H
    by (Ok Opens) q = unless (opens_entered own.Sweep t st q) 0 refl (omega arith) st.fresh refl
    by (Ok (Resumes k changed)) q = let E = resumes_entered own.Sweep t st k changed q in unless E k refl (omega (arith, (entered_cursor E).0)) st.fresh refl
