-- Failed keeps the invariant of a list of calls: each value that it sets is a move, and so is the mark that the opposite value sets. Assumes nothing.
use Prim.Native.Nat.{ℕ, zero, suc, ◌+◌, ◌*◌, ◌≤◌, ◌<◌}
use native.Mathlib.Omega.{arith}
use mathlib.Core.Path.{◌≡◌, refl, sym, ap, subst, ◌∙◌}
use mathlib.Core.Bool.{Bool, true, false, false≢true}
use mathlib.Core.List.{List}
use lib.IntN.{ℤ}
use Rattle.std.specs.Prelude.{Result, Ok, Err}
use Rattle.literal.specs.Literals.{Literal, slot_of, lit_at, twin}
use Rattle.literal.proofs.Laws.{slot_lit}
use Rattle.literal.proofs.Twins.{twin_below}
use Rattle.walk.specs.Walk.{Stamps}
use Rattle.stamp_columns.specs.Columns.{columns}
use Rattle.hidden.specs.Failed.{same_start, failed_slot}
use Rattle.hidden.proofs.Agree.{Agree, same_agree, failed_agree}
use Rattle.state.specs.States.{closed, marked}
use Rattle.state.specs.declared.State.{State}
use Rattle.state.specs.declared.Pass.{Pass}
use Rattle.state.specs.declared.Pass.TheVariants.{Idle}
use Rattle.state.specs.declared.Refusal.{Refusal}
use Rattle.tables.specs.Tables.{Tables, with_variables}
use Rattle.tables.specs.Values as values
use Rattle.shape.specs.Shape.{Shape}
use Rattle.entry.specs.Entry.{opening_of}
use Rattle.entry.proofs.Entering.{Entered, granted_entered}
use Rattle.visits.specs.Formed.{Variables}
use Rattle.visits.proofs.Entered.{entered_formed}
use Rattle.spread.specs.Spread.{spread_tables}
use Rattle.failed.specs.Failed.{Found, found, assert, failed_at, failed_from, failed_reply, failed_fresh, failed_unless_stale, failed_by, failed_call}
use Rattle.failed.specs.Steps.{FullStamps}
use Rattle.failed.proofs.Climbing.{failed_below, slot_ranged}
use Rattle.failed.proofs.Valuing.{kept_true}
use Rattle.failed.proofs.Calling.{shape_stamped}
use Rattle.failed.proofs.Shaping.{failed_shape}
use Rattle.moves.specs.Core.{Core, learn}
use Rattle.moves.specs.Core as core
use Rattle.moves.specs.Moves.{Freshness, spent, fresh, failed, opposite}
use Rattle.refinement.specs.Represented.{Represented}
use Rattle.refinement.proofs.Literals.{false_is, spread_represented}
use Rattle.refinement.proofs.Propagated.{mark_represented, learn_represented}
use Rattle.refinement.proofs.Held.{At, StampsOf, stale, from, HeldBy, Lasting}

-- what some variables leave, up to the mark where the opposite value was met
pub record Going (P : ℕ → Core → Freshness → Type 0) (v n : ℕ) (mark : Bool) (w : Freshness) (t : Tables) : Type 0 where
  pub core : Core
  pub so : P v core w
  pub tied : Represented v n mark t core
  pub rows : Variables v t.variables

module _ {P : ℕ → Core → Freshness → Type 0} (lasting : Lasting P) (v n : ℕ) (t : Tables) (S : FullStamps v t.times t.links) (σ : Stamps) (c : ℕ) (A : Agree (2 * v) (columns t.times t.links) σ) where
  abbrev ρ : Stamps
  ρ = columns t.times t.links

  -- by whether the opposite value was met
  abbrev After? : Bool → List ℤ → Type 0
  After? b w = elim b [ true ↦ Going P v n true spent (with_variables w t) | false ↦ Going P v n false (fresh σ c) (with_variables w t) ]

  -- one variable
  one_variable : (w : List ℤ) (m k : ℕ) → k < v → Going P v n false (fresh σ c) (with_variables w t) → After? (failed_at ρ (2 * v) k w m).opposite (failed_at ρ (2 * v) k w m).variables
  unfolding failed_at
  one_variable w m k lt G = by (same_start ρ (2 * k)) refl
    where
      x : ℕ
      x = failed_slot ρ (2 * v) (2 * k)

      l : ℤ
      l = lit_at (twin x)

      s_in : 2 * k < 2 * v
      s_in = omega arith

      same_slot : failed_slot σ (2 * v) (2 * k) ≡ x
      same_slot = sym (failed_agree (2 * v) ρ σ A (2 * k) s_in (twin_below v (2 * k) s_in))

      back : slot_of l ≡ twin (failed_slot σ (2 * v) (2 * k))
      back = slot_lit (twin x) ∙ ap twin (sym same_slot)

      by_values : same_start ρ (2 * k) ≡ true → (a b : Bool) → values.is_true w l ≡ a → values.is_false w l ≡ b
          → After? (elim a as (λ y. Found) [ true ↦ found w m false | false ↦ elim b as (λ y. Found) [ true ↦ found w m true | false ↦ found (values.set_true w l) (suc m) false ] ]).opposite
          (elim a as (λ y. Found) [ true ↦ found w m false | false ↦ elim b as (λ y. Found) [ true ↦ found w m true | false ↦ found (values.set_true w l) (suc m) false ] ]).variables
      by_values e true b p q = G
      by_values e false true p q = record {
        core = core.marked_core G.core;
        so = lasting.step G.so (opposite (2 * k) s_in (sym (same_agree (2 * v) ρ σ A (2 * k) s_in (twin_below v (2 * k) s_in)) ∙ e)
            (ap (core.core_false G.core) (sym back) ∙ false_is G.tied G.rows l L ∙ q));
        tied = mark_represented G.tied;
        rows = G.rows;
      }
        where
          L : Literal v l
          L = slot_ranged S (twin x) (twin_below v x (failed_below S (2 * k) s_in e))
      by_values e false false p q = record {
        core = learn (G.core.class (slot_of l)) G.core;
        so = subst (λ (y : ℕ). P v (learn (G.core.class y) G.core) (fresh σ c)) (sym back)
            (lasting.step G.so (failed (2 * k) s_in (sym (same_agree (2 * v) ρ σ A (2 * k) s_in (twin_below v (2 * k) s_in)) ∙ e)));
        tied = learn_represented G.tied G.rows l L q;
        rows = set_rows;
      }
        where
          L : Literal v l
          L = slot_ranged S (twin x) (twin_below v x (failed_below S (2 * k) s_in e))

          set_rows : Variables v (values.set_true w l)
          set_rows = (kept_true G.rows l L).rows

      by : (b : Bool) → same_start ρ (2 * k) ≡ b → After? (elim b as (λ y. Found) [ true ↦ assert l w m | false ↦ found w m false ]).opposite (elim b as (λ y. Found) [ true ↦ assert l w m | false ↦ found w m false ]).variables
      by true e = by_values e (values.is_true w l) (values.is_false w l) refl refl
      by false e = G

  -- m variables from k on
  pub variables_going : (m k : ℕ) → k + m ≤ v → (x : Found) → After? x.opposite x.variables → After? (failed_from ρ (2 * v) m k x).opposite (failed_from ρ (2 * v) m k x).variables
  unfolding failed_from
  variables_going zero k le x G = G
  variables_going (suc m) k le x G = by (variables_going m (suc k) (omega arith)) x.opposite refl G
    where
      by : ((y : Found) → After? y.opposite y.variables → After? (failed_from ρ (2 * v) m (suc k) y).opposite (failed_from ρ (2 * v) m (suc k) y).variables) → (b : Bool) → x.opposite ≡ b → After? b x.variables
          → After? (elim b as (λ y. Found) [ true ↦ x | false ↦ failed_from ρ (2 * v) m (suc k) (failed_at ρ (2 * v) k x.variables x.set) ]).opposite (elim b as (λ y. Found) [ true ↦ x | false ↦ failed_from ρ (2 * v) m (suc k) (failed_at ρ (2 * v) k x.variables x.set) ]).variables
      by rest true e G = subst (λ (b : Bool). After? b x.variables) (sym e) G
      by rest false e G = rest (failed_at ρ (2 * v) k x.variables x.set) (one_variable x.variables x.set k (omega arith) G)

-- ---- the call

-- only Idle lets Failed begin
at_idle : (p : Pass) (c : ℕ) → p ≡ Idle → At p c → c ≡ 0
at_idle p c e a = subst (λ (q : Pass). At q c) e a

module _ {P : ℕ → Core → Freshness → Type 0} (lasting : Lasting P) {t : Tables} {st : State} (H : HeldBy P t st) where
  -- the tables once the values are spread
  abbrev spread_found : Found → Tables
  spread_found x = spread_tables st.v (with_variables x.variables t)

  replied_held : (σ : Stamps) → Agree (2 * st.v) (columns t.times t.links) σ → (x : Found) → Shape (spread_found x) (failed_reply x t st).state
      → (b : Bool) → x.opposite ≡ b → (elim b as (λ y. Type 0) [ true ↦ Going P st.v st.n true spent (with_variables x.variables t) | false ↦ Going P st.v st.n false (fresh σ 0) (with_variables x.variables t) ])
      → HeldBy P (spread_found x) (elim b as (λ y. State) [ true ↦ marked st | false ↦ closed true st ])
  replied_held σ A x Q true e G = record {
    core = G.core;
    stamped = spent;
    so = G.so;
    shape = subst (λ (b : Bool). Shape (spread_found x) (elim b as (λ y. State) [ true ↦ marked st | false ↦ closed true st ])) e Q;
    tied = spread_represented G.rows G.tied;
    stamps = stale refl;
  }
  replied_held σ A x Q false e G = record {
    core = G.core;
    stamped = fresh σ 0;
    so = G.so;
    shape = subst (λ (b : Bool). Shape (spread_found x) (elim b as (λ y. State) [ true ↦ marked st | false ↦ closed true st ])) e Q;
    tied = spread_represented G.rows G.tied;
    stamps = from σ 0 A refl;
  }

  -- on fresh stamps
  fresh_held : Entered Idle t st → st.fresh ≡ true → Shape (failed_fresh t st).tables (failed_fresh t st).state → HeldBy P (failed_fresh t st).tables (failed_fresh t st).state
  unfolding failed_fresh
  fresh_held E e Q = by_stamps H.stamps H.so
    where
      x : Found
      x = failed_from (columns t.times t.links) (2 * st.v) st.v 0 (found t.variables 0 false)

      by_stamps : {w : Freshness} → StampsOf t st w → P st.v H.core w → HeldBy P (spread_found x) (failed_reply x t st).state
      by_stamps (stale h) ms = absurd (false≢true (sym h ∙ e))
      by_stamps (from σ c A at) ms =
          let R = subst (λ (b : Bool). Represented st.v st.n b t H.core) E.unmarked H.tied in
          let begun : Going P st.v st.n false (fresh σ 0) (with_variables t.variables t) = record {
            core = H.core;
            so = subst (λ (y : ℕ). P st.v H.core (fresh σ y)) (at_idle st.pass c E.pass at) ms;
            tied = record { number = R.number; clauses = R.clauses; classes = R.classes; facts = R.facts; beyond = R.beyond; marks = R.marks };
            rows = (entered_formed E tt).vars;
          } in
          replied_held σ A x Q x.opposite refl (variables_going lasting st.v st.n t (shape_stamped H.shape e) σ 0 A st.v 0 (omega arith) (found t.variables 0 false) begun)

pub failed_held : {P : ℕ → Core → Freshness → Type 0} → Lasting P → (t : Tables) (st : State) → HeldBy P t st → HeldBy P (failed_call t st).tables (failed_call t st).state
unfolding failed_call
failed_held {P} lasting t st H = by (opening_of t st) refl (failed_shape t st H.shape)
  where
    unless : Entered Idle t st → (b : Bool) → st.fresh ≡ b → Shape (failed_unless_stale b t st).tables (failed_unless_stale b t st).state → HeldBy P (failed_unless_stale b t st).tables (failed_unless_stale b t st).state
    unless E true e Q = fresh_held lasting H E e Q
    unless E false e Q = H

    by : (e : Result (Unit {0}) Refusal) → opening_of t st ≡ e → Shape (failed_by e t st).tables (failed_by e t st).state → HeldBy P (failed_by e t st).tables (failed_by e t st).state
    by (Err r) q Q = H
    by (Ok _) q Q = unless (granted_entered t st q) st.fresh refl Q
