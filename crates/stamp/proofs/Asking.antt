-- The call is its definition: the ruling from the tests of the code, what a fit call knows, and the answer from the ruling. Assumes nothing.
use Prim.Native.Nat.{ℕ, ◌+◌, ◌*◌, ◌≤◌, ◌<◌}
use native.Mathlib.Omega.{arith}
use mathlib.Core.Path.{◌≡◌, refl, sym, ap, ◌∙◌}
use mathlib.Core.Bool.{Bool, true, false}
use mathlib.Core.List.{List, map}
use lib.ListN.{length}
use lib.Dec.{ltb, eqb}
use lib.IntN.{ℤ}
use borrow.Author.Tests.{eq-eqb, ne_eqb, eqb-true, lt-ltb, le-ltb, ltb-false}
use Rattle.std.specs.Prelude.{Result, Ok, Err}
use Rattle.state.specs.States.{closed}
use Rattle.state.specs.declared.State.{State}
use Rattle.state.specs.declared.Pass.TheVariants.{Idle}
use Rattle.state.specs.declared.Refusal.{Refusal}
use Rattle.state.specs.declared.Refusal.TheVariants.{Unsettled, Cyclic, Order}
use Rattle.state.specs.declared.Answer.TheVariants.{Stamped}
use Rattle.literal.specs.Literals.{slot_of}
use Rattle.implications.specs.Clauses.{implications}
use Rattle.scc.specs.Groups.{cyclic}
use Rattle.tables.specs.Tables.{Tables}
use Rattle.tables.specs.Clauses.{slots_from}
use Rattle.tables.specs.Passes.{first_unsettled}
use Rattle.tables.specs.Calls.{After, answered, after, refuse}
use Rattle.entry.specs.Entry.{opening_of}
use Rattle.shape.specs.Shape.{Shape}
use Rattle.entry.proofs.Entering.{granted_entered}
use Rattle.visits.specs.Formed.{Formed}
use Rattle.visits.proofs.Forming.{shape_formed}
use Rattle.visits.proofs.Entered.{entered_formed}
use Rattle.stamp_walk.specs.Stamping.{Proper}
use Rattle.stamp_walk.proofs.Graphing.{formed_proper}
use Rattle.stamp.specs.Stamp.{first_bad, stamps_of, stamp_fresh, stamp_acyclic, stamp_settled, stamp_ordered, stamp_by, stamp_call}
use Rattle.stamp.specs.Asking.{ask_settled, ask_ordered, ask_by, ask_of, Full, Records, written_tables, answer_of}
use Rattle.stamp.proofs.Ordering.{good_full}

-- ---- the ruling

module _ (order : List ℤ) (t : Tables) (st : State) where
  pub ask_length : (length order ≡ 2 * st.v → ⊥) → Err (Order 0) ≡ ask_ordered order t st
  unfolding ask_ordered
  ask_length d = rw (ne_eqb (length order) (2 * st.v) d, ask_ordered)

  module _ (many : length order ≡ 2 * st.v) where
    pub ask_wrong : (w : ℕ) → w ≡ first_bad st.v order → w < 2 * st.v → Err (Order w) ≡ ask_ordered order t st
    unfolding ask_ordered
    ask_wrong w e lt = rw (eq-eqb (length order) (2 * st.v) many, lt-ltb (first_bad st.v order) (2 * st.v) (omega arith), ask_ordered) (ap (λ (x : ℕ). Err (Order x)) e)

    ask_next : 2 * st.v ≤ first_bad st.v order → ask_settled t st ≡ ask_ordered order t st
    unfolding ask_ordered
    ask_next le = rw (eq-eqb (length order) (2 * st.v) many, le-ltb (first_bad st.v order) (2 * st.v) le, ask_ordered)

    pub ask_unsettled : 2 * st.v ≤ first_bad st.v order → (u : ℕ) → u ≡ first_unsettled t st.n → u < st.n → Err (Unsettled (u + 1)) ≡ ask_ordered order t st
    unfolding ask_settled
    ask_unsettled le u e lt = (rw (lt-ltb (first_unsettled t st.n) st.n (omega arith), ask_settled) (ap (λ (x : ℕ). Err (Unsettled (x + 1))) e)) ∙ ask_next le

    pub ask_fit : 2 * st.v ≤ first_bad st.v order → st.n ≤ first_unsettled t st.n → Ok tt ≡ ask_ordered order t st
    unfolding ask_settled
    ask_fit le settled = (rw (le-ltb (first_unsettled t st.n) st.n settled, ask_settled)) ∙ ask_next le

  pub ask_by_lem : (e : Result (Unit {0}) Refusal) → opening_of t st ≡ e → ask_by e order t st ≡ ask_of order t st
  unfolding ask_of
  ask_by_lem e is = ap (λ (x : Result (Unit {0}) Refusal). ask_by x order t st) (sym is)

-- ---- what a call that is not refused knows

pub record Known (order : List ℤ) (t : Tables) (st : State) : Type 0 where
  pub shape : Shape t st
  pub idle : st.pass ≡ Idle
  pub unmarked : st.mark ≡ false
  pub full : Full st.v order

module _ (t : Tables) (st : State) where
  -- the tables of an open call
  pub granted_formed : opening_of t st ≡ Ok tt → Formed st.v st.n st.n false t.clauses t.literals t.variables
  granted_formed e = entered_formed (granted_entered t st e) tt

  fit_ordered : (order : List ℤ) → ask_ordered order t st ≡ Ok tt → (length order ≡ 2 * st.v) × (2 * st.v ≤ first_bad st.v order)
  unfolding ask_ordered
  fit_ordered order e = go (eqb (length order) (2 * st.v)) refl (ltb (first_bad st.v order) (2 * st.v)) refl e
    where
      go : (b : Bool) → eqb (length order) (2 * st.v) ≡ b → (c : Bool) → ltb (first_bad st.v order) (2 * st.v) ≡ c
          → elim b as (λ x. Result (Unit {0}) Refusal) [ true ↦ elim c as (λ x. Result (Unit {0}) Refusal) [ true ↦ Err (Order (first_bad st.v order)) | false ↦ ask_settled t st ] | false ↦ Err (Order 0) ] ≡ Ok tt → (length order ≡ 2 * st.v) × (2 * st.v ≤ first_bad st.v order)
      go true p true q e = absurd (let z : ◌≡◌ {A = ℕ} 0 1 = cc in omega arith)
      go true p false q e = (eqb-true (length order) (2 * st.v) p, ltb-false (first_bad st.v order) (2 * st.v) q)
      go false p c q e = absurd (let z : ◌≡◌ {A = ℕ} 0 1 = cc in omega arith)

  pub fit_known : (order : List ℤ) → ask_of order t st ≡ Ok tt → Known order t st
  unfolding ask_of
  fit_known order fit = go (opening_of t st) refl fit
    where
      go : (x : Result (Unit {0}) Refusal) → opening_of t st ≡ x → ask_by x order t st ≡ Ok tt → Known order t st
      go (Err r) is e = absurd (let z : ◌≡◌ {A = ℕ} 0 1 = cc in omega arith)
      go (Ok _) is e =
          let E = granted_entered t st is in
          let k = fit_ordered order e in
          record { shape = E.shape; idle = E.pass; unmarked = E.unmarked; full = good_full st.v order k.0 k.1 }

pub known_proper : {order : List ℤ} {t : Tables} {st : State} → Known order t st → Proper st.v st.n t.clauses t.literals
known_proper K = formed_proper (shape_formed K.shape)

pub known_records : {order : List ℤ} {t : Tables} {st : State} → Known order t st → Records st.v t.times t.links
known_records K = record { first = omega (arith, K.shape.long.times, K.shape.v_limit); second = omega (arith, K.shape.long.links, K.shape.v_limit) }

-- ---- the answer

abbrev act : Result (Unit {0}) Refusal → List ℤ → Tables → State → After
act (Err r) order t st = refuse r st t
act (Ok _) order t st = stamp_acyclic order t st

module _ (order : List ℤ) (t : Tables) (st : State) where
  settled_by : stamp_settled order t st ≡ act (ask_settled t st) order t st
  unfolding stamp_settled ask_settled
  settled_by = go (ltb (first_unsettled t st.n) st.n)
    where
      go : (b : Bool) → elim b as (λ x. After) [ true ↦ refuse (Unsettled (first_unsettled t st.n + 1)) st t | false ↦ stamp_acyclic order t st ]
          ≡ act (elim b as (λ x. Result (Unit {0}) Refusal) [ true ↦ Err (Unsettled (first_unsettled t st.n + 1)) | false ↦ Ok tt ]) order t st
      go true = refl
      go false = refl

  ordered_by : stamp_ordered order t st ≡ act (ask_ordered order t st) order t st
  unfolding stamp_ordered ask_ordered
  ordered_by = go (eqb (length order) (2 * st.v)) (ltb (first_bad st.v order) (2 * st.v))
    where
      go : (b c : Bool) → elim b as (λ x. After) [ true ↦ elim c as (λ x. After) [ true ↦ refuse (Order (first_bad st.v order)) st t | false ↦ stamp_settled order t st ] | false ↦ refuse (Order 0) st t ]
          ≡ act (elim b as (λ x. Result (Unit {0}) Refusal) [ true ↦ elim c as (λ x. Result (Unit {0}) Refusal) [ true ↦ Err (Order (first_bad st.v order)) | false ↦ ask_settled t st ] | false ↦ Err (Order 0) ]) order t st
      go true true = refl
      go true false = settled_by
      go false c = refl

  pub call_by : stamp_call order t st ≡ act (ask_of order t st) order t st
  unfolding stamp_call ask_of
  call_by = go (opening_of t st)
    where
      go : (e : Result (Unit {0}) Refusal) → stamp_by e order t st ≡ act (ask_by e order t st) order t st
      go (Err r) = refl
      go (Ok _) = ordered_by

  pub call_refused : (r : Refusal) → ask_of order t st ≡ Err r → refuse r st t ≡ stamp_call order t st
  call_refused r e = sym (call_by ∙ ap (λ (x : Result (Unit {0}) Refusal). act x order t st) e)

  pub call_fit : ask_of order t st ≡ Ok tt → stamp_acyclic order t st ≡ stamp_call order t st
  call_fit e = sym (call_by ∙ ap (λ (x : Result (Unit {0}) Refusal). act x order t st) e)

  -- the core's two answers
  pub acyclic_no : cyclic (implications (slots_from t.clauses t.literals st.n 0)) (2 * st.v) ≡ true → stamp_acyclic order t st ≡ refuse Cyclic st t
  unfolding stamp_acyclic
  acyclic_no e = rw (e, stamp_acyclic)

  pub acyclic_yes : cyclic (implications (slots_from t.clauses t.literals st.n 0)) (2 * st.v) ≡ false → stamp_acyclic order t st ≡ stamp_fresh order t st
  unfolding stamp_acyclic
  acyclic_yes e = rw (e, stamp_acyclic)

  pub acyclic_by : (u : Tables) (r : Bool) → r ≡ cyclic (implications (slots_from t.clauses t.literals st.n 0)) (2 * st.v)
      → u ≡ written_tables r st.v (stamps_of (slots_from t.clauses t.literals st.n 0) (2 * st.v) (map slot_of order)) t → after (answer_of r st) u ≡ stamp_acyclic order t st
  acyclic_by u true is w = ap (refuse Cyclic st) w ∙ sym (acyclic_no (sym is))
  acyclic_by u false is w = ap (answered Stamped (closed true st)) w ∙ sym (acyclic_yes (sym is))
