-- What stands in the tables and what stands over slots are satisfied by the same assignments; and every formed table is represented. Assumes nothing.
use Prim.Native.Nat.{ℕ, zero, suc, ◌+◌, ◌*◌, ◌-◌, ◌<◌}
use native.Mathlib.Omega.{arith}
use native.Mathlib.Nat.{add-zero}
use mathlib.Core.Path.{◌≡◌, refl, sym, ap, subst, ◌∙◌}
use mathlib.Core.Bool.{Bool, true, false, not, ◌||◌}
use mathlib.Core.Logic.{◌⊎◌, ⊎_elim}
use mathlib.Core.List.Memᴰ
use mathlib.Core.List.{List, [], ◌∷◌, map, Memᴰ}
use lib.ListN.{length, get_or}
use lib.IntN.{ℤ, pos, negsuc, neg_ℤ, nat_abs, neg_ℤ-neg_ℤ}
use native.Mathlib.Numerals.{add-one}
use borrow.Author.Tests.{lt-ltb, le-ltb}
use Rattle.literal.specs.Literals.{Literal, slot_of, lit_at}
use Rattle.literal.specs.Assignments.{Assignment, true_under, some_true}
use Rattle.literal.proofs.Truth.{holds_neg}
use Rattle.state.specs.declared.State.{State}
use Rattle.tables.specs.Tables.{Tables, class_of, value_of}
use Rattle.tables.specs.Tables as T
use Rattle.tables.specs.Stands.{StandsByOwn}
use Rattle.tables.specs.Values.{class_literal, own_truth, is_true}
use Rattle.tables.specs.Clauses.{literals_of}
use Rattle.visits.specs.Formed.{Variables}
use Rattle.visits.proofs.Known.{known_row}
use Rattle.sound.specs.Formula.{Clause, dropped, standing, value, Sat}
use Rattle.sound.proofs.Truth.{value_slot}
use Rattle.moves.specs.Core as core
use Rattle.refinement.specs.Represented.{clause_of, Represented, core_clauses, core_of}
use Rattle.refinement.proofs.Propagated.{mem_map}

-- ---- every table is represented

clauses_length : (c : List ℕ) (l : List ℤ) (m i : ℕ) → length (core_clauses c l m i) ≡ m
unfolding core_clauses
clauses_length c l zero i = refl
clauses_length c l (suc m) i = ap suc (clauses_length c l m (suc i))

clauses_at : (c : List ℕ) (l : List ℤ) (m i j : ℕ) → j < m → get_or (core_clauses c l m i) j dropped ≡ clause_of c l (i + j)
unfolding core_clauses
clauses_at c l zero i j h = absurd (omega arith)
clauses_at c l (suc m) i zero h = ap (clause_of c l) (sym (add-zero i))
clauses_at c l (suc m) i (suc j) h = clauses_at c l m (suc i) j (omega arith) ∙ ap (clause_of c l) (let e : suc i + j ≡ i + suc j = omega arith in e)

pub core_represented : (v n : ℕ) (mark : Bool) (t : Tables) → Represented v n mark t (core_of v n mark t)
unfolding core_of
core_represented v n mark t = record {
  number = clauses_length t.clauses t.literals n 0;
  clauses = λ i h. clauses_at t.clauses t.literals n 0 i h ∙ ap (clause_of t.clauses t.literals) (let e : 0 + i ≡ i = omega arith in e);
  classes = λ s h. ap (λ (b : Bool). elim b as (λ y. ℕ) [ true ↦ slot_of (class_literal t.variables (lit_at s)) | false ↦ s ]) (lt-ltb s (2 * v) h);
  facts = λ s h. ap (λ (b : Bool). elim b as (λ y. Bool) [ true ↦ is_true t.variables (lit_at s) | false ↦ false ]) (lt-ltb s (2 * v) h);
  beyond = λ s h. (
    ap (λ (b : Bool). elim b as (λ y. ℕ) [ true ↦ slot_of (class_literal t.variables (lit_at s)) | false ↦ s ]) (le-ltb s (2 * v) h),
    ap (λ (b : Bool). elim b as (λ y. Bool) [ true ↦ is_true t.variables (lit_at s) | false ↦ false ]) (le-ltb s (2 * v) h),
  );
  marks = refl;
}

-- ---- a clause of literals and the clause of their slots

holds_some : (τ : Assignment) (C : List ℤ) → some_true τ C ≡ true → (l : ℤ) × Memᴰ l C × (true_under τ l ≡ true)
holds_some τ [] h = absurd (let z : ◌≡◌ {A = ℕ} 0 1 = cc in omega arith)
holds_some τ (x ∷ C) h = by (holds_some τ C) (true_under τ x) refl h
  where
    by : (some_true τ C ≡ true → (l : ℤ) × Memᴰ l C × (true_under τ l ≡ true)) → (b : Bool) → true_under τ x ≡ b → (b || some_true τ C) ≡ true → (l : ℤ) × Memᴰ l (x ∷ C) × (true_under τ l ≡ true)
    by rest true e h = (x, Memᴰ.head refl, e)
    by rest false e h = let r = rest h in (r.0, Memᴰ.tail r.1, r.2)

some_holds : (τ : Assignment) (C : List ℤ) {l : ℤ} → Memᴰ l C → true_under τ l ≡ true → some_true τ C ≡ true
some_holds τ [] m h = absurd (Memᴰ.not-nil m)
some_holds τ (x ∷ C) {l} m h = ⊎_elim (λ (e : l ≡ x). ap (λ (b : Bool). b || some_true τ C) (ap (true_under τ) (sym e) ∙ h)) (λ r. by (true_under τ x) (some_holds τ C r h)) (Memᴰ.cases_cons m)
  where
    by : (b : Bool) → some_true τ C ≡ true → (b || some_true τ C) ≡ true
    by true e = refl
    by false e = e

-- literals that are not 0
pub record Real (C : List ℤ) : Type 0 where
  pub each : (l : ℤ) → Memᴰ l C → 0 < nat_abs l

pub sat_slots : (τ : Assignment) (C : List ℤ) → Real C → some_true τ C ≡ true → Sat τ (map slot_of C)
sat_slots τ C real h = let r = holds_some τ C h in (slot_of r.0, Memᴰ.map slot_of r.1, value_slot τ r.0 (real.each r.0 r.1) ∙ r.2)

pub slots_sat : (τ : Assignment) (C : List ℤ) → Real C → Sat τ (map slot_of C) → some_true τ C ≡ true
slots_sat τ C real s = let r = mem_map C s.1 in some_holds τ C r.1 (sym (value_slot τ r.0 (real.each r.0 r.1)) ∙ ap (value τ) (sym r.2) ∙ s.2)

-- ---- a clause by its number

-- a clause that stands has the flag and its literals
pub clause_stands : (c : List ℕ) (l : List ℤ) (i : ℕ) {D : List ℕ} → clause_of c l i ≡ standing D → (T.standing c i ≡ 0 → ⊥) × (map slot_of (literals_of c l i) ≡ D)
unfolding clause_of
clause_stands c l i {D} e = by (T.standing c i) refl e
  where
    by : (x : ℕ) → T.standing c i ≡ x → elim x as (λ y. Clause) [ zero ↦ dropped | suc _ ↦ standing (map slot_of (literals_of c l i)) ] ≡ standing D → (T.standing c i ≡ 0 → ⊥) × (map slot_of (literals_of c l i) ≡ D)
    by zero q e = absurd (let z : ◌≡◌ {A = ℕ} 0 1 = cc in omega arith)
    by (suc x) q e = (λ z. omega (arith, z, q), let r : map slot_of (literals_of c l i) ≡ D = cc in r)

pub stands_clause : (c : List ℕ) (l : List ℤ) (i : ℕ) → T.standing c i ≡ 1 → clause_of c l i ≡ standing (map slot_of (literals_of c l i))
unfolding clause_of
stands_clause c l i e = ap (λ (x : ℕ). elim x as (λ y. Clause) [ zero ↦ dropped | suc _ ↦ standing (map slot_of (literals_of c l i)) ]) e

-- ---- classes and values of a literal

module _ (st : State) (t : Tables) (τ : Assignment) (S : StandsByOwn t st τ) (rows : Variables st.v t.variables) where
  pub class_holds : (l : ℤ) → Literal st.v l → true_under τ l ≡ true_under τ (class_literal t.variables l)
  class_holds (pos zero) L = absurd (omega (arith, L.above))
  class_holds (pos (suc n)) L = ap τ (sym (add-one n)) ∙ S.classes n L.within ∙ ap (λ (w : ℕ). true_under τ (class_of t.variables w)) (add-one n)
  class_holds (negsuc n) L =
      ap not (ap τ (sym (add-one n)) ∙ S.classes n L.within ∙ ap (λ (w : ℕ). true_under τ (class_of t.variables w)) (add-one n))
      ∙ sym (holds_neg τ (class_of t.variables (suc n)) (known_row (record { count = st.v; rows = rows; ranged = L })).class.above)

  -- of a literal whose variable is its own class
  pub fact_holds : (l : ℤ) → Literal st.v l → class_of t.variables (nat_abs l) ≡ pos (nat_abs l) → own_truth t.variables l ≡ pos 1 → true_under τ l ≡ true
  fact_holds (pos zero) L own e = absurd (omega (arith, L.above))
  fact_holds (pos (suc n)) L own e = ap τ (sym (add-one n)) ∙ S.truths n L.within (subst (λ (x : ℕ). class_of t.variables x ≡ pos x) (sym (add-one n)) own) (ap (value_of t.variables) (add-one n) ∙ e)
  fact_holds (negsuc n) L own e =
      ap not (ap τ (sym (add-one n)) ∙ S.falsehoods n L.within (subst (λ (x : ℕ). class_of t.variables x ≡ pos x) (sym (add-one n)) own) (ap (value_of t.variables) (add-one n) ∙ sym (neg_ℤ-neg_ℤ (value_of t.variables (suc n))) ∙ ap neg_ℤ e))
