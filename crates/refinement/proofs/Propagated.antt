-- A visit of Propagate is a list of moves, and so is any number of them: Propagate keeps the satisfying assignments at every stopping point, and every clause is a part of the loaded one. Assumes nothing.
use Prim.Native.Nat.{ℕ, zero, suc, ◌-◌, ◌≤◌, ◌<◌}
use native.Mathlib.Omega.{arith}
use mathlib.Core.Path.{◌≡◌, refl, sym, ap, subst, ◌∙◌}
use mathlib.Core.Bool.{Bool, true, false, not, ◌||◌}
use mathlib.Core.Logic.{◌⊎◌, inl, inr, ⊎_elim}
use mathlib.Core.List.Memᴰ
use mathlib.Core.List.{List, [], ◌∷◌, map, Memᴰ, Sublistᴰ}
use lib.ListN.{length, get_or, set, length-set}
use lib.Seq.{get_or-set_same, get_or-set_other, set-set}
use lib.Dec.{eqb}
use borrow.Author.Tests.{ne_eqb}
use lib.IntN.{ℤ, pos, nat_abs}
use lib.Signed.{non_neg}
use Rattle.base.specs.Decide.{same_or}
use Rattle.base.specs.Lists.{any, filter}
use Rattle.base.proofs.Lists.{mem_filter, any_out, in_filter, filter_sub, mem_get_d}
use Rattle.literal.specs.Literals.{Literal, slot_of, lit_at, eq_z, sign_by}
use Rattle.literal.proofs.Laws.{lit_slot, slot_below}
use Rattle.tables.specs.Tables.{Tables, tables, length_of}
use Rattle.tables.specs.Tables as T
use Rattle.tables.specs.Values as values
use Rattle.tables.specs.Clauses.{literals_of}
use Rattle.tables.specs.Fates.{shortened, dropped_at}
use Rattle.tables.specs.Fates as fates
use Rattle.visits.specs.Formed.{Formed, Variables, Known}
use Rattle.visits.proofs.Stores.{recorded, stored_at, stored_view, stored_other, recorded_other, recorded_here}
use Rattle.visits.proofs.Forming.{clause_fits, record_inside, recorded_same, part_length}
use Rattle.visits.proofs.MadeTrue.{true_classes}
use Rattle.visits.proofs.Known.{class_ranged, known_class, known_place}
use Rattle.visits.proofs.Fitting.{fit_member, filter_shorter}
use Rattle.propagate_visits.specs.Visits.{not_false}
use Rattle.sound.specs.Formula.{Clause, dropped, standing}
use Rattle.moves.specs.Core as core
use Rattle.moves.specs.Moves.{Change, satisfied, falsified, unit, conflict, spent, change, Moves, stay, go}
use Rattle.refinement.specs.Represented.{clause_of, Represented}
use Rattle.refinement.proofs.Literals.{slot_literal, class_is, true_is, false_is, facts_set, complement_true}

-- ---- lists

-- a member of a mapped list
pub mem_map : (C : List ℤ) {s : ℕ} → Memᴰ s (map slot_of C) → (l : ℤ) × Memᴰ l C × (s ≡ slot_of l)
mem_map C m = let r = Memᴰ.of_map slot_of C m in (r.0, r.1, sym r.2)

pub map_sub : {D C : List ℤ} → Sublistᴰ D C → Sublistᴰ (map slot_of D) (map slot_of C)
map_sub Sublistᴰ.slnil = Sublistᴰ.slnil
map_sub (Sublistᴰ.cons s) = Sublistᴰ.cons (map_sub s)
map_sub (Sublistᴰ.cons-cons e s) = Sublistᴰ.cons-cons (ap slot_of e) (map_sub s)

-- a member stands at a place
pub mem_at : (C : List ℤ) {l : ℤ} → Memᴰ l C → (j : ℕ) × (j < length C) × (l ≡ get_or C j (pos 0))
mem_at C m = let r = mem_get_d C (pos 0) m in (r.0, r.1, sym r.2)

-- what is left of a list passes the test
filter_test : {A : Type 0} (p : A → Bool) (xs : List A) {x : A} → Memᴰ x (filter p xs) → p x ≡ true
unfolding filter
filter_test p [] m = absurd (Memᴰ.not-nil m)
filter_test {A} p (y ∷ xs) {x} m = by (λ r. filter_test p xs r) (p y) refl m
  where
    by : (Memᴰ x (filter p xs) → p x ≡ true) → (b : Bool) → p y ≡ b → Memᴰ x (elim b [ true ↦ y ∷ filter p xs | false ↦ filter p xs ]) → p x ≡ true
    by rest true e m = ⊎_elim (λ (q : x ≡ y). ap p q ∙ e) (λ r. rest r) (Memᴰ.cases_cons m)
    by rest false e m = rest m

-- ---- a clause stored anew

module _ {v n sl : ℕ} {t : Tables} {k : core.Core} (F : Formed v n sl false t.clauses t.literals t.variables) (R : Represented v n false t k) (i : ℕ) (lt : i < n) where
  -- what stands of clause i
  pub stands_as : T.standing t.clauses i ≡ 1 → core.core_clause k i ≡ standing (map slot_of (literals_of t.clauses t.literals i))
  unfolding clause_of
  stands_as e = R.clauses i lt ∙ ap (λ (x : ℕ). elim x as (λ y. Clause) [ zero ↦ dropped | suc _ ↦ standing (map slot_of (literals_of t.clauses t.literals i)) ]) e

  pub drops_as : T.standing t.clauses i ≡ 0 → core.core_clause k i ≡ dropped
  unfolding clause_of
  drops_as e = R.clauses i lt ∙ ap (λ (x : ℕ). elim x as (λ y. Clause) [ zero ↦ dropped | suc _ ↦ standing (map slot_of (literals_of t.clauses t.literals i)) ]) e

  -- the tables with clause i holding D, flagged f, are what stands with clause i put anew
  pub put_represented : (D : List ℤ) (f : ℕ) (x : Clause) → length D ≤ length_of t.clauses i → x ≡ (elim f as (λ y. Clause) [ zero ↦ dropped | suc _ ↦ standing (map slot_of D) ])
      → Represented v n false (tables (recorded t.clauses i (length D) f) (stored_at t.clauses t.literals i D) t.variables t.times t.links) (core.put i x k)
  unfolding clause_of
  put_represented D f x short e = record {
    number = length-set k.clauses i x ∙ R.number;
    clauses = λ j lj.
        ⊎_elim
        (λ (q : j ≡ i).
        ap (λ (y : ℕ). get_or (set k.clauses i x) y dropped) q ∙ get_or-set_same k.clauses i x dropped (omega (arith, R.number, lt)) ∙ e
        ∙ sym (ap (λ (y : ℕ). clause_of (recorded t.clauses i (length D) f) (stored_at t.clauses t.literals i D) y) q ∙ here))
        (λ (d : j ≡ i → ⊥).
        get_or-set_other k.clauses i j x dropped d ∙ R.clauses j lj
        ∙ sym ((λ z. elim ((recorded_other t.clauses i (length D) f j d).1 z) as (λ y. Clause) [ zero ↦ dropped | suc _ ↦ standing (map slot_of (stored_other F i lt D f short j lj d z)) ])))
        (same_or j i);
    classes = R.classes;
    facts = R.facts;
    beyond = R.beyond;
    marks = R.marks;
  }
    where
      here : clause_of (recorded t.clauses i (length D) f) (stored_at t.clauses t.literals i D) i ≡ (elim f as (λ y. Clause) [ zero ↦ dropped | suc _ ↦ standing (map slot_of D) ])
      here =
          λ z. elim ((recorded_here t.clauses i (length D) f (record_inside F i lt)).1 z) as (λ y. Clause) [ zero ↦ dropped | suc _ ↦ standing (map slot_of (stored_view F i lt D f short z)) ]

-- ---- the moves of a visit

-- the literals of clause i
abbrev pub literals_at : Tables → ℕ → List ℤ
literals_at t i = literals_of t.clauses t.literals i

-- the mark set
pub mark_represented : {v n : ℕ} {t : Tables} {k : core.Core} → Represented v n false t k → Represented v n true t (core.marked_core k)
mark_represented R = record { number = R.number; clauses = R.clauses; classes = R.classes; facts = R.facts; beyond = R.beyond; marks = refl }

-- the value of a literal that is not false is set, at its class literal
module _ {v n : ℕ} {t : Tables} {k : core.Core} (R : Represented v n false t k) (rows : Variables v t.variables) (x : ℤ) (X : Literal v x) (kept : values.is_false t.variables x ≡ false) where
  pub learn_represented : Represented v n false (tables t.clauses t.literals (values.set_true t.variables x) t.times t.links) (core.learn (k.class (slot_of x)) k)
  learn_represented = record {
    number = R.number;
    clauses = R.clauses;
    classes = λ s h. R.classes s h ∙ ap (λ (y : ℤ). slot_of (sign_by (non_neg (lit_at s)) y)) (sym (true_classes rows x X (nat_abs (lit_at s))));
    facts = λ s h.
        let d : ℤ = values.class_literal t.variables (lit_at s) in
        let back : lit_at (slot_of d) ≡ d = lit_slot d (class_ranged (record { count = v; rows = rows; ranged = slot_literal v s h })).above in
        ap (λ (y : ℕ). eqb (k.class s) y || k.facts s) (class_is R rows x X)
        ∙ ap (λ (y : ℕ). eqb y (slot_of c) || k.facts s) (R.classes s h)
        ∙ facts_set t.variables c (class_ranged K).above (known_place (known_class K)) (slot_of d) (k.facts s)
        (ap (λ (y : ℤ). eq_z (values.own_truth t.variables y) (pos 1)) back ∙ sym (R.facts s h)) (complement_true t.variables c (class_ranged K).above ∙ kept)
        ∙ ap (λ (y : ℤ). eq_z (values.own_truth (values.set_true t.variables x) y) (pos 1))
        (back ∙ ap (sign_by (non_neg (lit_at s))) (sym (true_classes rows x X (nat_abs (lit_at s)))));
    beyond = λ s h. (
      (R.beyond s h).0,
      ap (λ (b : Bool). b || k.facts s) (ne_eqb (k.class s) (k.class (slot_of x)) (λ q. omega (arith, q, (R.beyond s h).0, class_is R rows x X, slot_below c v (class_ranged K).above (class_ranged K).within, h))) ∙ (R.beyond s h).1,
    );
    marks = R.marks;
  }
    where
      K : Known t.variables x
      K = record { count = v; rows = rows; ranged = X }

      c : ℤ
      c = values.class_literal t.variables x

-- what a simulated step leaves: moves from k to some k' that the tables represent
pub record Simulated (v n : ℕ) (mark : Bool) (t : Tables) (k : core.Core) : Type 0 where
  pub to : core.Core
  pub moves : Moves v k spent to spent
  pub tied : Represented v n mark t to

module _ {v n : ℕ} {t : Tables} {k : core.Core} (F : Formed v n n false t.clauses t.literals t.variables) (R : Represented v n false t k) (i : ℕ) (lt : i < n) (stands : T.standing t.clauses i ≡ 1) where
  -- a true literal
  pub simulate_dropped : any (values.is_true t.variables) (literals_at t i) ≡ true → Simulated v n false (dropped_at i t.variables t) k
  unfolding dropped_at
  simulate_dropped h =
      let m = any_out (values.is_true t.variables) (literals_at t i) h in
      record {
        to = core.put i dropped k;
        moves = go stay (change (satisfied i (stands_as F R i lt stands) (Memᴰ.map slot_of m.1) (true_is R F.vars m.0 (fit_member (clause_fits F i lt) m.1) ∙ m.2)));
        tied = put_represented F R i lt [] 0 dropped (omega arith) refl;
      }

  -- false literals go
  remain : Sublistᴰ (map slot_of (not_false t.variables (literals_at t i))) (map slot_of (literals_at t i))
  remain = map_sub (filter_sub (λ l. not (values.is_false t.variables l)) (literals_at t i))

  gone_false : (s : ℕ) → Memᴰ s (map slot_of (literals_at t i)) → Memᴰ s (map slot_of (not_false t.variables (literals_at t i))) ⊎ (core.core_false k s ≡ true)
  gone_false s m =
      let r = mem_map (literals_at t i) m in
      by_test r.0 r.1 r.2 (values.is_false t.variables r.0) refl
    where
      by_test : (l : ℤ) → Memᴰ l (literals_at t i) → s ≡ slot_of l → (b : Bool) → values.is_false t.variables l ≡ b → Memᴰ s (map slot_of (not_false t.variables (literals_at t i))) ⊎ (core.core_false k s ≡ true)
      by_test l m q true e = inr (ap (core.core_false k) q ∙ false_is R F.vars l (fit_member (clause_fits F i lt) m) ∙ e)
      by_test l m q false e = inl (subst (λ (x : ℕ). Memᴰ x (map slot_of (not_false t.variables (literals_at t i)))) (sym q) (Memᴰ.map slot_of (in_filter (λ y. not (values.is_false t.variables y)) (literals_at t i) m (ap not e))))

  shorter : Change k (core.put i (standing (map slot_of (not_false t.variables (literals_at t i)))) k)
  shorter = falsified i (stands_as F R i lt stands) remain gone_false

  size : length (not_false t.variables (literals_at t i)) ≤ length_of t.clauses i
  size = omega (arith, filter_shorter (λ l. not (values.is_false t.variables l)) (literals_at t i), part_length F i lt)

  pub simulate_left : Simulated v n false (shortened i (not_false t.variables (literals_at t i)) t) k
  unfolding shortened
  simulate_left = record {
    to = core.put i (standing (map slot_of (not_false t.variables (literals_at t i)))) k;
    moves = go stay (change shorter);
    tied = subst (λ (x : List ℕ). Represented v n false (tables x (stored_at t.clauses t.literals i (not_false t.variables (literals_at t i))) t.variables t.times t.links) (core.put i (standing (map slot_of (not_false t.variables (literals_at t i)))) k))
        (ap (recorded t.clauses i (length (not_false t.variables (literals_at t i)))) (sym stands) ∙ recorded_same t.clauses i (length (not_false t.variables (literals_at t i))))
        (put_represented F R i lt (not_false t.variables (literals_at t i)) 1 (standing (map slot_of (not_false t.variables (literals_at t i)))) size refl);
  }

  -- one literal is left: its value is set
  pub simulate_unit : (x : ℤ) → not_false t.variables (literals_at t i) ≡ x ∷ [] → Simulated v n false (dropped_at i (values.set_true t.variables x) t) k
  unfolding dropped_at
  simulate_unit x e = record {
    to = core.learn (k.class (slot_of x)) (core.put i dropped (core.put i (standing (slot_of x ∷ [])) k));
    moves = go (go stay (change (subst (λ (D : List ℤ). Change k (core.put i (standing (map slot_of D)) k)) e shorter))) (change (unit i (get_or-set_same k.clauses i (standing (slot_of x ∷ [])) dropped (omega (arith, R.number, lt)))));
    tied = learn_represented put_twice F.vars x X kept;
  }
    where
      member : Memᴰ x (not_false t.variables (literals_at t i))
      member = subst (Memᴰ x) (sym e) (Memᴰ.head refl)

      X : Literal v x
      X = fit_member (clause_fits F i lt) (mem_filter (λ l. not (values.is_false t.variables l)) (literals_at t i) member)

      put_twice : Represented v n false (tables (recorded t.clauses i 0 0) (stored_at t.clauses t.literals i []) t.variables t.times t.links) (core.put i dropped (core.put i (standing (slot_of x ∷ [])) k))
      put_twice =
          subst (Represented v n false (tables (recorded t.clauses i 0 0) (stored_at t.clauses t.literals i []) t.variables t.times t.links))
          (ap (λ (l : List Clause). core.with_clauses l k) (sym (set-set k.clauses i (standing (slot_of x ∷ [])) dropped))) (put_represented F R i lt [] 0 dropped (omega arith) refl)

      -- it is not false
      kept : values.is_false t.variables x ≡ false
      kept = flip (values.is_false t.variables x) (filter_test (λ l. not (values.is_false t.variables l)) (literals_at t i) member)
        where
          flip : (b : Bool) → not b ≡ true → b ≡ false
          flip true h = sym h
          flip false h = refl

  -- none is left: the clause stands empty, and the mark is set
  pub simulate_conflict : not_false t.variables (literals_at t i) ≡ [] → Simulated v n true (shortened i [] t) k
  unfolding shortened
  simulate_conflict e = record {
    to = core.marked_core (core.put i (standing []) k);
    moves = go (go stay (change (subst (λ (D : List ℤ). Change k (core.put i (standing (map slot_of D)) k)) e shorter))) (change (conflict i (get_or-set_same k.clauses i (standing []) dropped (omega (arith, R.number, lt)))));
    tied = mark_represented (subst (λ (x : List ℕ). Represented v n false (tables x (stored_at t.clauses t.literals i []) t.variables t.times t.links) (core.put i (standing []) k))
        (ap (recorded t.clauses i 0) (sym stands) ∙ recorded_same t.clauses i 0)
        (put_represented F R i lt [] 1 (standing []) (omega arith) refl));
  }
