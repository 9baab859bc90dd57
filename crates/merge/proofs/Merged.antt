-- THE LAW of the opening: without a clash, and with no standing clause that refusal 6 names, the tables keep the shape rule with the new classes, every clause still to be visited.
-- Why: a variable that loses its own class has an edge, so it stands in a two-literal clause; there it was its own class and had no value.
-- Assumes nothing.
use Prim.Native.Nat.{ℕ, zero, suc, ◌+◌, ◌-◌, ◌*◌, ◌/◌, ◌%◌, ◌≤◌, ◌<◌}
use native.Mathlib.Omega.{arith}
use mathlib.Core.Path.{◌≡◌, refl, sym, ap, subst, ◌∙◌}
use mathlib.Core.Bool.{Bool, true, false, not, ◌&&◌, ◌||◌}
use mathlib.Core.Logic.{⊎_elim}
use mathlib.Core.List.Memᴰ
use mathlib.Core.List.{List, [], ◌∷◌, Memᴰ}
use lib.ListN.{length, get_or, drop}
use lib.Seq.{get_or-take, get_or-drop}
use lib.Dec.{eqb}
use lib.IntN.{ℤ, pos, negsuc, neg_ℤ, nat_abs}
use lib.Signed.{non_neg}
use borrow.Author.Tests.{lt-ltb, ltb-true, eq-eqb}
use Rattle.base.specs.Decide.{same_or}
use Rattle.base.specs.Lists.{any}
use Rattle.base.proofs.Lists.{any_here, any_next}
use Rattle.base.proofs.Searches.{first_found}
use Rattle.literal.specs.Literals.{Literal, slot_of, lit_at, twin, sign_by}
use Rattle.literal.proofs.Signed.{abs_neg, ne_eq_z}
use Rattle.literal.proofs.Laws.{lit_slot, lit_var, slot_twin, slot_below, slot_variable}
use Rattle.literal.proofs.Twins.{twin_odd}
use Rattle.walk.specs.Forest.{Reach, here, on}
use Rattle.implications.specs.Skew.{Skew}
use Rattle.implications.specs.Edges.{outs}
use Rattle.implications.specs.Clauses.{froms, tos, implications}
use Rattle.implications.proofs.Csr.{outs_out}
use Rattle.scc.specs.Groups.{least_mutual, Representative}
use Rattle.scc.proofs.Least.{least_mutual_lem}
use Rattle.scc.proofs.Classes.{same_rep, twin_rep}
use Rattle.tables.specs.Tables.{Tables, start_of, length_of, standing, variable_at, class_of, value_of}
use Rattle.tables.specs.Values.{own_truth}
use Rattle.tables.specs.Clauses.{literals_of, slots_from}
use Rattle.tables.specs.Passes.{valued, unsettled, first_unsettled}
use Rattle.shape.specs.Shape.{Variable, Spread}
use Rattle.visits.specs.Formed.{Formed}
use Rattle.visits.proofs.Forming.{part_length, stands_one}
use Rattle.visits.proofs.StoreKeeps.{FormedTo}
use Rattle.table_graph.specs.Pairs.{ClausesInside}
use Rattle.table_graph.proofs.Listing.{formed_listed, from_clauses, froms_mem, slot_literal}
use Rattle.table_graph.proofs.Chain.{listed_skew}
use Rattle.merge.specs.Merge.{edges_of, clashes, representative, regrouped, merged_classes}
use Rattle.merge.proofs.Regrouped.{regrouped_length, regrouped_class, regrouped_value}
use Rattle.merge.proofs.Opening.{none_clash}

-- ---- a slot with an edge has its variable in a clause

-- a path that goes anywhere begins with an edge
pub first_edge : (adj : ℕ → List ℕ) {a b : ℕ} → Reach adj a b → (a ≡ b → ⊥) → (q : ℕ) × Memᴰ q (adj a)
first_edge adj here d = absurd (d refl)
first_edge adj {a} (on {b = b} {c = c} r m) d = ⊎_elim (λ (e : a ≡ b). (c, subst (λ (x : ℕ). Memᴰ c (adj x)) (sym e) m)) (λ (n : a ≡ b → ⊥). first_edge adj r n) (same_or a b)

outs_from : (fs ts : List ℕ) (p : ℕ) {q : ℕ} → Memᴰ q (outs fs ts p) → Memᴰ p fs
unfolding outs
outs_from [] ts p m = absurd (Memᴰ.not-nil m)
outs_from (f ∷ fs) [] p m = absurd (Memᴰ.not-nil m)
outs_from (f ∷ fs) (t ∷ ts) p {q} m =
    ⊎_elim
    (λ (e : f ≡ p). Memᴰ.head (sym e))
    (λ (d : f ≡ p → ⊥). Memᴰ.tail (outs_from fs ts p (subst (Memᴰ q) (outs_out f t p fs ts d) m)))
    (same_or f p)

pub edge_variable : {v n : ℕ} {c : List ℕ} {l : List ℤ} → ClausesInside v n c l → (s : ℕ) {q : ℕ} → Memᴰ q (implications (slots_from c l n 0) s)
    → (i : ℕ) × (i < n) × (j : ℕ) × (j < length_of c i) × (variable_at l (start_of c i + j) ≡ s / 2 + 1)
edge_variable {v} {n} {c} {l} L s m =
    let clauses : List (List ℕ) = slots_from c l n 0 in
    let (C, in-clauses, a, in-C, twin-a) = froms_mem clauses (outs_from (froms clauses) (tos clauses) s m) in
    let (i, below, is) = from_clauses c l n 0 in-clauses in
    let lt : i < n = omega arith in
    let (j, lj, slot) = slot_literal c l i (L.parts i lt) (subst (Memᴰ a) is in-C) in
    let x : ℤ = get_or l (start_of c i + j) (pos 0) in
    let above : 0 < nat_abs x = (L.each i lt j lj).above in
    let s-is : slot_of (neg_ℤ x) ≡ s = slot_twin x above ∙ ap twin (sym slot) ∙ sym twin-a in
    (i, lt, j, lj, sym (abs_neg x) ∙ slot_variable (neg_ℤ x) (omega (arith, above, abs_neg x)) ∙ ap (λ (k : ℕ). k / 2 + 1) s-is)

-- ---- refusal 6

any_at : {A : Type 0} (p : A → Bool) (xs : List A) (d : A) (k : ℕ) → k < length xs → p (get_or xs k d) ≡ true → any p xs ≡ true
any_at p [] d k lt e = absurd (omega arith)
any_at p (x ∷ xs) d zero lt e = any_here p x xs e
any_at p (x ∷ xs) d (suc k) lt e = go (any_at p xs d k (omega arith) e) (p x) refl
  where
    go : any p xs ≡ true → (b : Bool) → p x ≡ b → any p (x ∷ xs) ≡ true
    go rest true h = any_here p x xs h
    go rest false h = any_next p x xs h ∙ rest

or_right : (a b : Bool) → b ≡ true → (a || b) ≡ true
or_right true b e = refl
or_right false b e = e

module _ {v n : ℕ} (t : Tables) (F : Formed v n n false t.clauses t.literals t.variables) (settled : first_unsettled t n ≡ n) (i : ℕ) (lt : i < n) (j : ℕ) (lj : j < length_of t.clauses i) where
  stands : standing t.clauses i ≡ 1
  stands = ⊎_elim (λ (z : standing t.clauses i ≡ 0). absurd (omega (arith, F.rule.parts.dropped i lt z, lj))) (stands_one F i lt) (same_or (standing t.clauses i) 0)

  abbrev variable : ℕ
  variable = variable_at t.literals (start_of t.clauses i + j)

  unsettled_here : (value_of t.variables variable ≡ pos 0 → ⊥) → unsettled t i ≡ true
  unsettled_here d =
      let C : List ℤ = literals_of t.clauses t.literals i in
      let len : length C ≡ length_of t.clauses i = part_length F i lt in
      let at : get_or C j (pos 0) ≡ get_or t.literals (start_of t.clauses i + j) (pos 0) = get_or-take (length_of t.clauses i) (drop (start_of t.clauses i) t.literals) j (pos 0) lj ∙ get_or-drop (start_of t.clauses i) t.literals j (pos 0) in
      let one : valued t.variables (get_or C j (pos 0)) ≡ true = ap (valued t.variables) at ∙ ap not (ne_eq_z (value_of t.variables variable) (pos 0) d) in
      ap (λ (b : Bool). b && (eqb (length_of t.clauses i) 1 || any (valued t.variables) C)) (eq-eqb (standing t.clauses i) 1 stands)
      ∙ or_right (eqb (length_of t.clauses i) 1) (any (valued t.variables) C) (any_at (valued t.variables) C (pos 0) j (omega (arith, len, lj)) one)

  -- so no variable of a clause has a value
  no_value : (value_of t.variables variable ≡ pos 0 → ⊥) → ⊥
  unfolding first_unsettled
  no_value d = omega (arith, settled, lt, (first_found (unsettled t) n 0 i (omega arith) (omega arith) (unsettled_here d)).1)

-- ---- no value

not_other : (z : ℤ) → ((z ≡ pos 0 → ⊥) → ⊥) → z ≡ pos 0
not_other (pos zero) h = refl
not_other (pos (suc n)) h = absurd (h (λ e. omega (arith, ap nat_abs e)))
not_other (negsuc n) h = absurd (h (λ e. omega (arith, ap nat_abs e)))

-- a literal whose variable, by another name, has no value
pub own_none : (w : List ℤ) (c : ℤ) {u : ℕ} → nat_abs c ≡ u → ((value_of w u ≡ pos 0 → ⊥) → ⊥) → own_truth w c ≡ pos 0
own_none w c {u} e h = ap (sign_by (non_neg c)) (ap (value_of w) e ∙ not_other (value_of w u) h) ∙ signed (non_neg c)
  where
    signed : (b : Bool) → sign_by b (pos 0) ≡ pos 0
    signed true = refl
    signed false = refl

-- ---- the new classes

module _ {v n : ℕ} (t : Tables) (F : Formed v n n false t.clauses t.literals t.variables) where
  abbrev adj : ℕ → List ℕ
  adj = edges_of t n

  abbrev old : List ℤ
  old = t.variables

  abbrev new : List ℤ
  new = regrouped (representative adj v) v old

  abbrev rep : ℕ → ℕ
  rep = least_mutual adj (2 * v)

  pub edges_skew : Skew adj twin (2 * v)
  edges_skew = listed_skew (formed_listed F)

  pub edges_least : (s : ℕ) → s < 2 * v → Representative adj (2 * v) s (rep s)
  edges_least = least_mutual_lem adj (2 * v) edges_skew.inside

  -- a slot that reaches another was its own class
  pub moved_own : {r q : ℕ} → Reach adj r q → (r ≡ q → ⊥) → class_of old (r / 2 + 1) ≡ pos (r / 2 + 1)
  moved_own {r} path d =
      let (i, lt, j, lj, is) = edge_variable (formed_listed F) r (first_edge adj path d).1 in
      subst (λ (x : ℕ). class_of old x ≡ pos x) is ((F.rule.each i lt).own (lt-ltb i n lt) j lj)

  -- the class of a variable is the literal of a representative
  pub class_new : (u : ℕ) → u < v → class_of new (u + 1) ≡ lit_at (rep (slot_of (class_of old (u + 1))))
  unfolding representative
  class_new u lt = regrouped_class (representative adj v) v old u lt (omega (arith, F.vars.few, F.vars.room))

  pub variable_new : (u : ℕ) → u < v → nat_abs (class_of new (u + 1)) ≡ rep (slot_of (class_of old (u + 1))) / 2 + 1
  variable_new u lt = ap nat_abs (class_new u lt) ∙ lit_var (rep (slot_of (class_of old (u + 1))))

  -- values stay
  pub truth_new : (s : ℕ) → own_truth new (lit_at s) ≡ own_truth old (lit_at s)
  truth_new s = ap (sign_by (non_neg (lit_at s))) (ap (value_of new) (lit_var s) ∙ regrouped_value (representative adj v) v old (s / 2) ∙ ap (value_of old) (sym (lit_var s)))

  module _ (none : clashes adj v ≡ false) (settled : first_unsettled t n ≡ n) where
    -- a slot that reaches another had no value
    moved_unvalued : {r q : ℕ} → Reach adj r q → (r ≡ q → ⊥) → (value_of old (r / 2 + 1) ≡ pos 0 → ⊥) → ⊥
    moved_unvalued {r} path d h =
        let (i, lt, j, lj, is) = edge_variable (formed_listed F) r (first_edge adj path d).1 in
        no_value t F settled i lt j lj (λ e. h (subst (λ (x : ℕ). value_of old x ≡ pos 0) is e))

    -- a representative's variable: the representative of its positive literal is that literal
    positive_fixed : (r : ℕ) → r < 2 * v → rep r ≡ r → rep (2 * (r / 2)) ≡ 2 * (r / 2)
    positive_fixed r lt fixed =
        ⊎_elim
        (λ (e : r % 2 ≡ 0). subst (λ (x : ℕ). rep x ≡ x) (let q : r ≡ 2 * (r / 2) = omega arith in q) fixed)
        (λ (d : r % 2 ≡ 0 → ⊥).
        subst (λ (x : ℕ). rep x ≡ x) (twin_odd r d ∙ (let q : r - 1 ≡ 2 * (r / 2) = omega arith in q))
        (twin_rep adj (2 * v) edges_skew r lt (none_clash adj v edges_skew none r lt) ∙ ap twin fixed))
        (same_or (r % 2) 0)

    -- so a variable that was its own class stays it where a representative is its literal
    own_stays : (r : ℕ) → r < 2 * v → rep r ≡ r → class_of old (r / 2 + 1) ≡ pos (r / 2 + 1) → class_of new (r / 2 + 1) ≡ pos (r / 2 + 1)
    own_stays r lt fixed own =
        let x : ℕ = r / 2 + 1 in
        let slot : slot_of (pos x) ≡ 2 * (r / 2) = omega arith in
        class_new (r / 2) (omega arith)
        ∙ ap (λ (z : ℤ). lit_at (rep (slot_of z))) own
        ∙ ap (λ (k : ℕ). lit_at (rep k)) slot
        ∙ ap lit_at (positive_fixed r lt fixed ∙ sym slot)
        ∙ lit_slot (pos x) (omega arith)

    module _ (u : ℕ) (lt : u < v) where
      X : Variable old (u + 1)
      X = F.vars.each u lt

      abbrev class : ℤ
      class = class_of old (u + 1)

      slot_in : slot_of class < 2 * v
      slot_in = slot_below class v X.class.above (omega (arith, X.class.within, lt))

      abbrev r : ℕ
      r = rep (slot_of class)

      R : Representative adj (2 * v) (slot_of class) r
      R = edges_least (slot_of class) slot_in

      new_variable : nat_abs (class_of new (u + 1)) ≡ r / 2 + 1
      new_variable = variable_new u lt

      r_own : class_of old (r / 2 + 1) ≡ pos (r / 2 + 1)
      r_own =
          ⊎_elim
          (λ (e : r ≡ slot_of class). subst (λ (x : ℕ). class_of old x ≡ pos x) (slot_variable class X.class.above ∙ ap (λ (k : ℕ). k / 2 + 1) (sym e)) X.own)
          (λ (d : r ≡ slot_of class → ⊥). moved_own R.back d)
          (same_or r (slot_of class))

      merged_variable : Variable new (u + 1)
      merged_variable = record {
        class = record {
          above = omega (arith, new_variable);
          within = omega (arith, new_variable, slot_variable class X.class.above, X.class.within, R.least (slot_of class) here here);
        };
        own =
            subst (λ (x : ℕ). class_of new x ≡ pos x) (sym new_variable)
            (own_stays r R.below (sym ((same_rep adj (2 * v) edges_skew (slot_of class) r slot_in R.below).1 R.there R.back)) r_own);
        value = subst (λ (z : ℤ). nat_abs z ≤ 1) (sym (regrouped_value (representative adj v) v old u)) X.value;
      }

    -- a literal that gets another class literal had no value, and neither had that: the value of a class literal stays
    pub value_kept : (c : ℤ) → Literal v c → own_truth old c ≡ own_truth old (lit_at (rep (slot_of c)))
    value_kept c L =
        let s : ℕ = slot_of c in
        let G : Representative adj (2 * v) s (rep s) = edges_least s (slot_below c v L.above L.within) in
        ⊎_elim
        (λ (e : rep s ≡ s). ap (own_truth old) (sym (ap lit_at e ∙ lit_slot c L.above)))
        (λ (d : rep s ≡ s → ⊥). own_none old c (slot_variable c L.above) (moved_unvalued G.there (λ e. d (sym e))) ∙ sym (own_none old (lit_at (rep s)) (lit_var (rep s)) (moved_unvalued G.back d)))
        (same_or (rep s) s)

    -- so the value of each variable is that of its class literal still
    pub merged_spread : Spread v old → Spread v new
    merged_spread S u lt =
        let X = F.vars.each u lt in
        let c : ℤ = class_of old (u + 1) in
        let r : ℕ = rep (slot_of c) in
        regrouped_value (representative adj v) v old u ∙ S u lt ∙ value_kept c (record { above = X.class.above; within = omega (arith, X.class.within, lt) })
        ∙ sym (ap (own_truth new) (class_new u lt) ∙ truth_new r)

    -- THE LAW
    pub merged_formed : Formed v n 0 false t.clauses t.literals new
    merged_formed = record {
      number = F.number;
      records = F.records;
      places = F.places;
      rule = record {
        parts = F.rule.parts;
        each = λ i lt. record {
          ranged = (F.rule.each i lt).ranged;
          once = (F.rule.each i lt).once;
          own = λ e k h. absurd (let no : i < 0 = ltb-true i 0 e in omega arith);
        };
        empty = F.rule.empty;
      };
      vars = record { few = F.vars.few; room = omega (arith, regrouped_length (representative adj v) v old, F.vars.room); each = merged_variable };
    }

-- so the tables that Merge opens with are formed, with no clause settled, and their values are spread
pub classes_formed : {v n : ℕ} (t : Tables) → FormedTo v n n t → clashes (edges_of t n) v ≡ false → first_unsettled t n ≡ n → FormedTo v n 0 (merged_classes v n t)
unfolding merged_classes
classes_formed t F none settled = merged_formed t F none settled

pub classes_spread : {v n : ℕ} (t : Tables) → FormedTo v n n t → clashes (edges_of t n) v ≡ false → first_unsettled t n ≡ n → Spread v t.variables → Spread v (merged_classes v n t).variables
unfolding merged_classes
classes_spread t F none settled S = merged_spread t F none settled S
