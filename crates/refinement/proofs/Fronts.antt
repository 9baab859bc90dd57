-- A table is its first stated places: tables that agree on them keep the invariant alike, whatever stands beyond. Assumes nothing.
use Prim.Native.Nat.{ℕ, zero, suc, ◌+◌, ◌*◌, ◌-◌, ◌≤◌, ◌<◌}
use native.Mathlib.Omega.{arith}
use mathlib.Core.Path.{◌≡◌, sym, ap, subst, ◌∙◌}
use mathlib.Core.Logic.{inl, inr}
use mathlib.Core.List.{List, map}
use lib.ListN.{length, get_or, drop, length-drop}
use lib.Seq.{get_or-take, get_or-drop, length-take-le}
use lib.Dec.{ltb}
use lib.IntN.{ℤ, pos, nat_abs}
use lib.Signed.{non_neg}
use Rattle.base.proofs.Lists.{list_same}
use Rattle.literal.specs.Literals.{Literal, slot_of, lit_at, eq_z, sign_by}
use Rattle.literal.proofs.Laws.{slot_below}
use Rattle.walk.specs.Walk.{Stamps}
use Rattle.stamp_columns.specs.Columns.{columns}
use Rattle.stamps.specs.Fresh.{discovery_in, finish_in, parent_in, Holds, NestedOrApart, Parent, Start, FreshStamps}
use Rattle.stamps.specs.Fresh as stamps
use Rattle.hidden.proofs.Agree.{Agree}
use Rattle.stamp_columns.proofs.Columns.{column_discovery, column_finishes, column_parents, column_starts}
use Rattle.state.specs.declared.State.{State}
use Rattle.tables.specs.Tables.{Tables, start_of, length_of, class_of, value_of}
use Rattle.tables.specs.Tables as T
use Rattle.tables.specs.Long.{Long}
use Rattle.tables.specs.Clauses.{literals_of}
use Rattle.tables.specs.Values.{class_literal, own_truth, truth}
use Rattle.shape.specs.Shape.{Literals, Variable, Spread, Shape, settled_to}
use Rattle.visits.proofs.Forming.{shape_formed}
use Rattle.visits.proofs.Known.{class_ranged}
use Rattle.sound.specs.Formula.{Clause, dropped, standing}
use Rattle.moves.specs.Core.{Core}
use Rattle.moves.specs.Moves.{Freshness}
use Rattle.refinement.specs.Represented.{clause_of, Represented}
use Rattle.refinement.proofs.Literals.{slot_literal}
use Rattle.refinement.proofs.Held.{StampsOf, stale, from, HeldBy}

-- u is long enough, and has what t has in the stated places
pub record Fronts (t u : Tables) : Type 0 where
  pub long : Long u
  pub clauses : (k : ℕ) → k < 12288 → get_or u.clauses k 0 ≡ get_or t.clauses k 0
  pub literals : (k : ℕ) → k < 16384 → get_or u.literals k (pos 0) ≡ get_or t.literals k (pos 0)
  pub variables : (k : ℕ) → k < 2048 → get_or u.variables k (pos 0) ≡ get_or t.variables k (pos 0)
  pub times : (k : ℕ) → k < 4096 → get_or u.times k 0 ≡ get_or t.times k 0
  pub links : (k : ℕ) → k < 4096 → get_or u.links k (pos 0) ≡ get_or t.links k (pos 0)

-- ---- fresh stamps

module _ (v : ℕ) (few : v ≤ 1024) (times times' : List ℕ) (links links' : List ℤ) (T : (k : ℕ) → k < 4096 → get_or times' k 0 ≡ get_or times k 0) (K : (k : ℕ) → k < 4096 → get_or links' k (pos 0) ≡ get_or links k (pos 0)) where
  discovery_same : (s : ℕ) → s < 2 * v → discovery_in times' s ≡ discovery_in times s
  discovery_same s h = T (2 * s) (omega arith)

  finishes_same : (s : ℕ) → s < 2 * v → finish_in times' s ≡ finish_in times s
  finishes_same s h = T (2 * s + 1) (omega arith)

  holds_to : (p q : ℕ) → p < 2 * v → q < 2 * v → Holds times p q → Holds times' p q
  holds_to p q hp hq h = (omega (arith, h.0, discovery_same p hp, discovery_same q hq), omega (arith, h.1, finishes_same p hp, finishes_same q hq))

  holds_back : (p q : ℕ) → p < 2 * v → q < 2 * v → Holds times' p q → Holds times p q
  holds_back p q hp hq h = (omega (arith, h.0, discovery_same p hp, discovery_same q hq), omega (arith, h.1, finishes_same p hp, finishes_same q hq))

  nested_to : (p q : ℕ) → p < 2 * v → q < 2 * v → NestedOrApart times p q → NestedOrApart times' p q
  nested_to p q hp hq (inl (inl h)) = inl (inl (holds_to p q hp hq h))
  nested_to p q hp hq (inl (inr h)) = inl (inr (holds_to q p hq hp h))
  nested_to p q hp hq (inr (inl h)) = inr (inl (omega (arith, h, finishes_same p hp, discovery_same q hq)))
  nested_to p q hp hq (inr (inr h)) = inr (inr (omega (arith, h, finishes_same q hq, discovery_same p hp)))

  parent_to : (q p : ℕ) → q < 2 * v → p < 2 * v → Parent (2 * v) times q p → Parent (2 * v) times' q p
  parent_to q p hq hp (inl o) = inl (o.0, λ u hu h. o.1 u hu (holds_back u q hu hq h))
  parent_to q p hq hp (inr o) = inr (o.0, holds_to p q hp hq o.1, λ u hu d h. holds_to u p hu hp (o.2 u hu d (holds_back u q hu hq h)))

  start_to : (q r : ℕ) → q < 2 * v → r < 2 * v → Start (2 * v) times q r → Start (2 * v) times' q r
  start_to q r hq hr o = (holds_to r q hr hq o.0, λ u hu h. holds_to r u hr hu (o.1 u hu (holds_back u q hu hq h)))

  pub fresh_same : FreshStamps v times links → FreshStamps v times' links'
  fresh_same F = record {
    every_time = record {
      ranged = λ k h. subst (λ (x : ℕ). (0 < x) × (x ≤ 4 * v)) (sym (T k (omega arith))) (F.every_time.ranged k h);
      once = λ j hj k hk e. F.every_time.once j hj k hk (sym (T j (omega arith)) ∙ e ∙ T k (omega arith));
    };
    forward = λ s h. omega (arith, F.forward s h, discovery_same s h, finishes_same s h);
    nested = λ p hp q hq. nested_to p q hp hq (F.nested p hp q hq);
    parent_literal = λ q h. subst (Literal v) (sym (K (2 * q) (omega arith))) (F.parent_literal q h);
    parent = λ q h. let L = F.parent_literal q h in
        subst (λ (z : ℤ). Parent (2 * v) times' q (slot_of z)) (sym (K (2 * q) (omega arith))) (parent_to q (slot_of (parent_in links q)) h (slot_below (parent_in links q) v L.above L.within) (F.parent q h));
    start_literal = λ q h. subst (Literal v) (sym (K (2 * q + 1) (omega arith))) (F.start_literal q h);
    start = λ q h. let L = F.start_literal q h in
        subst (λ (z : ℤ). Start (2 * v) times' q (slot_of z)) (sym (K (2 * q + 1) (omega arith))) (start_to q (slot_of (stamps.start_in links q)) h (slot_below (stamps.start_in links q) v L.above L.within) (F.start q h));
  }

  agree_same : {σ : Stamps} → Agree (2 * v) (columns times links) σ → Agree (2 * v) (columns times' links') σ
  agree_same A = record {
    discoveries = λ q h. column_discovery times' links' q ∙ discovery_same q h ∙ sym (column_discovery times links q) ∙ A.discoveries q h;
    finishes = λ q h. column_finishes times' links' q ∙ finishes_same q h ∙ sym (column_finishes times links q) ∙ A.finishes q h;
    parents = λ q h. column_parents times' links' q ∙ ap slot_of (K (2 * q) (omega arith)) ∙ sym (column_parents times links q) ∙ A.parents q h;
    starts = λ q h. column_starts times' links' q ∙ ap slot_of (K (2 * q + 1) (omega arith)) ∙ sym (column_starts times links q) ∙ A.starts q h;
  }

-- ---- the shape rule

module _ {t u : Tables} {st : State} (A : Fronts t u) (S : Shape t st) where
  n_in : (i : ℕ) → i < st.n → 3 * i + 2 < 12288
  n_in i h = omega (arith, h, S.n_limit)

  starts : (i : ℕ) → i < st.n → start_of u.clauses i ≡ start_of t.clauses i
  starts i h = A.clauses (3 * i) (omega (arith, n_in i h))

  lengths : (i : ℕ) → i < st.n → length_of u.clauses i ≡ length_of t.clauses i
  lengths i h = A.clauses (3 * i + 1) (omega (arith, n_in i h))

  flags : (i : ℕ) → i < st.n → T.standing u.clauses i ≡ T.standing t.clauses i
  flags i h = A.clauses (3 * i + 2) (n_in i h)

  places : (i k : ℕ) → i < st.n → k < length_of t.clauses i → get_or u.literals (start_of u.clauses i + k) (pos 0) ≡ get_or t.literals (start_of t.clauses i + k) (pos 0)
  places i k h l =
      ap (λ (s : ℕ). get_or u.literals (s + k) (pos 0)) (starts i h) ∙ A.literals (start_of t.clauses i + k) (omega (arith, l, S.clauses.parts.inside i h))

  pub classes_same : (w : ℕ) → 0 < w → w ≤ st.v → class_of u.variables w ≡ class_of t.variables w
  classes_same w a b = A.variables (2 * w - 2) (omega (arith, a, b, S.v_limit))

  pub values_same : (w : ℕ) → 0 < w → w ≤ st.v → value_of u.variables w ≡ value_of t.variables w
  values_same w a b = A.variables (2 * w - 1) (omega (arith, a, b, S.v_limit))

  literals_same : (i : ℕ) → i < st.n → Literals st.v u.literals u.variables (ltb i (settled_to st.pass st.n)) (start_of u.clauses i) (length_of u.clauses i)
  literals_same i h = record {
    ranged = λ k l. let q = short k l in subst (Literal st.v) (sym (places i k h q)) (L.ranged k q);
    once = λ k l j lt e. let q = short k l in L.once k q j lt (ap nat_abs (sym (places i j h (omega (arith, lt, q)))) ∙ e ∙ ap nat_abs (places i k h q));
    own = λ s k l. let q = short k l in
        subst (λ (z : ℤ). class_of u.variables (nat_abs z) ≡ pos (nat_abs z)) (sym (places i k h q))
        (classes_same (nat_abs (get_or t.literals (start_of t.clauses i + k) (pos 0))) (L.ranged k q).above (L.ranged k q).within ∙ L.own s k q);
  }
    where
      L : Literals st.v t.literals t.variables (ltb i (settled_to st.pass st.n)) (start_of t.clauses i) (length_of t.clauses i)
      L = S.clauses.each i h

      short : (k : ℕ) → k < length_of u.clauses i → k < length_of t.clauses i
      short k l = omega (arith, l, lengths i h)

  variable_same : (w : ℕ) → w < st.v → Variable u.variables (w + 1)
  variable_same w h =
      let X = S.variables w h in
      let c = classes_same (w + 1) (omega arith) (omega (arith, h)) in
      let x = values_same (w + 1) (omega arith) (omega (arith, h)) in
      record {
        class = subst (Literal (w + 1)) (sym c) X.class;
        own = subst (λ (z : ℤ). class_of u.variables (nat_abs z) ≡ pos (nat_abs z)) (sym c) (classes_same (nat_abs (class_of t.variables (w + 1))) X.class.above (omega (arith, X.class.within, h)) ∙ X.own);
        value = subst (λ (z : ℤ). nat_abs z ≤ 1) (sym x) X.value;
      }

  -- the value of a literal's class literal
  own_same : (l : ℤ) → Literal st.v l → own_truth u.variables l ≡ own_truth t.variables l
  own_same l L = ap (sign_by (non_neg l)) (values_same (nat_abs l) L.above L.within)

  spread_same : Spread st.v u.variables
  spread_same w h =
      let X = S.variables w h in
      values_same (w + 1) (omega arith) (omega (arith, h)) ∙ S.values w h
      ∙ sym (ap (own_truth u.variables) (classes_same (w + 1) (omega arith) (omega (arith, h))) ∙ own_same (class_of t.variables (w + 1)) (record { above = X.class.above; within = omega (arith, X.class.within, h) }))

  pub truth_same : (l : ℤ) → Literal st.v l → truth u.variables l ≡ truth t.variables l
  truth_same l L =
      ap (λ (z : ℤ). own_truth u.variables (sign_by (non_neg l) z)) (classes_same (nat_abs l) L.above L.within)
      ∙ own_same (class_literal t.variables l) (class_ranged (record { count = st.v; rows = (shape_formed S).vars; ranged = L }))

  pub shape_same : Shape u st
  shape_same = record {
    long = A.long;
    v_limit = S.v_limit;
    n_limit = S.n_limit;
    clauses = record {
      parts = record {
        flag = λ i h. omega (arith, flags i h, S.clauses.parts.flag i h);
        dropped = λ i h e. lengths i h ∙ S.clauses.parts.dropped i h (sym (flags i h) ∙ e);
        inside = λ i h. omega (arith, starts i h, lengths i h, S.clauses.parts.inside i h);
        rising = λ j h i lt. omega (arith, starts i (omega (arith, h, lt)), starts j h, S.clauses.parts.rising j h i lt);
        apart = λ j h i lt a b. let hi : i < st.n = omega (arith, h, lt) in
            omega (arith, starts i hi, starts j h, lengths i hi, S.clauses.parts.apart j h i lt (omega (arith, a, lengths i hi)) (omega (arith, b, lengths j h)));
      };
      each = literals_same;
      empty = λ i h s z. S.clauses.empty i h (sym (flags i h) ∙ s) (sym (lengths i h) ∙ z);
    };
    variables = variable_same;
    values = spread_same;
    cursor = S.cursor;
    stamps = λ e. fresh_same st.v S.v_limit t.times u.times t.links u.links A.times A.links (S.stamps e);
    programme = S.programme;
  }

  part_same : (i : ℕ) → i < st.n → literals_of u.clauses u.literals i ≡ literals_of t.clauses t.literals i
  part_same i h =
      list_same (pos 0) (literals_of u.clauses u.literals i) (literals_of t.clauses t.literals i) (size_u ∙ lengths i h ∙ sym size_t)
      (λ k l. let q : k < length_of t.clauses i = omega (arith, l, size_u, lengths i h) in
      get_or-take (length_of u.clauses i) (drop (start_of u.clauses i) u.literals) k (pos 0) (omega (arith, q, lengths i h)) ∙ get_or-drop (start_of u.clauses i) u.literals k (pos 0)
      ∙ places i k h q
      ∙ sym (get_or-take (length_of t.clauses i) (drop (start_of t.clauses i) t.literals) k (pos 0) q ∙ get_or-drop (start_of t.clauses i) t.literals k (pos 0)))
    where
      size_u : length (literals_of u.clauses u.literals i) ≡ length_of u.clauses i
      size_u = length-take-le (length_of u.clauses i) (drop (start_of u.clauses i) u.literals) (omega (arith, length-drop (start_of u.clauses i) u.literals, starts i h, lengths i h, S.clauses.parts.inside i h, A.long.literals))

      size_t : length (literals_of t.clauses t.literals i) ≡ length_of t.clauses i
      size_t = length-take-le (length_of t.clauses i) (drop (start_of t.clauses i) t.literals) (omega (arith, length-drop (start_of t.clauses i) t.literals, S.clauses.parts.inside i h, S.long.literals))

  pub clause_same : (i : ℕ) → i < st.n → clause_of u.clauses u.literals i ≡ clause_of t.clauses t.literals i
  unfolding clause_of
  clause_same i h = λ z. elim (flags i h z) as (λ y. Clause) [ zero ↦ dropped | suc _ ↦ standing (map slot_of (part_same i h z)) ]

-- THE LAW
pub held_same : {P : ℕ → Core → Freshness → Type 0} {t u : Tables} {st : State} → Fronts t u → HeldBy P t st → HeldBy P u st
held_same {P} {t} {u} {st} A H = record {
  core = H.core;
  stamped = H.stamped;
  so = H.so;
  shape = shape_same A H.shape;
  tied = record {
    number = R.number;
    clauses = λ i h. R.clauses i h ∙ sym (clause_same A H.shape i h);
    classes = λ s h. let L = slot_literal st.v s h in R.classes s h ∙ ap (λ (z : ℤ). slot_of (sign_by (non_neg (lit_at s)) z)) (sym (classes_same A H.shape (nat_abs (lit_at s)) L.above L.within));
    facts = λ s h. let L = slot_literal st.v s h in R.facts s h ∙ ap (λ (z : ℤ). eq_z z (pos 1)) (sym (truth_same A H.shape (lit_at s) L));
    beyond = R.beyond;
    marks = R.marks;
  };
  stamps = by H.stamps;
}
  where
    R : Represented st.v st.n st.mark t H.core
    R = H.tied

    by : {w : Freshness} → StampsOf t st w → StampsOf u st w
    by (stale e) = stale e
    by (from σ c B at) = from σ c (agree_same st.v H.shape.v_limit t.times u.times t.links u.links A.times A.links B) at
