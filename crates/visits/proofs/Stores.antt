-- Storing a fate at clause i: the records and the view of every clause after it, and that the clauses' part of the shape rule is kept. With these laws no later proof looks at the flat literal table. Assumes nothing.
use Prim.Native.Nat.{ℕ, ◌+◌, ◌*◌, ◌≤◌, ◌<◌}
use native.Mathlib.Omega.{arith}
use mathlib.Core.Path.{◌≡◌, sym, ap, subst, ◌∙◌}
use mathlib.Core.Bool.{Bool, true}
use mathlib.Core.List.{List}
use mathlib.Core.Logic.{◌⊎◌, inl, inr, ⊎_elim}
use lib.ListN.{length, take, drop, get_or, set, length-set, length-drop}
use lib.Seq.{get_or-set_same, get_or-set_other, get_or-take, get_or-drop, length-take-le}
use lib.Dec.{ltb}
use lib.IntN.{ℤ, pos, nat_abs}
use Rattle.base.specs.Decide.{same_or, le_or}
use Rattle.literal.specs.Literals.{Literal}
use Rattle.tables.specs.Tables.{start_of, length_of, standing, class_of}
use Rattle.tables.specs.Clauses.{literals_of}
use Rattle.tables.specs.Fates.{put_part}
use Rattle.shape.specs.Shape.{Parts, Literals, Clauses}
use Rattle.shape.proofs.Shrinking.{parts_shrink, literals_kept}
use Rattle.visits.specs.Formed.{Formed, FitClause}
use Rattle.visits.proofs.Parts.{put_length, put_before, put_behind, put_at, put_view, put_other}

-- ---- the records after the length m and the flag f of clause i are set

abbrev pub recorded : List ℕ → ℕ → ℕ → ℕ → List ℕ
recorded c i m f = set (set c (3 * i + 1) m) (3 * i + 2) f

module _ (c : List ℕ) (i m f : ℕ) where
  pub recorded_start : (j : ℕ) → start_of (recorded c i m f) j ≡ start_of c j
  recorded_start j = get_or-set_other (set c (3 * i + 1) m) (3 * i + 2) (3 * j) f 0 (λ e. omega arith) ∙ get_or-set_other c (3 * i + 1) (3 * j) m 0 (λ e. omega arith)

  pub recorded_other : (j : ℕ) → (j ≡ i → ⊥) → (length_of (recorded c i m f) j ≡ length_of c j) × (standing (recorded c i m f) j ≡ standing c j)
  recorded_other j d = (
    get_or-set_other (set c (3 * i + 1) m) (3 * i + 2) (3 * j + 1) f 0 (λ e. omega arith) ∙ get_or-set_other c (3 * i + 1) (3 * j + 1) m 0 (λ e. d (omega arith)),
    get_or-set_other (set c (3 * i + 1) m) (3 * i + 2) (3 * j + 2) f 0 (λ e. d (omega arith)) ∙ get_or-set_other c (3 * i + 1) (3 * j + 2) m 0 (λ e. omega arith),
  )

  pub recorded_here : 3 * i + 2 < length c → (length_of (recorded c i m f) i ≡ m) × (standing (recorded c i m f) i ≡ f)
  recorded_here h = (
    get_or-set_other (set c (3 * i + 1) m) (3 * i + 2) (3 * i + 1) f 0 (λ e. omega arith) ∙ get_or-set_same c (3 * i + 1) m 0 (omega arith),
    get_or-set_same (set c (3 * i + 1) m) (3 * i + 2) f 0 (simp length-set h),
  )

  pub recorded_length : length (recorded c i m f) ≡ length c
  recorded_length = simp length-set

-- the literal table after clause i is to hold C
abbrev pub stored_at : List ℕ → List ℤ → ℕ → List ℤ → List ℤ
stored_at c l i C = put_part (start_of c i) (length_of c i) C l

-- ---- the literals of one clause, as a list: the rule for the view and for the places is the same

-- the rule for the list that places hold, from the rule for the places
pub fit_view : (v : ℕ) (literals variables : List ℤ) (b : Bool) (start len : ℕ) → start + len ≤ length literals → Literals v literals variables b start len
    → FitClause v variables b (take len (drop start literals))
fit_view v literals variables b start len h L = record {
  ranged = λ k l. subst (Literal v) (sym (at k (below k l))) (L.ranged k (below k l));
  once = λ k l j lj e. L.once k (below k l) j lj (sym (ap nat_abs (at j (omega (arith, below k l)))) ∙ e ∙ ap nat_abs (at k (below k l)));
  own = λ s k l. subst (λ (z : ℤ). class_of variables (nat_abs z) ≡ pos (nat_abs z)) (sym (at k (below k l))) (L.own s k (below k l));
}
  where
    below : (k : ℕ) → k < length (take len (drop start literals)) → k < len
    below k l = omega (arith, length-take-le len (drop start literals) (omega (arith, length-drop start literals, h)), l)

    at : (k : ℕ) → k < len → get_or (take len (drop start literals)) k (pos 0) ≡ get_or literals (start + k) (pos 0)
    at k l = get_or-take len (drop start literals) k (pos 0) l ∙ get_or-drop start literals k (pos 0)

-- clauses that have to be settled only if they had to be before
pub literals_weaken : {v : ℕ} {literals variables : List ℤ} {b b' : Bool} {start len : ℕ} → (b' ≡ true → b ≡ true) → Literals v literals variables b start len → Literals v literals variables b' start len
literals_weaken h L = record { ranged = L.ranged; once = L.once; own = λ e. L.own (h e) }

-- the rule for places, from the rule for the list that they hold
pub literals_placed : (v : ℕ) (literals variables : List ℤ) (b : Bool) (start : ℕ) (C : List ℤ) → ((k : ℕ) → k < length C → get_or literals (start + k) (pos 0) ≡ get_or C k (pos 0))
    → FitClause v variables b C → Literals v literals variables b start (length C)
literals_placed v literals variables b start C same L = record {
  ranged = λ k l. subst (Literal v) (sym (same k l)) (L.ranged k l);
  once = λ k l j lj e. L.once k l j lj (sym (ap nat_abs (same j (omega arith))) ∙ e ∙ ap nat_abs (same k l));
  own = λ s k l. subst (λ (z : ℤ). class_of variables (nat_abs z) ≡ pos (nat_abs z)) (sym (same k l)) (L.own s k l);
}

-- ---- the whole

module _ {v n s : ℕ} {mark : Bool} {c : List ℕ} {l variables : List ℤ} (F : Formed v n s mark c l variables) (i : ℕ) (lt : i < n) (C : List ℤ) (f : ℕ) (short : length C ≤ length_of c i) where
  inside : start_of c i + length_of c i ≤ length l
  inside = omega (arith, F.rule.parts.inside i lt, F.places)

  here : (length_of (recorded c i (length C) f) i ≡ length C) × (standing (recorded c i (length C) f) i ≡ f)
  here = recorded_here c i (length C) f (omega (arith, F.records, F.number, lt))

  -- no place of another clause is in the part of clause i
  apart : (j : ℕ) → j < n → (j ≡ i → ⊥) → (k : ℕ) → k < length_of c j → (start_of c j + k < start_of c i) ⊎ (start_of c i + length_of c i ≤ start_of c j + k)
  apart j lj d k lk =
      ⊎_elim
      (λ (z : length_of c i ≡ 0). ⊎_elim (λ h. inr (omega (arith, z, h))) (λ h. inl h) (le_or (start_of c i) (start_of c j + k)))
      (λ (z : length_of c i ≡ 0 → ⊥).
      ⊎_elim
      (λ (h : i ≤ j). inr (omega (arith, F.rule.parts.apart j lj i (omega (arith, h, d)) (omega (arith, z)) (omega (arith, lk)))))
      (λ (h : j < i). inl (omega (arith, F.rule.parts.apart i lt j h (omega (arith, lk)) (omega (arith, z)), lk)))
      (le_or i j))
      (same_or (length_of c i) 0)

  -- the view of clause i is C, and every other clause's is as it was
  pub stored_view : literals_of (recorded c i (length C) f) (stored_at c l i C) i ≡ C
  stored_view =
      ap (λ (k : ℕ). take k (drop (start_of (recorded c i (length C) f) i) (stored_at c l i C))) here.0 ∙ ap (λ (k : ℕ). take (length C) (drop k (stored_at c l i C))) (recorded_start c i (length C) f i)
      ∙ put_view (start_of c i) (length_of c i) C l inside short

  pub stored_other : (j : ℕ) → j < n → (j ≡ i → ⊥) → literals_of (recorded c i (length C) f) (stored_at c l i C) j ≡ literals_of c l j
  stored_other j lj d =
      ap (λ (k : ℕ). take k (drop (start_of (recorded c i (length C) f) j) (stored_at c l i C))) (recorded_other c i (length C) f j d).0 ∙ ap (λ (k : ℕ). take (length_of c j) (drop k (stored_at c l i C))) (recorded_start c i (length C) f j)
      ∙ put_other (start_of c i) (length_of c i) C l inside short (start_of c j) (length_of c j) (omega (arith, F.rule.parts.inside j lj, F.places)) (apart j lj d)

  -- a place of another clause holds what it held
  other_place : (j : ℕ) → j < n → (j ≡ i → ⊥) → (k : ℕ) → k < length_of c j → get_or (stored_at c l i C) (start_of c j + k) (pos 0) ≡ get_or l (start_of c j + k) (pos 0)
  other_place j lj d k lk =
      ⊎_elim
      (λ (h : start_of c j + k < start_of c i). put_before (start_of c i) (length_of c i) C l inside short (start_of c j + k) h)
      (λ (h : start_of c i + length_of c i ≤ start_of c j + k). put_behind (start_of c i) (length_of c i) C l inside short (start_of c j + k) h)
      (apart j lj d k lk)

  -- the parts only shrink
  stored_parts : f ≤ 1 → (f ≡ 0 → length C ≡ 0) → Parts n (recorded c i (length C) f)
  stored_parts flag empty =
      parts_shrink n c (recorded c i (length C) f) F.rule.parts (λ j lj. recorded_start c i (length C) f j)
      (λ j lj. ⊎_elim (λ (e : j ≡ i). subst (λ (x : ℕ). length_of (recorded c i (length C) f) x ≤ length_of c x) (sym e) (omega (arith, here.0, short))) (λ d. omega (arith, (recorded_other c i (length C) f j d).0)) (same_or j i))
      (λ j lj. ⊎_elim (λ (e : j ≡ i). subst (λ (x : ℕ). standing (recorded c i (length C) f) x ≤ 1) (sym e) (omega (arith, here.1, flag))) (λ d. omega (arith, (recorded_other c i (length C) f j d).1, F.rule.parts.flag j lj)) (same_or j i))
      (λ j lj z.
      ⊎_elim
      (λ (e : j ≡ i). subst (λ (x : ℕ). length_of (recorded c i (length C) f) x ≡ 0) (sym e) (here.0 ∙ empty (sym here.1 ∙ subst (λ (x : ℕ). standing (recorded c i (length C) f) x ≡ 0) e z)))
      (λ d. (recorded_other c i (length C) f j d).0 ∙ F.rule.parts.dropped j lj (sym (recorded_other c i (length C) f j d).1 ∙ z))
      (same_or j i))

  -- the clauses' part of the shape rule: C fits, it stands empty only under the mark, and a clause is settled after only if it was before, clause i apart
  pub stored_clauses : (s' : ℕ) (mark' : Bool) → f ≤ 1 → (f ≡ 0 → length C ≡ 0) → FitClause v variables (ltb i s') C → (f ≡ 1 → length C ≡ 0 → mark' ≡ true) → (mark ≡ true → mark' ≡ true)
      → ((j : ℕ) → j < n → (j ≡ i → ⊥) → ltb j s' ≡ true → ltb j s ≡ true)
      → Clauses v n s' mark' (recorded c i (length C) f) (stored_at c l i C) variables
  stored_clauses s' mark' flag empty fit marked still sooner = record {
    parts = stored_parts flag empty;
    each = λ j lj.
        ⊎_elim
        (λ (e : j ≡ i). subst (λ (x : ℕ). Literals v (stored_at c l i C) variables (ltb x s') (start_of (recorded c i (length C) f) x) (length_of (recorded c i (length C) f) x)) (sym e) own_literals)
        (λ d. subst (λ (x : ℕ). Literals v (stored_at c l i C) variables (ltb j s') x (length_of (recorded c i (length C) f) j)) (sym (recorded_start c i (length C) f j))
        (subst (λ (x : ℕ). Literals v (stored_at c l i C) variables (ltb j s') (start_of c j) x) (sym (recorded_other c i (length C) f j d).0)
        (literals_kept v l (stored_at c l i C) variables (ltb j s') (start_of c j) (length_of c j) (literals_weaken (sooner j lj d) (F.rule.each j lj)) (other_place j lj d))))
        (same_or j i);
    empty = λ j lj stands none.
        ⊎_elim
        (λ (e : j ≡ i). marked (sym here.1 ∙ subst (λ (x : ℕ). standing (recorded c i (length C) f) x ≡ 1) e stands) (sym here.0 ∙ subst (λ (x : ℕ). length_of (recorded c i (length C) f) x ≡ 0) e none))
        (λ d. still (F.rule.empty j lj (sym (recorded_other c i (length C) f j d).1 ∙ stands) (sym (recorded_other c i (length C) f j d).0 ∙ none)))
        (same_or j i);
  }
    where
      own_literals : Literals v (stored_at c l i C) variables (ltb i s') (start_of (recorded c i (length C) f) i) (length_of (recorded c i (length C) f) i)
      own_literals =
          subst (λ (x : ℕ). Literals v (stored_at c l i C) variables (ltb i s') x (length_of (recorded c i (length C) f) i)) (sym (recorded_start c i (length C) f i))
          (subst (λ (x : ℕ). Literals v (stored_at c l i C) variables (ltb i s') (start_of c i) x) (sym here.0)
          (literals_placed v (stored_at c l i C) variables (ltb i s') (start_of c i) C (λ k h. put_at (start_of c i) (length_of c i) C l inside short k h) fit))

  -- and so the tables are formed after it
  pub stored_formed : (s' : ℕ) (mark' : Bool) → f ≤ 1 → (f ≡ 0 → length C ≡ 0) → FitClause v variables (ltb i s') C → (f ≡ 1 → length C ≡ 0 → mark' ≡ true) → (mark ≡ true → mark' ≡ true)
      → ((j : ℕ) → j < n → (j ≡ i → ⊥) → ltb j s' ≡ true → ltb j s ≡ true)
      → Formed v n s' mark' (recorded c i (length C) f) (stored_at c l i C) variables
  stored_formed s' mark' flag empty fit marked still sooner = record {
    number = F.number;
    records = omega (arith, recorded_length c i (length C) f, F.records);
    places = omega (arith, put_length (start_of c i) (length_of c i) C l inside short, F.places);
    rule = stored_clauses s' mark' flag empty fit marked still sooner;
    vars = F.vars;
  }
