-- The loop that keeps the first of each literal: after i literals what is kept of them stands in front and is marked, and what is still to be read is as it was. Assumes nothing.
use Prim.Native.Nat.{ℕ, suc, ◌+◌, ◌-◌, ◌≤◌, ◌<◌}
use native.Mathlib.Numerals.{add-one}
use native.Mathlib.Omega.{arith}
use mathlib.Core.Path.{◌≡◌, sym, ap, subst, ◌∙◌}
use mathlib.Core.Bool.{Bool, true, false, ◌||◌}
use mathlib.Core.List.{List, [], ◌∷◌, ◌++◌}
use lib.Dec.{eqb}
use lib.ListN.{length, take, drop, get_or, set, length-append, length-drop, length-replicate}
use lib.Seq.{take-suc, length-take-le, drop-cons, get_or-append-add, get_or-drop, set_at, append_snoc}
use lib.IntN.{ℤ, pos, neg_ℤ}
use Rattle.literal.specs.Literals.{Literal}
use Rattle.literal.specs.Clauses.{has, distinct, tautology}
use Rattle.literal.proofs.Distinct.{has_distinct, distinct_repeat, distinct_new, tautology_snoc}
use Rattle.repeats.specs.Marks.{mark_of, with_mark, no_marks}
use Rattle.repeats.proofs.Repeats.{All, all_of, all_take, distinct_all, distinct_short}
use Rattle.repeats.proofs.Marks.{with_mark_length, with_mark_snoc, unmarked_absent, marked_there, mark_tested}

pub record Keeping (p₀ p : List ℤ) (marks : List ℕ) (n : ℕ) (both : Bool) (i : ℕ) : Type 0 where
  pub within : i ≤ length p₀
  pub kept : List ℤ
  pub kept_is : kept ≡ distinct (take i p₀)
  pub count : n ≡ length kept
  pub both_is : both ≡ tautology kept
  pub held : p ≡ kept ++ drop n p₀
  pub marks_are : marks ≡ with_mark 1 kept no_marks

module _ {p₀ p : List ℤ} {marks : List ℕ} {n : ℕ} {both : Bool} {i : ℕ} (K : Keeping p₀ p marks n both i) where
  abbrev D : List ℤ
  D = K.kept

  pub behind : n ≤ i
  behind = omega (arith, K.count, ap length K.kept_is, distinct_short (take i p₀), length-take-le i p₀ K.within)

  pub same_size : length p ≡ length p₀
  same_size = ap length K.held ∙ length-append D (drop n p₀) ∙ omega (arith, length-drop n p₀, K.count, behind, K.within)

  -- what is read is what stood there
  pub unread : get_or p i (pos 0) ≡ get_or p₀ i (pos 0)
  unread =
      let e : i ≡ length D + (i - n) = omega (arith, behind, K.count) in
      let f : n + (i - n) ≡ i = omega (arith, behind) in
      ap (λ (l : List ℤ). get_or l i (pos 0)) K.held
      ∙ ap (λ (k : ℕ). get_or (D ++ drop n p₀) k (pos 0)) e
      ∙ get_or-append-add D (drop n p₀) (i - n) (pos 0)
      ∙ get_or-drop n p₀ (i - n) (pos 0)
      ∙ ap (λ (k : ℕ). get_or p₀ k (pos 0)) f

  pub kept_literals : ((k : ℕ) → k < length p₀ → Literal 1024 (get_or p₀ k (pos 0))) → All (Literal 1024) D
  kept_literals L = subst (All (Literal 1024)) (sym K.kept_is) (distinct_all (Literal 1024) (take i p₀) (all_take (Literal 1024) i p₀ (all_of (Literal 1024) p₀ L)))

  pub marks_size : length marks ≡ 2049
  marks_size = ap length K.marks_are ∙ with_mark_length 1 D no_marks ∙ length-replicate {A = ℕ} 2049 0

  -- what a mark says of the kept literals
  module _ (L : (k : ℕ) → k < length p₀ → Literal 1024 (get_or p₀ k (pos 0))) {z : ℤ} {place : ℕ} (Z : Literal 1024 z) (e : place ≡ mark_of z) where
    mark_of_lem : get_or marks place 0 ≡ get_or (with_mark 1 D no_marks) (mark_of z) 0
    mark_of_lem = λ j. get_or (K.marks_are j) (e j) 0

    pub says_new : get_or marks place 0 ≡ 0 → has z D ≡ false
    says_new q = unmarked_absent D (kept_literals L) z Z (sym mark_of_lem ∙ q)

    pub says_kept : (get_or marks place 0 ≡ 0 → ⊥) → has z D ≡ true
    says_kept d = marked_there D (kept_literals L) z Z (λ q. d (mark_of_lem ∙ q))

    pub says_either : eqb (get_or marks place 0) 1 ≡ has z D
    says_either = ap (λ (m : ℕ). eqb m 1) mark_of_lem ∙ mark_tested D (kept_literals L) z Z

  -- what is read is a literal, as it stood there
  pub at_hand : ((k : ℕ) → k < length p₀ → Literal 1024 (get_or p₀ k (pos 0))) → i < length p₀ → Literal 1024 (get_or p i (pos 0))
  at_hand L lt = subst (Literal 1024) (sym unread) (L i lt)

  -- the same loop, by other names of what it holds
  pub keeping_is : {p' : List ℤ} {marks' : List ℕ} {n' : ℕ} {both' : Bool} → p' ≡ p → marks' ≡ marks → n' ≡ n → both' ≡ both → Keeping p₀ p' marks' n' both' i
  keeping_is a b c d = record {
    within = K.within;
    kept = D;
    kept_is = K.kept_is;
    count = c ∙ K.count;
    both_is = d ∙ K.both_is;
    held = a ∙ K.held ∙ ap (λ (k : ℕ). D ++ drop k p₀) (sym c);
    marks_are = b ∙ K.marks_are;
  }

  module _ (lt : i < length p₀) where
    abbrev x : ℤ
    x = get_or p₀ i (pos 0)

    one_more : take (i + 1) p₀ ≡ take i p₀ ++ (x ∷ [])
    one_more = rw add-one (take-suc p₀ i (pos 0) lt)

    was : {b : Bool} → has x D ≡ b → has x (take i p₀) ≡ b
    was e = sym (has_distinct x (take i p₀)) ∙ ap (has x) (sym K.kept_is) ∙ e

    -- what is read at i was kept already
    pub keeping_repeat : has x D ≡ true → Keeping p₀ p marks n both (i + 1)
    keeping_repeat e = record {
      within = omega arith;
      kept = D;
      kept_is = K.kept_is ∙ sym (distinct_repeat (take i p₀) x (was e)) ∙ ap distinct (sym one_more);
      count = K.count;
      both_is = K.both_is;
      held = K.held;
      marks_are = K.marks_are;
    }

    -- what is read at i is new
    pub keeping_new : {b : Bool} → has x D ≡ false → b ≡ (both || has (neg_ℤ x) D) → Keeping p₀ (set p n x) (set marks (mark_of x) 1) (n + 1) b (i + 1)
    keeping_new {b} e t = record {
      within = omega arith;
      kept = D ++ (x ∷ []);
      kept_is = ap (λ (l : List ℤ). l ++ (x ∷ [])) K.kept_is ∙ sym (distinct_new (take i p₀) x (was e)) ∙ ap distinct (sym one_more);
      count = omega (arith, K.count, length-append D (x ∷ []));
      both_is = t ∙ ap (λ (c : Bool). c || has (neg_ℤ x) D) K.both_is ∙ sym (tautology_snoc D x);
      held =
          ap (λ (l : List ℤ). set l n x) (K.held ∙ ap (λ (l : List ℤ). D ++ l) (drop-cons p₀ n (pos 0) (omega (arith, behind))))
          ∙ set_at D (get_or p₀ n (pos 0)) (drop (suc n) p₀) x n (sym K.count)
          ∙ sym (append_snoc D x (drop (suc n) p₀))
          ∙ ap (λ (k : ℕ). (D ++ (x ∷ [])) ++ drop k p₀) (sym (add-one n));
      marks_are = ap (λ (l : List ℕ). set l (mark_of x) 1) K.marks_are ∙ sym (with_mark_snoc 1 D x no_marks);
    }
