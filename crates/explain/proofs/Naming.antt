-- The ends that the definitions name are what the rule says. For a clause under fresh stamps:
--     long_named       a dropped clause of three or more: the first literal a whose complement holds a literal of the clause, and the first that −a holds
--     pair_named       a dropped clause of two: the first of its edges that goes from a literal that holds the other and is not its parent
--     literal_named    a literal taken out: by the first rule, or else by the second, among those that the first leaves
-- Assumes nothing.
use Prim.Native.Nat.{ℕ, ◌≤◌, ◌<◌}
use native.Mathlib.Omega.{arith}
use mathlib.Core.Path.{◌≡◌, refl, sym, ap, subst, subst₂, ◌∙◌}
use mathlib.Core.Bool.{Bool, true, false, not, ◌&&◌}
use mathlib.Core.Logic.{◌⊎◌, ◌↔◌, inl, inr, ⊎_elim}
use mathlib.Core.List.{List, [], ◌∷◌, map, Memᴰ}
use lib.ListN.{length, get_or, length-map}
use lib.Dec.{eqb}
use lib.IntN.{ℤ, pos, neg_ℤ, nat_abs, neg_ℤ-neg_ℤ}
use borrow.Author.Tests.{not-true, not-false}
use Rattle.std.specs.Prelude.{Option, Some, None, unwrap_or}
use Rattle.std.proofs.lemmas.Option.{none-some}
use Rattle.base.specs.Decide.{same_or, le_or}
use Rattle.base.specs.Lists.{any, filter}
use Rattle.base.proofs.Booleans.{clash, and_left, and_right, and_both, or_either, differ, differs}
use Rattle.base.proofs.Lists.{mem_filter, filter_filter, sub_mem, any_out, any_in, mem_get_d, each_mem}
use Rattle.literal.specs.Literals.{Literal, slot_of, twin}
use Rattle.literal.proofs.Laws.{slot_twin, slot_same, slot_below, not_own_complement}
use Rattle.literal.proofs.Signed.{abs_neg}
use Rattle.walk.specs.Walk.{Stamps}
use Rattle.walk.specs.Forest as forest
use Rattle.stamps.specs.Fresh.{parent_in, Holds, FreshStamps}
use Rattle.stamp_columns.specs.Columns.{columns}
use Rattle.stamp_columns.proofs.Columns.{column_parents, to_times, to_columns}
use Rattle.hidden.specs.Hidden.{holds, transitive, hidden_pair, hidden_tautology, unhidden, shorten}
use Rattle.hidden.proofs.Intervals.{holds_true, true_holds}
use Rattle.hidden.proofs.Scan.{hidden_of}
use Rattle.hidden.proofs.Shorten.{unhidden_sub}
use Rattle.hidden.proofs.Pairs.{transitive_means}
use Rattle.chains.specs.declared.Ends.{Ends}
use Rattle.chains.specs.Chains.{ends}
use Rattle.explain.specs.Reasons.{holds_other, first_held, pair_ends, long_ends, literal_ends, left_out}
use Rattle.explain.specs.Asking.{Clause}
use Rattle.explain.proofs.Leaving.{filter_passes, left_out_filter, left_out_length, shorten_leaves}
use Rattle.explain.proofs.Searching.{ends_held, ends_free}
use Rattle.explain.proofs.Firsts.{First, first_in, first_as, first_found, first_some, Finds, longs}

-- a complement is a literal too
pub literal_neg : {v : ℕ} {l : ℤ} → Literal v l → Literal v (neg_ℤ l)
literal_neg {v} {l} L = record { above = omega (arith, L.above, abs_neg l); within = omega (arith, L.within, abs_neg l) }

neg_same : (l m : ℤ) → neg_ℤ l ≡ neg_ℤ m → l ≡ m
neg_same l m e = sym (neg_ℤ-neg_ℤ l) ∙ ap neg_ℤ e ∙ neg_ℤ-neg_ℤ m

module _ (times : List ℕ) where
  -- l holds m
  abbrev pub On : ℤ → ℤ → Type 0
  On l m = Holds times (slot_of l) (slot_of m)

  -- l holds m, another literal
  abbrev pub Other : ℤ → ℤ → Type 0
  Other l m = (m ≡ l → ⊥) × On l m

  -- the complement of m, another literal, holds that of l
  abbrev pub Above : ℤ → ℤ → Type 0
  Above l m = (m ≡ l → ⊥) × On (neg_ℤ m) (neg_ℤ l)

module _ (times : List ℕ) (links : List ℤ) where
  abbrev σ : Stamps
  σ = columns times links

  -- the tests say just that
  other_means : {v : ℕ} (l m : ℤ) → Literal v l → Literal v m → (holds_other σ l m ≡ true) ↔ Other times l m
  unfolding holds_other
  other_means l m L M = (
    λ h. (λ e. differ (slot_of m) (slot_of l) (and_left (not (eqb (slot_of m) (slot_of l))) _ h) (ap slot_of e), to_times times links (slot_of l) (slot_of m) (holds_true σ (slot_of l) (slot_of m) (and_right (not (eqb (slot_of m) (slot_of l))) _ h))),
    λ o. and_both (not (eqb (slot_of m) (slot_of l))) _ (differs (slot_of m) (slot_of l) (λ s. o.0 (slot_same m l M.above L.above s))) (true_holds σ (slot_of l) (slot_of m) (to_columns times links (slot_of l) (slot_of m) o.1)),
  )

  above_means : {v : ℕ} (l m : ℤ) → Literal v l → Literal v m → (holds_other σ (neg_ℤ m) (neg_ℤ l) ≡ true) ↔ Above times l m
  above_means l m L M =
      let r = other_means (neg_ℤ m) (neg_ℤ l) (literal_neg M) (literal_neg L) in
      (λ h. let o = r.0 h in (λ e. o.0 (ap neg_ℤ (sym e)), o.1), λ o. r.1 (λ e. o.0 (sym (neg_same l m e)), o.1))

  -- the tests of figure 5, on slots
  abbrev first_test : ℤ → ℕ → Bool
  first_test l s = not (eqb s (slot_of l)) && holds σ (slot_of l) s

  abbrev second_test : ℤ → ℕ → Bool
  second_test l s = not (eqb s (slot_of l)) && holds σ (twin s) (twin (slot_of l))

  first_means : (l m : ℤ) → first_test l (slot_of m) ≡ holds_other σ l m
  unfolding holds_other
  first_means l m = refl

  second_means : {v : ℕ} (l m : ℤ) → Literal v l → Literal v m → second_test l (slot_of m) ≡ true → Above times l m
  second_means l m L M h = (
    λ e. differ (slot_of m) (slot_of l) (and_left (not (eqb (slot_of m) (slot_of l))) _ h) (ap slot_of e),
    to_times times links (slot_of (neg_ℤ m)) (slot_of (neg_ℤ l))
        (subst₂ (forest.Holds σ) (sym (slot_twin m M.above)) (sym (slot_twin l L.above)) (holds_true σ (twin (slot_of m)) (twin (slot_of l)) (and_right (not (eqb (slot_of m) (slot_of l))) _ h))),
  )

module _ {times : List ℕ} {links C : List ℤ} (K : Clause times links C) where
  abbrev ρ : Stamps
  ρ = columns times links

  -- a literal of the clause
  pub in_range_lem : (l : ℤ) → Memᴰ l C → Literal K.vars l
  in_range_lem = each_mem (Literal K.vars) C (pos 0) K.each

  in_above : (l : ℤ) → Memᴰ l C → 0 < nat_abs l
  in_above l m = (in_range_lem l m).above

  -- no literal of the clause is the complement of another, or of itself
  no_complement : (a m : ℤ) → Memᴰ a C → Memᴰ m C → m ≡ neg_ℤ a → ⊥
  no_complement a m i j e = places (mem_get_d C (pos 0) i) (mem_get_d C (pos 0) j)
    where
      alike : nat_abs m ≡ nat_abs a
      alike = ap nat_abs e ∙ abs_neg a

      places : (x : ℕ) × (x < length C) × (get_or C x (pos 0) ≡ a) → (y : ℕ) × (y < length C) × (get_or C y (pos 0) ≡ m) → ⊥
      places x y =
          let abs-x : nat_abs (get_or C x.0 (pos 0)) ≡ nat_abs a = ap nat_abs x.2 in
          let abs-y : nat_abs (get_or C y.0 (pos 0)) ≡ nat_abs m = ap nat_abs y.2 in
          ⊎_elim
          (λ (same : x.0 ≡ y.0). not_own_complement a (in_above a i) (sym x.2 ∙ ap (λ (k : ℕ). get_or C k (pos 0)) same ∙ y.2 ∙ e))
          (λ other.
          ⊎_elim
          (λ (le : x.0 ≤ y.0). K.once x.0 y.0 (omega (arith, le, other)) y.1 (abs-x ∙ sym alike ∙ sym abs-y))
          (λ (lt : y.0 < x.0). K.once y.0 x.0 lt x.1 (abs-y ∙ alike ∙ sym abs-x))
          (le_or x.0 y.0))
          (same_or x.0 y.0)

  -- ---- the searches

  held_first : (l b : ℤ) → Literal K.vars l → first_held ρ C l ≡ Some b → First (Other times l) C b
  held_first l b L h = first_as (λ m i. (other_means times links l m L (in_range_lem m i)).0) (λ m i. (other_means times links l m L (in_range_lem m i)).1) (first_found (holds_other ρ l) C h)

  held_found : (l m : ℤ) → Literal K.vars l → Memᴰ m C → Other times l m → (b : ℤ) × (first_held ρ C l ≡ Some b)
  held_found l m L i o = first_some (holds_other ρ l) C i ((other_means times links l m L (in_range_lem m i)).1 o)

  -- ---- a dropped clause of three or more

  -- its complement holds a literal of the clause
  abbrev pub Holder : ℤ → Type 0
  Holder a = (m : ℤ) × Memᴰ m C × On times (neg_ℤ a) m

  pub record Long : Type 0 where
    pub a : ℤ
    pub b : ℤ
    pub a_first : First Holder C a
    pub b_first : First (On times (neg_ℤ a)) C b
    pub is : long_ends ρ C C ≡ Some (ends (neg_ℤ a) b)

  -- of complements, "another" leaves none out
  apart : (a m : ℤ) → Memᴰ a C → Memᴰ m C → On times (neg_ℤ a) m → Other times (neg_ℤ a) m
  apart a m i j h = (no_complement a m i j, h)

  holder_finds : (a : ℤ) → Memᴰ a C → Holder a → Finds ρ C a
  holder_finds a i h = held_found (neg_ℤ a) h.0 (literal_neg (in_range_lem a i)) h.1 (apart a h.0 i h.1 h.2)

  finds_holder : (a : ℤ) → Memᴰ a C → Finds ρ C a → Holder a
  finds_holder a i f = let r = held_first (neg_ℤ a) f.0 (literal_neg (in_range_lem a i)) f.1 in (f.0, first_in r, r.has.1)

  pub long_named : 2 < length C → hidden_tautology ρ (map slot_of C) ≡ true → Long
  long_named three h =
      let r = hidden_of ρ (map slot_of C) (omega (arith, three, length-map C slot_of)) h in
      let x = mathlib.Core.List.Memᴰ.of_map slot_of C r.2 in
      let y = mathlib.Core.List.Memᴰ.of_map slot_of C r.3 in
      let holder : Holder x.0 = (
        y.0,
        y.1,
        to_times times links (slot_of (neg_ℤ x.0)) (slot_of y.0)
            (subst₂ (forest.Holds ρ) (ap twin (sym x.2) ∙ sym (slot_twin x.0 (in_above x.0 x.1))) (sym y.2) r.4),
      ) in
      let w = longs ρ C C x.1 (holder_finds x.0 x.1 holder) in
      let in-C = first_in {x = w.a} w.first in
      record {
        a = w.a;
        b = w.b;
        a_first = first_as finds_holder holder_finds w.first;
        b_first = first_as (λ m i o. o.1) (λ m i h. apart w.a m in-C i h) (held_first (neg_ℤ w.a) w.b (literal_neg (in_range_lem w.a in-C)) w.held);
        is = w.is;
      }

  -- ---- a literal that is taken out

  -- what the first rule leaves
  abbrev pub rest : List ℤ
  rest = unhidden slot_of (holds ρ) C

  pub rest_in : (l : ℤ) → Memᴰ l rest → Memᴰ l C
  rest_in l m = sub_mem (unhidden_sub slot_of (holds ρ) C) m

  -- l holds another literal of the clause: b is the first
  pub record ByFirst (l : ℤ) : Type 0 where
    pub b : ℤ
    pub first : First (Other times l) C b
    pub is : literal_ends ρ C l ≡ ends l b

  -- it holds none: m is the first of the rest whose complement holds that of l
  pub record BySecond (l : ℤ) : Type 0 where
    pub free : (m : ℤ) → Memᴰ m C → (m ≡ l → ⊥) → On times l m → ⊥
    pub m : ℤ
    pub first : First (Above times l) rest m
    pub is : literal_ends ρ C l ≡ ends (neg_ℤ m) (neg_ℤ l)

  by_first : (l m : ℤ) → Memᴰ l C → Memᴰ m C → Other times l m → ByFirst l
  unfolding literal_ends
  by_first l m i j o =
      let f = held_found l m (in_range_lem l i) j o in
      record { b = f.0; first = held_first l f.0 (in_range_lem l i) f.1; is = ends_held ρ C rest l f.0 f.1 }

  by_second : (l m : ℤ) → Memᴰ l C → first_held ρ C l ≡ None → Memᴰ m rest → Above times l m → BySecond l
  unfolding literal_ends
  by_second l m i none j o =
      let L = in_range_lem l i in
      let f = first_some (λ x. holds_other ρ (neg_ℤ x) (neg_ℤ l)) rest j ((above_means times links l m L (in_range_lem m (rest_in m j))).1 o) in
      record {
        free = λ x k d h. let w = held_found l x L k (d, h) in none-some w.0 (sym none ∙ w.1);
        m = f.0;
        first = first_as (λ x k. (above_means times links l x L (in_range_lem x (rest_in x k))).0) (λ x k. (above_means times links l x L (in_range_lem x (rest_in x k))).1) (first_found (λ x. holds_other ρ (neg_ℤ x) (neg_ℤ l)) rest f.1);
        is = ends_free ρ C rest l none ∙ ap (λ (o : Option ℤ). ends (neg_ℤ (unwrap_or o (pos 0))) (neg_ℤ l)) f.1;
      }

  -- the two filters
  abbrev stays_first : ℤ → Bool
  stays_first l = not (any (first_test times links l) (map slot_of C))

  abbrev stays_second : ℤ → Bool
  stays_second l = not (any (second_test times links l) (map slot_of rest))

  -- what figure 5 takes out
  pub taken_out : left_out C (shorten slot_of ρ C) ≡ filter (λ l. not (stays_first l && stays_second l)) C
  unfolding shorten unhidden
  taken_out = ap (left_out C) (filter_filter stays_second stays_first C) ∙ left_out_filter (λ l. stays_first l && stays_second l) C

  pub taken_few : length (left_out C (shorten slot_of ρ C)) ≤ length C
  taken_few = omega (arith, left_out_length (shorten_leaves ρ C))

  -- the first rule leaves l only if it holds no other
  none_held : (l : ℤ) → Memᴰ l C → stays_first l ≡ true → first_held ρ C l ≡ None
  none_held l i e = go (first_held ρ C l) refl
    where
      go : (o : Option ℤ) → first_held ρ C l ≡ o → first_held ρ C l ≡ None
      go None q = q
      go (Some b) q =
          let r = first_found (holds_other ρ l) C q in
          clash (any_in (first_test times links l) (map slot_of C) (mathlib.Core.List.Memᴰ.map slot_of (first_in r)) (first_means times links l b ∙ r.has)) (not-true (any (first_test times links l) (map slot_of C)) e)

  pub literal_named : (l : ℤ) → Memᴰ l (left_out C (shorten slot_of ρ C)) → Memᴰ l C × (ByFirst l ⊎ BySecond l)
  literal_named l k =
      let m : Memᴰ l (filter (λ x. not (stays_first x && stays_second x)) C) = subst (Memᴰ l) taken_out k in
      let i = mem_filter _ C m in
      (i, go i (stays_first l) refl (stays_second l) refl (filter_passes (λ x. not (stays_first x && stays_second x)) C m))
    where
      go : Memᴰ l C → (b : Bool) → stays_first l ≡ b → (c : Bool) → stays_second l ≡ c → not (b && c) ≡ true → ByFirst l ⊎ BySecond l
      go i true e true f h = clash h refl
      go i true e false f h =
          let r = any_out (second_test times links l) (map slot_of rest) (not-false (any (second_test times links l) (map slot_of rest)) f) in
          let w = mathlib.Core.List.Memᴰ.of_map slot_of rest r.1 in
          let M = in_range_lem w.0 (rest_in w.0 w.1) in
          inr (by_second l w.0 i (none_held l i e) w.1 (second_means times links l w.0 (in_range_lem l i) M (ap (second_test times links l) w.2 ∙ r.2)))
      go i false e c f h =
          let r = any_out (first_test times links l) (map slot_of C) (not-false (any (first_test times links l) (map slot_of C)) e) in
          let w = mathlib.Core.List.Memᴰ.of_map slot_of C r.1 in
          inl (by_first l w.0 i w.1 ((other_means times links l w.0 (in_range_lem l i) (in_range_lem w.0 w.1)).0 (sym (first_means times links l w.0) ∙ ap (first_test times links l) w.2 ∙ r.2)))

-- ---- a dropped clause of two

module _ (times : List ℕ) (links : List ℤ) where
  -- p holds q and is not its parent
  abbrev pub Skips : ℤ → ℤ → Type 0
  Skips p q = On times p q × (parent_in links (slot_of q) ≡ p → ⊥)

  skips_means : {v : ℕ} → FreshStamps v times links → (p q : ℤ) → Literal v p → Literal v q → (transitive (columns times links) (slot_of p) (slot_of q) ≡ true) ↔ Skips p q
  skips_means {v} F p q P Q =
      let T = transitive_means (columns times links) (slot_of p) (slot_of q) in
      let U = F.parent_literal (slot_of q) (slot_below q v Q.above Q.within) in (
        λ h. let t = T.0 h in (to_times times links (slot_of p) (slot_of q) t.0, λ e. t.1 (column_parents times links (slot_of q) ∙ ap slot_of e)),
        λ s. T.1 (to_columns times links (slot_of p) (slot_of q) s.0, λ e. s.1 (slot_same (parent_in links (slot_of q)) p U.above P.above (sym (column_parents times links (slot_of q)) ∙ e))),
      )

  -- (−a, b) if that edge skips, else (−b, a)
  abbrev pub Twos : ℤ → ℤ → Ends → Type 0
  Twos a b e = (Skips (neg_ℤ a) b × (e ≡ ends (neg_ℤ a) b)) ⊎ ((Skips (neg_ℤ a) b → ⊥) × Skips (neg_ℤ b) a × (e ≡ ends (neg_ℤ b) a))

module _ {times : List ℕ} {links : List ℤ} {a b : ℤ} (K : Clause times links (a ∷ b ∷ [])) where
  abbrev τ : Stamps
  τ = columns times links

  A : Literal K.vars a
  A = in_range_lem K a (mathlib.Core.List.Memᴰ.head refl)

  B : Literal K.vars b
  B = in_range_lem K b (mathlib.Core.List.Memᴰ.tail (mathlib.Core.List.Memᴰ.head refl))

  pub pair_named : hidden_tautology τ (map slot_of (a ∷ b ∷ [])) ≡ true → Twos times links a b (pair_ends τ a b)
  unfolding hidden_tautology hidden_pair
  pair_named h = go (transitive τ (slot_of (neg_ℤ a)) (slot_of b)) refl
    where
      first : (transitive τ (slot_of (neg_ℤ a)) (slot_of b) ≡ true) ↔ Skips times links (neg_ℤ a) b
      first = skips_means times links K.stamped.fresh (neg_ℤ a) b (literal_neg A) B

      second : (transitive τ (slot_of (neg_ℤ b)) (slot_of a) ≡ true) ↔ Skips times links (neg_ℤ b) a
      second = skips_means times links K.stamped.fresh (neg_ℤ b) a (literal_neg B) A

      one : transitive τ (twin (slot_of a)) (slot_of b) ≡ transitive τ (slot_of (neg_ℤ a)) (slot_of b)
      one = ap (λ (s : ℕ). transitive τ s (slot_of b)) (sym (slot_twin a A.above))

      two : transitive τ (twin (slot_of b)) (slot_of a) ≡ transitive τ (slot_of (neg_ℤ b)) (slot_of a)
      two = ap (λ (s : ℕ). transitive τ s (slot_of a)) (sym (slot_twin b B.above))

      go : (x : Bool) → transitive τ (slot_of (neg_ℤ a)) (slot_of b) ≡ x → Twos times links a b (elim x [ true ↦ ends (neg_ℤ a) b | false ↦ ends (neg_ℤ b) a ])
      go true e = inl (first.0 e, refl)
      go false e = inr (
        λ s. clash (first.1 s) e,
        second.0 (⊎_elim (λ k. clash (sym one ∙ k) e) (λ k. sym two ∙ k) (or_either (transitive τ (twin (slot_of a)) (slot_of b)) (transitive τ (twin (slot_of b)) (slot_of a)) h)),
        refl,
      )
