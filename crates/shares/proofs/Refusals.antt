-- A join answers by the first of its refusals that holds, or is accepted (`join_answers`). Assumes nothing.
use Prim.Native.Nat.{ℕ, ◌+◌, ◌≤◌, ◌<◌}
use native.Mathlib.Omega.{arith}
use mathlib.Core.Path.{◌≡◌, refl, sym, ap, ◌∙◌}
use mathlib.Core.Bool.{Bool, true, false, ◌&&◌, ◌||◌}
use mathlib.Core.Logic.{◌⊎◌, inl, inr, ⊎_elim}
use mathlib.Core.List.{List}
use lib.Dec.{leb, ltb, eqb}
use lib.IntN.{ℤ}
use borrow.Author.Tests.{eqb-true, eq-eqb, ltb-true, lt-ltb, le-ltb, le-leb, lt-leb}
use Rattle.base.specs.Decide.{says_no, same_or}
use Rattle.base.specs.Lists.{first, any_below}
use Rattle.base.proofs.Booleans.{bool_or, or_either}
use Rattle.base.proofs.Searches.{any_below_out, any_below_in, first_found, first_none}
use Rattle.literal.specs.Ranged.{total}
use Rattle.literal.proofs.Ranged.{total_append}
use Rattle.state.specs.declared.State.{State}
use Rattle.state.specs.declared.Refusal.TheVariants.{Shape, Limit, Link}
use Rattle.tables.specs.Tables.{Tables}
use Rattle.tables.specs.Long.{Long}
use Rattle.tables.specs.Calls.{refuse}
use Rattle.dimacs.specs.Text.{judge_text, text_clauses}
use Rattle.load.specs.Load.{accept, load_by, load_formula, join_call}
use Rattle.load.proofs.Fill.{formula_short, formula_lent}
use Rattle.join.specs.Links.{pair_count, left_of, right_of, outside, bad_side, bad_link, first_bad, joined_variables, renumbered_clauses}
use Rattle.join.specs.Join.{variables_by, join_clauses, within_limits, judge_linked, judge_both, judge_join}
use Rattle.join.proofs.RightNumbers.{renumbered_total}
use Rattle.shares.specs.Refusals.{BadSide, none, over, used, BadLink, FirstBad, Reads, literals_in, JoinAnswers}
use Rattle.std.specs.Prelude.{Result, Err}
use Rattle.dimacs.specs.declared.Header.{Header}
use Rattle.state.specs.declared.Refusal.{Refusal}
use Rattle.dimacs.specs.Header.{fitting}

-- ---- the tests of a link mean what they say

or_true_left : (a b : Bool) → a ≡ true → (a || b) ≡ true
or_true_left a b e = ap (λ (x : Bool). x || b) e

or_true_right : (a b : Bool) → b ≡ true → (a || b) ≡ true
or_true_right true b e = refl
or_true_right false b e = e

and_false : (a b : Bool) → b ≡ false → (a && b) ≡ false
and_false true b e = e
and_false false b e = refl

module _ (v : ℕ) (side : ℕ → ℕ) (i : ℕ) where
  side_bad : bad_side v side i ≡ true → BadSide v side i
  side_bad e =
      ⊎_elim
      (λ (o : outside v (side i) ≡ true). ⊎_elim (λ (z : eqb (side i) 0 ≡ true). none (eqb-true (side i) 0 z)) (λ (l : ltb v (side i) ≡ true). over (ltb-true v (side i) l)) (or_either (eqb (side i) 0) (ltb v (side i)) o))
      (λ (u : any_below i (λ j. eqb (side j) (side i)) ≡ true). let f = any_below_out i (λ j. eqb (side j) (side i)) u in used f.0 f.1 (eqb-true (side f.0) (side i) f.2))
      (or_either (outside v (side i)) (any_below i (λ j. eqb (side j) (side i))) e)

  bad_side_lem : BadSide v side i → bad_side v side i ≡ true
  bad_side_lem (none e) = or_true_left (outside v (side i)) _ (or_true_left (eqb (side i) 0) (ltb v (side i)) (eq-eqb (side i) 0 e))
  bad_side_lem (over h) = or_true_left (outside v (side i)) _ (or_true_right (eqb (side i) 0) (ltb v (side i)) (lt-ltb v (side i) h))
  bad_side_lem (used j lt e) = or_true_right (outside v (side i)) _ (any_below_in i (λ k. eqb (side k) (side i)) j lt (eq-eqb (side j) (side i) e))

module _ (v w : ℕ) (links : List ℕ) where
  link_bad : (i : ℕ) → bad_link v w links i ≡ true → BadLink v w links i
  link_bad i e =
      ⊎_elim (λ (l : bad_side v (left_of links) i ≡ true). inl (side_bad v (left_of links) i l)) (λ (r : bad_side w (right_of links) i ≡ true). inr (side_bad w (right_of links) i r))
      (or_either (bad_side v (left_of links) i) (bad_side w (right_of links) i) e)

  bad_link_lem : (i : ℕ) → BadLink v w links i → bad_link v w links i ≡ true
  bad_link_lem i (inl B) = or_true_left (bad_side v (left_of links) i) (bad_side w (right_of links) i) (bad_side_lem v (left_of links) i B)
  bad_link_lem i (inr B) = or_true_right (bad_side v (left_of links) i) (bad_side w (right_of links) i) (bad_side_lem w (right_of links) i B)

  good_link : (i : ℕ) → (BadLink v w links i → ⊥) → bad_link v w links i ≡ false
  good_link i never = ⊎_elim (λ (e : bad_link v w links i ≡ true). absurd (never (link_bad i e))) (λ e. e) (bool_or (bad_link v w links i))

  -- the first bad one is where the search ends
  first_bad_lem : (i : ℕ) → FirstBad v w links i → first_bad v w links ≡ i
  unfolding first_bad
  first_bad_lem i F =
      let f = first_found (bad_link v w links) (pair_count links) 0 i (omega arith) (omega (arith, F.within)) (bad_link_lem i F.bad) in
      ⊎_elim (λ e. e) (λ (n : first (bad_link v w links) (pair_count links) 0 ≡ i → ⊥). absurd (F.earlier _ (omega (arith, f.1, n)) (link_bad _ f.0))) (same_or (first (bad_link v w links) (pair_count links) 0) i)

  none_bad : ((i : ℕ) → i < pair_count links → BadLink v w links i → ⊥) → first_bad v w links ≡ pair_count links
  unfolding first_bad
  none_bad never = first_none (bad_link v w links) (pair_count links) 0 (λ j a h. good_link j (never j (omega (arith, h)))) ∙ omega arith

-- ---- the call

module _ (left right links : List ℕ) (t : Tables) (st : State) where
  abbrev cs : List (List ℤ)
  cs = join_clauses left right links

  -- on tables that are long enough, by the verdict
  by_verdict : Long t → {verdict : Result Header Refusal} → judge_join left right links ≡ verdict → join_call left right links t st ≡ load_by verdict cs t st
  unfolding join_call
  by_verdict L {verdict} e = (λ i. load_formula (e i) cs t st) ∙ formula_lent verdict cs t st L

  short_refused : (Long t → ⊥) → join_call left right links t st ≡ refuse Shape st t
  unfolding join_call
  short_refused short = sym (formula_short (judge_join left right links) cs t st (says_no short) refl)

  by_texts : {x y verdict : Result Header Refusal} → judge_text left ≡ x → judge_text right ≡ y → judge_both x y links cs ≡ verdict → judge_join left right links ≡ verdict
  unfolding judge_join
  by_texts p q e = (λ i. judge_both (p i) (q i) links cs) ∙ e

  by_tests : (v n w m : ℕ) (b c : Bool) → ltb (first_bad v w links) (pair_count links) ≡ b → within_limits (joined_variables v w links) (n + m) cs ≡ c
      → judge_linked v n w m links cs ≡ elim b [ true ↦ Err (Link (first_bad v w links)) | false ↦ elim c [ true ↦ fitting (joined_variables v w links) (n + m) 0 | false ↦ Err (Limit 0) ] ]
  by_tests v n w m b c p q = λ i. elim (p i) as (λ x. Result Header Refusal) [ true ↦ Err (Link (first_bad v w links)) | false ↦ elim (q i) as (λ x. Result Header Refusal) [ true ↦ fitting (joined_variables v w links) (n + m) 0 | false ↦ Err (Limit 0) ] ]

  -- the literals of the join are those of both texts
  literals_are : (v n w m : ℕ) → Reads left right v n w m → total cs ≡ literals_in left right
  unfolding join_clauses
  literals_are v n w m R = omega (arith, total_append (text_clauses left) (renumbered_clauses (variables_by (judge_text left)) links (text_clauses right)), renumbered_total (variables_by (judge_text left)) links (text_clauses right))

  -- above a limit, or within all of them
  over_limits : (u k : ℕ) → (1024 < u) ⊎ ((4096 < k) ⊎ (16384 < total cs)) → within_limits u k cs ≡ false
  over_limits u k (inl h) = rw (lt-leb u 1024 h)
  over_limits u k (inr (inl h)) = and_false (leb u 1024) _ (rw (lt-leb k 4096 h))
  over_limits u k (inr (inr h)) = and_false (leb u 1024) _ (and_false (leb k 4096) _ (lt-leb (total cs) 16384 h))

  within_limits_lem : (u k : ℕ) → u ≤ 1024 → k ≤ 4096 → total cs ≤ 16384 → within_limits u k cs ≡ true
  within_limits_lem u k a b c = rw (le-leb u 1024 a, le-leb k 4096 b) (le-leb (total cs) 16384 c)

  module _ (L : Long t) (v n w m : ℕ) (R : Reads left right v n w m) where
    by_linked : {verdict : Result Header Refusal} → judge_linked v n w m links cs ≡ verdict → join_call left right links t st ≡ load_by verdict cs t st
    by_linked e = by_verdict L (by_texts R.left_fits R.right_fits e)

    link_refused : (i : ℕ) → FirstBad v w links i → join_call left right links t st ≡ refuse (Link i) st t
    link_refused i F =
        let e = first_bad_lem v w links i F in
        by_linked (by_tests v n w m true (within_limits (joined_variables v w links) (n + m) cs) (lt-ltb (first_bad v w links) (pair_count links) (omega (arith, e, F.within))) refl) ∙ ap (λ (k : ℕ). refuse (Link k) st t) e

    module _ (good : (i : ℕ) → i < pair_count links → BadLink v w links i → ⊥) where
      none_first : ltb (first_bad v w links) (pair_count links) ≡ false
      none_first = le-ltb (first_bad v w links) (pair_count links) (omega (arith, none_bad v w links good))

      limit_refused : (1024 < joined_variables v w links) ⊎ ((4096 < n + m) ⊎ (16384 < literals_in left right)) → join_call left right links t st ≡ refuse (Limit 0) st t
      limit_refused h =
          let size = literals_are v n w m R in
          let over' : (1024 < joined_variables v w links) ⊎ ((4096 < n + m) ⊎ (16384 < total cs)) = ⊎_elim inl (⊎_elim (λ a. inr (inl a)) (λ (a : 16384 < literals_in left right). inr (inr (omega (arith, size, a))))) h in
          by_linked (by_tests v n w m false false none_first (over_limits (joined_variables v w links) (n + m) over'))

      made : joined_variables v w links ≤ 1024 → n + m ≤ 4096 → literals_in left right ≤ 16384 → join_call left right links t st ≡ accept (joined_variables v w links) (n + m) cs t
      made a b c = by_linked (by_tests v n w m false true none_first (within_limits_lem (joined_variables v w links) (n + m) a b (omega (arith, literals_are v n w m R, c))))

-- THE LAW
pub join_answers : (left right links : List ℕ) (t : Tables) (st : State) → JoinAnswers left right links t st
join_answers left right links t st = record {
  short = short_refused left right links t st;
  left_text = λ L r e. by_verdict left right links t st L (by_texts left right links t st e refl refl);
  right_text = λ L v n body p r e. by_verdict left right links t st L (by_texts left right links t st p e refl);
  link = link_refused left right links t st;
  limit = limit_refused left right links t st;
  accepted = made left right links t st;
}
