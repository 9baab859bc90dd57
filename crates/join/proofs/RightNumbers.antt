-- The numbers of the right variables: where all links are good, a linked one has the number of a left variable, and the others have numbers behind these, each its own. Assumes nothing.
use Prim.Native.Nat.{ℕ, zero, suc, ◌+◌, ◌≤◌, ◌<◌}
use native.Mathlib.Omega.{arith}
use mathlib.Core.Path.{◌≡◌, refl, sym, ap, subst}
use mathlib.Core.Bool.{Bool, true, false}
use mathlib.Core.Logic.{◌⊎◌, inl, inr, ⊎_elim}
use mathlib.Core.List.{List, [], ◌∷◌, map}
use lib.ListN.{length-map}
use lib.Dec.{ltb, eqb}
use lib.IntN.{ℤ, pos, nat_abs}
use lib.Signed.{non_neg}
use borrow.Author.Tests.{eqb-true, eqb-false, ltb-false, eq-eqb}
use Rattle.base.specs.Decide.{same_or}
use Rattle.base.specs.Lists.{any_below}
use Rattle.base.proofs.Booleans.{clash, or_left, or_right}
use Rattle.base.proofs.Searches.{any_below_in, first_passed}
use Rattle.literal.specs.Literals.{sign_by}
use Rattle.literal.specs.Ranged.{InClause, InClauses, total}
use Rattle.literal.proofs.Signed.{abs_neg}
use Rattle.join.specs.Links.{pair_count, left_of, right_of, outside, bad_side, bad_link, first_bad, link_in, link_of, unlinked, right_number, joined_variables, renumbered, renumbered_clauses}

-- ---- the links

-- each link has variables in range, used once on its side
pub record Linked (v w : ℕ) (links : List ℕ) : Type 0 where
  pub left : (i : ℕ) → i < pair_count links → (0 < left_of links i) × (left_of links i ≤ v)
  pub right : (i : ℕ) → i < pair_count links → (0 < right_of links i) × (right_of links i ≤ w)
  pub left_once : (i : ℕ) → i < pair_count links → (j : ℕ) → j < i → left_of links j ≡ left_of links i → ⊥
  pub right_once : (i : ℕ) → i < pair_count links → (j : ℕ) → j < i → right_of links j ≡ right_of links i → ⊥

pub inside : (v x : ℕ) → outside v x ≡ false → (0 < x) × (x ≤ v)
inside v x e = (omega (arith, eqb-false x 0 (or_left (eqb x 0) (ltb v x) e)), ltb-false v x (or_right (eqb x 0) (ltb v x) e))

in_side : (v : ℕ) (side : ℕ → ℕ) (i : ℕ) → bad_side v side i ≡ false → (0 < side i) × (side i ≤ v)
in_side v side i e = inside v (side i) (or_left (outside v (side i)) (any_below i (λ j. eqb (side j) (side i))) e)

once_side : (v : ℕ) (side : ℕ → ℕ) (i : ℕ) → bad_side v side i ≡ false → (j : ℕ) → j < i → side j ≡ side i → ⊥
once_side v side i e j lt q =
    clash {A = ⊥} (any_below_in i (λ k. eqb (side k) (side i)) j lt (eq-eqb (side j) (side i) q)) (or_right (outside v (side i)) (any_below i (λ k. eqb (side k) (side i))) e)

module _ (v w : ℕ) (links : List ℕ) where
  fine : pair_count links ≤ first_bad v w links → (i : ℕ) → i < pair_count links → bad_link v w links i ≡ false
  unfolding first_bad
  fine h i lt = first_passed (bad_link v w links) (pair_count links) 0 i (omega arith) (omega (arith, h, lt))

  pub links_right : pair_count links ≤ first_bad v w links → Linked v w links
  links_right h = record {
    left = λ i lt. in_side v (left_of links) i (or_left (bad_side v (left_of links) i) (bad_side w (right_of links) i) (fine h i lt));
    left_once = λ i lt. once_side v (left_of links) i (or_left (bad_side v (left_of links) i) (bad_side w (right_of links) i) (fine h i lt));
    right_once = λ i lt. once_side w (right_of links) i (or_right (bad_side v (left_of links) i) (bad_side w (right_of links) i) (fine h i lt));
    right = λ i lt. in_side w (right_of links) i (or_right (bad_side v (left_of links) i) (bad_side w (right_of links) i) (fine h i lt));
  }

-- ---- the numbers

module _ (links : List ℕ) where
  -- a variable that is linked is the right one of a pair
  pub link_pair : (k x l : ℕ) → link_in links k x ≡ suc l → (i : ℕ) × (i < k) × (right_of links i ≡ x) × (left_of links i ≡ suc l)
  unfolding link_in
  link_pair zero x l e = absurd (omega (arith, e))
  link_pair (suc k) x l e = go (eqb (right_of links k) x) refl e (link_pair k x l)
    where
      go : (b : Bool) → eqb (right_of links k) x ≡ b → ◌≡◌ {A = ℕ} (elim b [ true ↦ left_of links k | false ↦ link_in links k x ]) (suc l) → (link_in links k x ≡ suc l → (i : ℕ) × (i < k) × (right_of links i ≡ x) × (left_of links i ≡ suc l))
          → (i : ℕ) × (i < suc k) × (right_of links i ≡ x) × (left_of links i ≡ suc l)
      go true q e rest = (k, omega arith, eqb-true (right_of links k) x q, e)
      go false q e rest = let r = rest e in (r.0, omega (arith, r.1), r.2, r.3)

  -- a pair whose right variable no later pair has links it
  pub pair_link : (k i : ℕ) → i < k → ((j : ℕ) → i < j → j < k → right_of links i ≡ right_of links j → ⊥) → link_in links k (right_of links i) ≡ left_of links i
  unfolding link_in
  pair_link zero i lt h = absurd (omega arith)
  pair_link (suc k) i lt h = go (eqb (right_of links k) (right_of links i)) refl (same_or i k) (λ l. pair_link k i l (λ j a b. h j a (omega (arith, b))))
    where
      go : (b : Bool) → eqb (right_of links k) (right_of links i) ≡ b → (i ≡ k) ⊎ (i ≡ k → ⊥) → (i < k → link_in links k (right_of links i) ≡ left_of links i)
          → elim b as (λ y. ℕ) [ true ↦ left_of links k | false ↦ link_in links k (right_of links i) ] ≡ left_of links i
      go true q (inl e) rest = ap (left_of links) (sym e)
      go true q (inr n) rest = absurd (h k (omega (arith, lt, n)) (omega arith) (sym (eqb-true (right_of links k) (right_of links i) q)))
      go false q (inl e) rest = absurd (eqb-false (right_of links k) (right_of links i) q (ap (right_of links) (sym e)))
      go false q (inr n) rest = rest (omega (arith, lt, n))

  -- of the variables up to x and the next, by whether that one is linked
  pub unlinked_more : (x : ℕ) → link_of links (suc x) ≡ 0 → unlinked links (suc x) ≡ suc (unlinked links x)
  unfolding unlinked
  unlinked_more x e = rw (e, unlinked)

  pub unlinked_same : (x l : ℕ) → link_of links (suc x) ≡ suc l → unlinked links (suc x) ≡ unlinked links x
  unfolding unlinked
  unlinked_same x l e = rw (e, unlinked)

  unlinked_next : (x : ℕ) → unlinked links x ≤ unlinked links (suc x)
  unlinked_next x = go (link_of links (suc x)) refl
    where
      go : (k : ℕ) → link_of links (suc x) ≡ k → unlinked links x ≤ unlinked links (suc x)
      go zero e = omega (arith, unlinked_more x e)
      go (suc l) e = omega (arith, unlinked_same x l e)

  pub unlinked_rises : (x y : ℕ) → x ≤ y → unlinked links x ≤ unlinked links y
  unlinked_rises x zero h = let e : x ≡ 0 = omega arith in subst (λ (k : ℕ). unlinked links x ≤ unlinked links k) e (omega arith)
  unlinked_rises x (suc y) h = ⊎_elim (λ (e : x ≡ suc y). subst (λ (k : ℕ). unlinked links x ≤ unlinked links k) e (omega arith)) (λ (n : x ≡ suc y → ⊥). omega (arith, unlinked_rises x y (omega arith), unlinked_next y)) (same_or x (suc y))

  -- there is at most one for each
  pub unlinked_most : (x : ℕ) → unlinked links x ≤ x
  unfolding unlinked
  unlinked_most zero = omega arith
  unlinked_most (suc x) = go (link_of links (suc x)) refl (unlinked_most x)
    where
      go : (k : ℕ) → link_of links (suc x) ≡ k → unlinked links x ≤ x → unlinked links (suc x) ≤ suc x
      go zero e h = omega (arith, unlinked_more x e)
      go (suc l) e h = omega (arith, unlinked_same x l e)

  -- the one that is not linked counts itself
  pub unlinked_counts : (x : ℕ) → 0 < x → link_of links x ≡ 0 → (y : ℕ) → y < x → unlinked links y < unlinked links x
  unlinked_counts zero a e y h = absurd (omega arith)
  unlinked_counts (suc x) a e y h = omega (arith, unlinked_more x e, unlinked_rises y x (omega arith))

  module _ (v : ℕ) where
    pub number_linked : (x l : ℕ) → link_of links x ≡ suc l → right_number v links x ≡ suc l
    unfolding right_number
    number_linked x l e = rw (e, right_number)

    pub number_unlinked : (x : ℕ) → link_of links x ≡ 0 → right_number v links x ≡ v + unlinked links x
    unfolding right_number
    number_unlinked x e = rw (e, right_number)

    -- a number is a variable of the join
    pub number_above : (x : ℕ) → 0 < x → 0 < right_number v links x
    number_above x a = go (link_of links x) refl
      where
        go : (k : ℕ) → link_of links x ≡ k → 0 < right_number v links x
        go zero e = omega (arith, number_unlinked x e, unlinked_counts x a e 0 a)
        go (suc l) e = omega (arith, number_linked x l e)

    module _ (w : ℕ) (L : Linked v w links) where
      -- that of a linked one is one of the left
      pub number_left : (x l : ℕ) → link_of links x ≡ suc l → right_number v links x ≤ v
      number_left x l e = let p = link_pair (pair_count links) x l e in omega (arith, number_linked x l e, p.3, L.left p.0 p.1)

      pub number_within : (x : ℕ) → x ≤ w → right_number v links x ≤ joined_variables v w links
      number_within x h = go (link_of links x) refl
        where
          go : (k : ℕ) → link_of links x ≡ k → right_number v links x ≤ joined_variables v w links
          go zero e = omega (arith, number_unlinked x e, unlinked_rises x w h)
          go (suc l) e = omega (arith, number_left x l e)

-- ---- clauses

-- a signed variable
pub signed_abs : (b : Bool) (x : ℕ) → nat_abs (sign_by b (pos x)) ≡ x
signed_abs true x = refl
signed_abs false x = abs_neg (pos x)

pub renumbered_abs : (v : ℕ) (links : List ℕ) (l : ℤ) → nat_abs (renumbered v links l) ≡ right_number v links (nat_abs l)
unfolding renumbered
renumbered_abs v links l = signed_abs (non_neg l) (right_number v links (nat_abs l))

module _ (v w : ℕ) (links : List ℕ) (L : Linked v w links) where
  renumbered_clause : (c : List ℤ) → InClause w c → InClause (joined_variables v w links) (map (renumbered v links) c)
  unfolding InClause
  renumbered_clause [] I = tt
  renumbered_clause (l ∷ c) I = (
    omega (arith, renumbered_abs v links l, number_above links v (nat_abs l) I.0),
    (omega (arith, renumbered_abs v links l, number_within links v w L (nat_abs l) I.1.0), renumbered_clause c I.1.1),
  )

  pub renumbered_in : (cs : List (List ℤ)) → InClauses w cs → InClauses (joined_variables v w links) (renumbered_clauses v links cs)
  unfolding InClauses
  renumbered_in [] I = tt
  renumbered_in (c ∷ cs) I = (renumbered_clause c I.0, renumbered_in cs I.1)

pub renumbered_total : (v : ℕ) (links : List ℕ) (cs : List (List ℤ)) → total (renumbered_clauses v links cs) ≡ total cs
unfolding total
renumbered_total v links [] = refl
renumbered_total v links (c ∷ cs) = omega (arith, length-map c (renumbered v links), renumbered_total v links cs)
