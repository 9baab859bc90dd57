-- The numbers of the right variables in an accepted join (`join_numbers`). Assumes nothing.
use Prim.Native.Nat.{ℕ, zero, suc, ◌+◌, ◌≤◌, ◌<◌}
use native.Mathlib.Omega.{arith}
use mathlib.Core.Path.{◌≡◌, refl, sym, subst, ◌∙◌}
use mathlib.Core.Logic.{⊎_elim}
use mathlib.Core.List.{List}
use Rattle.base.specs.Decide.{le_or}
use Rattle.dimacs.specs.Text.{judge_text}
use Rattle.join.specs.Links.{pair_count, left_of, right_of, link_of, unlinked, right_number, joined_variables}
use Rattle.join.specs.Join.{variables_by, judge_join}
use Rattle.join.proofs.RightNumbers.{Linked, link_pair, pair_link, unlinked_more, unlinked_same, unlinked_counts, number_linked, number_unlinked, number_within}
use Rattle.join.proofs.Within.{join_joined}
use Rattle.shares.specs.Numbers.{Unlinked, RightNumbers}
use Rattle.std.specs.Prelude.{Result}
use Rattle.dimacs.specs.declared.Header.{Header}
use Rattle.state.specs.declared.Refusal.{Refusal}
use Rattle.dimacs.specs.Header.{fitting}

module _ (v w : ℕ) (links : List ℕ) (L : Linked v w links) where
  -- the pair links its right variable
  pair_is : (i : ℕ) → i < pair_count links → link_of links (right_of links i) ≡ left_of links i
  pair_is i h = pair_link links (pair_count links) i h (λ j lt b. L.right_once j b i lt)

  pub link_number : (i : ℕ) → i < pair_count links → right_number v links (right_of links i) ≡ left_of links i
  link_number i h = go (left_of links i) refl (L.left i h).0
    where
      go : (k : ℕ) → left_of links i ≡ k → 0 < left_of links i → right_number v links (right_of links i) ≡ left_of links i
      go zero e a = absurd (omega (arith, e, a))
      go (suc l) e a = number_linked links v (right_of links i) l (pair_is i h ∙ e) ∙ sym e

  -- no pair has a variable exactly if none links it
  none_links : (x : ℕ) → Unlinked links x → link_of links x ≡ 0
  none_links x none = go (link_of links x) refl
    where
      go : (k : ℕ) → link_of links x ≡ k → link_of links x ≡ 0
      go zero e = e
      go (suc l) e = let p = link_pair links (pair_count links) x l e in absurd (none p.0 p.1 p.2)

  links_none : (x : ℕ) → link_of links x ≡ 0 → Unlinked links x
  links_none x e i h q = omega (arith, (L.left i h).0, pair_is i h, e, subst (λ (y : ℕ). link_of links (right_of links i) ≡ link_of links y) q refl)

  -- each variable of the join is a left one, or the number of an unlinked right one
  covered : (x y : ℕ) → x ≤ w → v < y → y ≤ v + unlinked links x → (z : ℕ) × (0 < z) × (z ≤ w) × (link_of links z ≡ 0) × (right_number v links z ≡ y)
  unfolding unlinked
  covered zero y l a b = absurd (omega arith)
  covered (suc x) y l a b = go (link_of links (suc x)) refl (λ h. covered x y (omega arith) a h)
    where
      go : (k : ℕ) → link_of links (suc x) ≡ k → (y ≤ v + unlinked links x → (z : ℕ) × (0 < z) × (z ≤ w) × (link_of links z ≡ 0) × (right_number v links z ≡ y)) → (z : ℕ) × (0 < z) × (z ≤ w) × (link_of links z ≡ 0) × (right_number v links z ≡ y)
      go zero e rest =
          ⊎_elim rest (λ (h : v + unlinked links x < y). (suc x, omega arith, l, e, number_unlinked links v (suc x) e ∙ omega (arith, unlinked_more links x e))) (le_or y (v + unlinked links x))
      go (suc k) e rest = rest (omega (arith, unlinked_same links x k e))

  pub right_numbers : RightNumbers v w (joined_variables v w links) links (right_number v links)
  right_numbers = record { linked = link_number; after = after; ordered = ordered; each = each }
    where
      after : (x : ℕ) → 0 < x → x ≤ w → Unlinked links x → (v < right_number v links x) × (right_number v links x ≤ joined_variables v w links)
      after x a h none = let e = none_links x none in (omega (arith, number_unlinked links v x e, unlinked_counts links x a e 0 a), number_within links v w L x h)

      ordered : (x y : ℕ) → 0 < x → x < y → y ≤ w → Unlinked links x → Unlinked links y → right_number v links x < right_number v links y
      ordered x y a lt h p q =
          let ex = none_links x p in
          let ey = none_links y q in
          omega (arith, number_unlinked links v x ex, number_unlinked links v y ey, unlinked_counts links y (omega (arith, a, lt)) ey x lt)

      each : (k : ℕ) → v < k → k ≤ joined_variables v w links → (x : ℕ) × (0 < x) × (x ≤ w) × Unlinked links x × (right_number v links x ≡ k)
      each k a h = let z = covered w k (omega arith) a h in (z.0, z.1, z.2, links_none z.0 z.3, z.4)

-- THE LAW: for a join that is accepted
pub join_numbers : (left right links : List ℕ) (u n body : ℕ) → judge_join left right links ≡ fitting u n body
    → RightNumbers (variables_by (judge_text left)) (variables_by (judge_text right)) u links (right_number (variables_by (judge_text left)) links)
join_numbers left right links u n body e =
    let J = join_joined left right links u n body e in
    subst (λ (x : Result Header Refusal). RightNumbers (variables_by x) (variables_by (judge_text right)) u links (right_number (variables_by x) links)) (sym J.left_fits)
    (subst (λ (x : Result Header Refusal). RightNumbers J.v (variables_by x) u links (right_number J.v links)) (sym J.right_fits)
    (subst (λ (k : ℕ). RightNumbers J.v J.w k links (right_number J.v links)) (sym J.variables) (right_numbers J.v J.w links J.linked)))
