-- The shares of an assignment of a join (`join_shares`). Assumes nothing.
use Prim.Native.Nat.{ℕ, zero, suc, ◌≤◌, ◌<◌}
use native.Mathlib.Omega.{arith}
use mathlib.Core.Path.{◌≡◌, refl, sym, ap, subst, ◌∙◌}
use mathlib.Core.Bool.{Bool, true, false, ◌||◌}
use mathlib.Core.Logic.{◌↔◌, ◌⊎◌, inl, inr, ⊎_elim}
use mathlib.Core.List.{List, [], ◌∷◌, ◌++◌, map}
use lib.Dec.{leb, eqb}
use lib.IntN.{ℤ, pos, nat_abs}
use lib.Signed.{non_neg}
use borrow.Author.Tests.{eqb-true, eqb-false, le-leb, lt-leb}
use Rattle.base.specs.Decide.{same_or, le_or}
use Rattle.literal.specs.Literals.{sign_by}
use Rattle.literal.specs.Ranged.{InClause, InClauses}
use Rattle.literal.specs.Assignments.{Assignment, truth_by, true_under, some_true, Satisfies}
use Rattle.dimacs.specs.Text.{judge_text, text_clauses}
use Rattle.dimacs.proofs.Accepted.{text_within}
use Rattle.join.specs.Links.{pair_count, link_of, right_number, joined_variables, renumbered, renumbered_clauses}
use Rattle.join.specs.Join.{variables_by, join_clauses, judge_join}
use Rattle.join.proofs.RightNumbers.{Linked, link_pair, unlinked_counts, number_linked, number_unlinked, number_left, number_above}
use Rattle.join.proofs.Within.{Joined, join_joined, clauses_are}
use Rattle.shares.proofs.Numbers.{link_number, right_numbers}
use Rattle.shares.specs.Shares.{right_share, Same, Agree, Shares}
use Rattle.std.specs.Prelude.{Result}
use Rattle.dimacs.specs.declared.Header.{Header}
use Rattle.state.specs.declared.Refusal.{Refusal}
use Rattle.dimacs.specs.Header.{fitting}

-- ---- the clauses

sign_true : (τ : Assignment) (b : Bool) (x : ℕ) → 0 < x → true_under τ (sign_by b (pos x)) ≡ truth_by b (τ x)
sign_true τ b zero h = absurd (omega arith)
sign_true τ true (suc x) h = refl
sign_true τ false (suc x) h = refl

module _ (v : ℕ) (links : List ℕ) (τ : Assignment) where
  literal_share : (l : ℤ) → 0 < nat_abs l → true_under τ (renumbered v links l) ≡ true_under (right_share v links τ) l
  unfolding renumbered
  literal_share l h = sign_true τ (non_neg l) (right_number v links (nat_abs l)) (number_above links v (nat_abs l) h)

  clause_share : (w : ℕ) (c : List ℤ) → InClause w c → some_true τ (map (renumbered v links) c) ≡ some_true (right_share v links τ) c
  unfolding InClause
  clause_share w [] I = refl
  clause_share w (l ∷ c) I = λ i. literal_share l I.0 i || clause_share w c I.1.1 i

  -- the left clauses, and the right ones renumbered
  parted : (w : ℕ) (cs ds : List (List ℤ)) → InClauses w ds → Satisfies τ (cs ++ renumbered_clauses v links ds) → Satisfies τ cs × Satisfies (right_share v links τ) ds
  unfolding Satisfies InClauses
  parted w [] [] I S = (tt, tt)
  parted w [] (d ∷ ds) I S = (tt, (sym (clause_share w d I.0) ∙ S.0, (parted w [] ds I.1 S.1).1))
  parted w (c ∷ cs) ds I S = let r = parted w cs ds I S.1 in ((S.0, r.0), r.1)

  united : (w : ℕ) (cs ds : List (List ℤ)) → InClauses w ds → Satisfies τ cs × Satisfies (right_share v links τ) ds → Satisfies τ (cs ++ renumbered_clauses v links ds)
  unfolding Satisfies InClauses
  united w [] [] I S = tt
  united w [] (d ∷ ds) I S = (clause_share w d I.0 ∙ S.1.0, united w [] ds I.1 (tt, S.1.1))
  united w (c ∷ cs) ds I S = (S.0.0, united w cs ds I (S.0.1, S.1))

-- ---- the assignments

-- which of the right variables 1 to x has the number y; 0 if none has
unfoldable numbered : ℕ → List ℕ → ℕ → ℕ → ℕ
numbered v links y zero = 0
numbered v links y (suc x) = elim (eqb (right_number v links (suc x)) y) [ true ↦ suc x | false ↦ numbered v links y x ]

module _ (v w : ℕ) (links : List ℕ) (L : Linked v w links) where
  -- an unlinked variable has its number alone
  numbered_is : (x y : ℕ) → 0 < x → x ≤ y → link_of links x ≡ 0 → numbered v links (right_number v links x) y ≡ x
  unfolding numbered
  numbered_is x zero a h e = absurd (omega arith)
  numbered_is x (suc y) a h e = go (eqb (right_number v links (suc y)) (right_number v links x)) refl (same_or x (suc y)) (λ l. numbered_is x y a l e)
    where
      apart : (k : ℕ) → link_of links (suc y) ≡ k → x < suc y → right_number v links (suc y) ≡ right_number v links x → ⊥
      apart zero q lt n = omega (arith, n, number_unlinked links v (suc y) q, number_unlinked links v x e, unlinked_counts links (suc y) (omega arith) q x lt)
      apart (suc l) q lt n = omega (arith, n, number_left links v w L (suc y) l q, number_unlinked links v x e, unlinked_counts links x a e 0 a)

      go : (b : Bool) → eqb (right_number v links (suc y)) (right_number v links x) ≡ b → (x ≡ suc y) ⊎ (x ≡ suc y → ⊥) → (x ≤ y → numbered v links (right_number v links x) y ≡ x)
          → elim b as (λ z. ℕ) [ true ↦ suc y | false ↦ numbered v links (right_number v links x) y ] ≡ x
      go true q (inl i) rest = sym i
      go true q (inr n) rest = absurd (apart (link_of links (suc y)) refl (omega (arith, h, n)) (eqb-true (right_number v links (suc y)) (right_number v links x) q))
      go false q (inl i) rest = absurd (eqb-false (right_number v links (suc y)) (right_number v links x) q (ap (right_number v links) (sym i)))
      go false q (inr n) rest = rest (omega (arith, h, n))

  -- the assignment of the join that has these shares
  unfoldable united_by : Assignment → Assignment → Assignment
  united_by σ ρ y = elim (leb y v) [ true ↦ σ y | false ↦ ρ (numbered v links y w) ]

  low : (σ ρ : Assignment) (y : ℕ) → y ≤ v → united_by σ ρ y ≡ σ y
  unfolding united_by
  low σ ρ y h = rw (le-leb y v h, united_by)

  high : (σ ρ : Assignment) (y : ℕ) → v < y → united_by σ ρ y ≡ ρ (numbered v links y w)
  unfolding united_by
  high σ ρ y h = rw (lt-leb y v h, united_by)

  right_of : (σ ρ : Assignment) → Agree links σ ρ → Same w (right_share v links (united_by σ ρ)) ρ
  right_of σ ρ A x a h = go (link_of links x) refl
    where
      go : (k : ℕ) → link_of links x ≡ k → united_by σ ρ (right_number v links x) ≡ ρ x
      go zero e = high σ ρ (right_number v links x) (omega (arith, number_unlinked links v x e, unlinked_counts links x a e 0 a)) ∙ ap ρ (numbered_is x w a h e)
      go (suc l) e =
          let p = link_pair links (pair_count links) x l e in
          low σ ρ (right_number v links x) (number_left links v w L x l e) ∙ ap σ (number_linked links v x l e ∙ sym p.3) ∙ A p.0 p.1 ∙ ap ρ p.2

  tells : (σ τ : Assignment) → Same v σ τ → Same w (right_share v links σ) (right_share v links τ) → Same (joined_variables v w links) σ τ
  tells σ τ A B y a h =
      ⊎_elim (λ (l : y ≤ v). A y a l)
      (λ (g : v < y). let z = (right_numbers v w links L).each y g h in ap σ (sym z.4) ∙ B z.0 z.1 z.2 ∙ ap τ z.4)
      (le_or y v)

-- THE LAW: for a join that is accepted
pub join_shares : (left right links : List ℕ) (u n body : ℕ) → judge_join left right links ≡ fitting u n body
    → Shares (variables_by (judge_text left)) (variables_by (judge_text right)) u links (text_clauses left) (text_clauses right) (join_clauses left right links)
join_shares left right links u n body e =
    subst (λ (x : Result Header Refusal). Shares (variables_by x) (variables_by (judge_text right)) u links (text_clauses left) (text_clauses right) (join_clauses left right links)) (sym J.left_fits)
    (subst (λ (x : Result Header Refusal). Shares J.v (variables_by x) u links (text_clauses left) (text_clauses right) (join_clauses left right links)) (sym J.right_fits)
    (record { satisfied = satisfied; agree = λ τ i h. ap τ (sym (link_number J.v J.w links J.linked i h)); united = λ σ ρ A. (united_by J.v J.w links J.linked σ ρ, (λ x a h. low J.v J.w links J.linked σ ρ x h), right_of J.v J.w links J.linked σ ρ A); determined = determined }))
  where
    J : Joined left right links u n
    J = join_joined left right links u n body e

    each : InClauses J.w (text_clauses right)
    each = (text_within right J.w J.m J.right_body J.right_fits).1.1.each

    satisfied : (τ : Assignment) → Satisfies τ (join_clauses left right links) ↔ (Satisfies τ (text_clauses left) × Satisfies (right_share J.v links τ) (text_clauses right))
    satisfied τ =
        subst (λ (cs : List (List ℤ)). Satisfies τ cs ↔ (Satisfies τ (text_clauses left) × Satisfies (right_share J.v links τ) (text_clauses right))) (sym (clauses_are J))
        (parted J.v links τ J.w (text_clauses left) (text_clauses right) each, united J.v links τ J.w (text_clauses left) (text_clauses right) each)

    determined : (σ τ : Assignment) → Same J.v σ τ → Same J.w (right_share J.v links σ) (right_share J.v links τ) → Same u σ τ
    determined σ τ A B = subst (λ (x : ℕ). Same x σ τ) (sym J.variables) (tells J.v J.w links J.linked σ τ A B)
