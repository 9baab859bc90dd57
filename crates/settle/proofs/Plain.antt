-- A clause of which every variable is its own class and none stands twice: class literals, without repeats, are the clause itself, and it has no variable with both signs. Assumes nothing.
use Prim.Native.Nat.{ℕ, suc, ◌<◌}
use native.Mathlib.Omega.{arith}
use mathlib.Core.Path.{◌≡◌, refl, sym, ap, ◌∙◌}
use mathlib.Core.Bool.{Bool, true, false, ◌||◌, false≢true}
use mathlib.Core.Logic.{◌⊎◌, inl, inr, ⊎_elim}
use mathlib.Core.List.{List, [], ◌∷◌, ◌++◌, map, append-nil, append_assoc}
use lib.ListN.{length, get_or}
use lib.IntN.{ℤ, pos, neg_ℤ, nat_abs}
use Rattle.literal.specs.Literals.{eq_z}
use Rattle.literal.specs.Clauses.{has, distinct_from, distinct, tautology}
use Rattle.literal.proofs.Signed.{abs_neg, eq_z_true, ne_eq_z}
use Rattle.tables.specs.Values.{class_literal}
use Rattle.tables.specs.Fates.{Fate, left, dropped}
use Rattle.visits.specs.Formed.{FitClause}
use Rattle.visits.proofs.Fitting.{fit_head, fit_tail}
use Rattle.merge_visits.specs.Clause.{merge_clause}
use Rattle.propagate.proofs.Unvalued.{own_literal}

-- ---- literals of other variables

-- no literal of the list has the variable of y
abbrev Elsewhere : ℤ → List ℤ → Type 0
Elsewhere y xs = (j : ℕ) → j < length xs → nat_abs y ≡ nat_abs (get_or xs j (pos 0)) → ⊥

has_none : (y : ℤ) (xs : List ℤ) → Elsewhere y xs → has y xs ≡ false
has_none y [] h = refl
has_none y (x ∷ xs) h = ap (λ (b : Bool). b || has y xs) (ne_eq_z x y (λ e. h 0 (omega arith) (ap nat_abs (sym e)))) ∙ has_none y xs (λ j l. h (suc j) (omega arith))

has_snoc : (y : ℤ) (xs : List ℤ) (x : ℤ) → has y (xs ++ (x ∷ [])) ≡ true → (has y xs ≡ true) ⊎ (x ≡ y)
has_snoc y [] x e = go (eq_z x y) refl e
  where
    go : (b : Bool) → eq_z x y ≡ b → (b || false) ≡ true → (false ≡ true) ⊎ (x ≡ y)
    go true h k = inr (eq_z_true x y h)
    go false h k = absurd (false≢true k)
has_snoc y (z ∷ xs) x e = go (has_snoc y xs x) (eq_z z y) e
  where
    go : (has y (xs ++ (x ∷ [])) ≡ true → (has y xs ≡ true) ⊎ (x ≡ y)) → (b : Bool) → (b || has y (xs ++ (x ∷ []))) ≡ true → ((b || has y xs) ≡ true) ⊎ (x ≡ y)
    go rest true k = inl refl
    go rest false k = rest k

-- ---- repeats and both signs

module _ {v : ℕ} {w : List ℤ} {b : Bool} where
  -- no literal of xs has the variable of one that is kept
  from_same : (kept xs : List ℤ) → FitClause v w b xs → ((y : ℤ) → has y kept ≡ true → Elsewhere y xs) → distinct_from kept xs ≡ kept ++ xs
  from_same kept [] F h = sym (append-nil kept)
  from_same kept (x ∷ xs) F h = go (has x kept) refl (from_same (kept ++ (x ∷ [])) xs (fit_tail F) apart)
    where
      apart : (y : ℤ) → has y (kept ++ (x ∷ [])) ≡ true → Elsewhere y xs
      apart y e j l q =
          ⊎_elim
          (λ (k : has y kept ≡ true). h y k (suc j) (omega arith) q)
          (λ (k : x ≡ y). (fit_head F).apart j l (ap nat_abs k ∙ q))
          (has_snoc y kept x e)

      go : (t : Bool) → has x kept ≡ t → distinct_from (kept ++ (x ∷ [])) xs ≡ (kept ++ (x ∷ [])) ++ xs → distinct_from kept (x ∷ xs) ≡ kept ++ (x ∷ xs)
      go true e rest = absurd (h x e 0 (omega arith) refl)
      go false e rest = rw (e, distinct_from) (rest ∙ append_assoc kept (x ∷ []) xs)

  distinct_same : (C : List ℤ) → FitClause v w b C → distinct C ≡ C
  distinct_same C F = from_same [] C F (λ y e. absurd (false≢true e))

  one_sign : (C : List ℤ) → FitClause v w b C → tautology C ≡ false
  one_sign [] F = refl
  one_sign (x ∷ xs) F =
      ap (λ (t : Bool). t || tautology xs) (has_none (neg_ℤ x) xs (λ j l e. (fit_head F).apart j l (sym (abs_neg x) ∙ e))) ∙ one_sign xs (fit_tail F)

-- ---- class literals

classes_same : {v : ℕ} {w : List ℤ} (C : List ℤ) → FitClause v w true C → map (class_literal w) C ≡ C
classes_same [] F = refl
classes_same {w = w} (x ∷ xs) F = (λ i. own_literal w x ((fit_head F).own refl) i ∷ classes_same xs (fit_tail F) i)

-- so a visit of Merge keeps such a clause
pub plain_stays : {v : ℕ} {w : List ℤ} (C : List ℤ) → FitClause v w true C → merge_clause w C ≡ left C
unfolding merge_clause
plain_stays {w = w} C F = ap fate (ap distinct (classes_same C F) ∙ distinct_same C F) ∙ ap by (one_sign C F)
  where
    by : Bool → Fate
    by t = elim t [ true ↦ dropped | false ↦ left C ]

    fate : List ℤ → Fate
    fate D = elim (tautology D) [ true ↦ dropped | false ↦ left D ]
