-- One visit of Propagate, for the whole pass: it meets the empty clause; or it takes a literal away; or it leaves the tables as they were, and the clause is settled. Assumes nothing.
use Prim.Native.Nat.{ℕ, zero, suc, ◌+◌, ◌*◌, ◌≤◌, ◌<◌}
use native.Mathlib.Omega.{arith}
use mathlib.Core.Path.{◌≡◌, refl, sym, ap, subst, ◌∙◌}
use mathlib.Core.Bool.{Bool, true, false, ◌||◌, false≢true, or-true, or-false}
use mathlib.Core.Logic.{⊎_elim}
use mathlib.Core.List.{List, [], ◌∷◌}
use lib.ListN.{length}
use lib.Seq.{get_or-set_same, get_or-set_other}
use lib.Dec.{ltb}
use lib.IntN.{ℤ}
use borrow.Author.Tests.{ltb-true, ltb-false, lt-ltb}
use Rattle.base.specs.Decide.{same_or}
use Rattle.base.specs.Lists.{any}
use Rattle.tables.specs.Tables.{Tables, length_of, standing}
use Rattle.tables.specs.Values.{is_true, set_true}
use Rattle.tables.specs.Clauses.{literals_of}
use Rattle.tables.specs.Fates.{Fate, left, dropped, unit, conflict, store, fate_at, shortened, dropped_at}
use Rattle.tables.specs.Passes.{unsettled}
use Rattle.visits.specs.Formed.{Formed, FitClause}
use Rattle.visits.proofs.Stores.{recorded_other, recorded_here}
use Rattle.visits.proofs.Placing.{shortened_same}
use Rattle.visits.proofs.Forming.{part_inside, part_length, clause_fits, record_inside, stands_one}
use Rattle.visits.proofs.Visiting.{fate_dropped, fate_standing}
use Rattle.visits.proofs.StoreKeeps.{FormedIn}
use Rattle.visits.proofs.Looking.{dropped_settled, valued_unsettled}
use Rattle.propagate_visits.specs.Visits.{Progress, contradicted, onward, visited, remaining, not_false, propagate_clause, propagate_visit}
use Rattle.propagate_visits.proofs.Parting.{fate_true, fate_left}
use Rattle.propagate_visits.proofs.VisitKeeps.{formed_visit, formed_conflict}
use Rattle.settle.proofs.Measure.{total, total_after}
use Rattle.propagate.proofs.Unvalued.{Untouched, untouched}

-- ---- what a visit leaves

-- the flag as a number
abbrev pub bit : Bool → ℕ
bit true = 1
bit false = 0

-- the pass goes on from clause k and its flag to the flag `after` and the tables u: no more literals and flags than before; and without the flag all is as it was, and clause k is settled
pub record Went (v n k : ℕ) (changed : Bool) (t : Tables) (after : Bool) (u : Tables) : Type 0 where
  pub formed : FormedIn v n u
  pub less : total u.clauses n + bit after ≤ total t.clauses n + bit changed
  pub still : after ≡ false → (changed ≡ false) × ((u ≡ t) × (unsettled t k ≡ false))

module _ {v n : ℕ} (t : Tables) (F : FormedIn v n t) (k : ℕ) (lt : k < n) (changed : Bool) where
  -- a literal or more is taken away
  shorter : (u : Tables) → FormedIn v n u → ((j : ℕ) → (j ≡ k → ⊥) → length_of u.clauses j ≡ length_of t.clauses j) → length_of u.clauses k < length_of t.clauses k → Went v n k changed t true u
  shorter u G others less = record { formed = G; less = omega (arith, total_after t.clauses u.clauses k others n lt); still = λ e. absurd (false≢true (sym e)) }

  went_dropped : standing t.clauses k ≡ 1 → (w : List ℤ) → FormedIn v n (dropped_at k w t) → Went v n k changed t true (dropped_at k w t)
  unfolding dropped_at
  went_dropped stands w G =
      shorter (dropped_at k w t) G (λ j d. (recorded_other t.clauses k 0 0 j d).0) (omega (arith, (recorded_here t.clauses k 0 0 (record_inside F k lt)).0, some))
    where
      -- without the mark no clause stands empty
      some : 0 < length_of t.clauses k
      some = positive (length_of t.clauses k) refl
        where
          positive : (m : ℕ) → length_of t.clauses k ≡ m → 0 < m
          positive zero e = absurd (false≢true (F.rule.empty k lt stands e))
          positive (suc m) e = omega arith

  went_shorter : (C : List ℤ) → FormedIn v n (shortened k C t) → length C < length_of t.clauses k → Went v n k changed t true (shortened k C t)
  unfolding shortened
  went_shorter C G less =
      shorter (shortened k C t) G (λ j d. get_or-set_other t.clauses (3 * k + 1) (3 * j + 1) (length C) 0 (λ e. d (omega arith)))
      (omega (arith, get_or-set_same t.clauses (3 * k + 1) (length C) 0 (let r = record_inside F k lt in omega arith)))

  -- nothing is taken away
  went_still : unsettled t k ≡ false → Went v n k changed t changed t
  went_still e = record { formed = F; less = omega arith; still = λ z. (z, (refl, e)) }

-- ---- the visit, by cases

module _ {v n : ℕ} (t : Tables) (F : FormedIn v n t) (k : ℕ) (lt : k < n) (changed : Bool) (P : Progress → Type 0)
    (ended : (u : Tables) → Formed v n n true u.clauses u.literals u.variables → P (contradicted u)) (went : (after : Bool) (u : Tables) → Went v n k changed t after u → P (onward n (suc k) after u)) where
  formed_fate : (f : Fate) → fate_at (propagate_clause t.variables) k t ≡ f → (f ≡ conflict → ⊥) → FormedIn v n (store k f t)
  formed_fate f e d = subst (λ (g : Fate). FormedIn v n (store k g t)) e (formed_visit v n t F k lt (λ z. d (sym e ∙ z)))

  left_by : standing t.clauses k ≡ 1 → (D : List ℤ) → fate_at (propagate_clause t.variables) k t ≡ left D → any (is_true t.variables) (literals_of t.clauses t.literals k) ≡ false
      → D ≡ not_false t.variables (literals_of t.clauses t.literals k) → 1 < length D → P (visited n k changed (left D) t)
  left_by stands D f none e two = by (ltb (length D) (length_of t.clauses k)) refl
    where
      C : List ℤ
      C = literals_of t.clauses t.literals k

      by : (b : Bool) → ltb (length D) (length_of t.clauses k) ≡ b → P (onward n (suc k) (changed || b) (shortened k D t))
      by true h =
          subst (λ (b : Bool). P (onward n (suc k) b (shortened k D t))) (sym (or-true changed))
          (went true (shortened k D t) (went_shorter t F k lt changed D (formed_fate (left D) f (λ z. let q : ◌≡◌ {A = ℕ} 0 1 = cc in omega arith)) (ltb-true (length D) (length_of t.clauses k) h)))
      by false h =
          subst (λ (b : Bool). P (onward n (suc k) b (shortened k D t))) (sym (or-false changed))
          (subst (λ (u : Tables). P (onward n (suc k) changed u)) (sym same) (went changed t (went_still t F k lt changed unset)))
        where
          sized : length C ≡ length_of t.clauses k
          sized = part_length F k lt

          U : Untouched t.variables C
          U =
              untouched v t.variables C F.vars (subst (λ (b : Bool). FitClause v t.variables b C) (lt-ltb k n lt) (clause_fits F k lt)) none
              (omega (arith, sized, ap length e, ltb-false (length D) (length_of t.clauses k) h))

          same : shortened k D t ≡ t
          same = ap (λ (E : List ℤ). shortened k E t) (e ∙ U.whole) ∙ shortened_same t k (part_inside F k lt)

          unset : unsettled t k ≡ false
          unset = sym (valued_unsettled t k stands (λ o. omega (arith, o, sized, ap length (e ∙ U.whole), two))) ∙ U.unvalued

  by_remaining : standing t.clauses k ≡ 1 → any (is_true t.variables) (literals_of t.clauses t.literals k) ≡ false → (D : List ℤ) → fate_at (propagate_clause t.variables) k t ≡ remaining D
      → D ≡ not_false t.variables (literals_of t.clauses t.literals k) → P (visited n k changed (remaining D) t)
  by_remaining stands none [] f e = ended (store k conflict t) (formed_conflict v n t F k lt stands)
  by_remaining stands none (x ∷ []) f e =
      went true (store k (unit x) t) (went_dropped t F k lt changed stands (set_true t.variables x) (formed_fate (unit x) f (λ z. let q : ◌≡◌ {A = ℕ} 0 1 = cc in omega arith)))
  by_remaining stands none (x ∷ y ∷ D) f e = left_by stands (x ∷ y ∷ D) f none e (omega arith)

  by_standing : standing t.clauses k ≡ 1 → fate_at (propagate_clause t.variables) k t ≡ propagate_clause t.variables (literals_of t.clauses t.literals k) → P (visited n k changed (fate_at (propagate_clause t.variables) k t) t)
  by_standing stands f = by (any (is_true t.variables) C) refl
    where
      C : List ℤ
      C = literals_of t.clauses t.literals k

      by : (b : Bool) → any (is_true t.variables) C ≡ b → P (visited n k changed (fate_at (propagate_clause t.variables) k t) t)
      by true e =
          let d = f ∙ fate_true t.variables C e in
          subst (λ (g : Fate). P (visited n k changed g t)) (sym d)
          (went true (store k dropped t) (went_dropped t F k lt changed stands t.variables (formed_fate dropped d (λ z. let q : ◌≡◌ {A = ℕ} 0 1 = cc in omega arith))))
      by false e =
          let d = f ∙ fate_left t.variables C e in
          subst (λ (g : Fate). P (visited n k changed g t)) (sym d) (by_remaining stands e (not_false t.variables C) d refl)

  pub visit_cases : P (propagate_visit n k changed t)
  unfolding propagate_visit
  visit_cases =
      ⊎_elim
      (λ (e : standing t.clauses k ≡ 0).
      subst (λ (g : Fate). P (visited n k changed g t)) (sym (fate_dropped (propagate_clause t.variables) k t e))
      (went changed t (went_still t F k lt changed (sym (dropped_settled t k (λ o. omega (arith, o, e)))))))
      (λ (d : standing t.clauses k ≡ 0 → ⊥). by_standing (stands_one F k lt d) (fate_standing (propagate_clause t.variables) k t d))
      (same_or (standing t.clauses k) 0)
