-- A visit keeps the tables formed, unless it finds the empty clause; and it leaves every class as it was. Assumes nothing.
use Prim.Native.Nat.{ℕ, ◌<◌}
use native.Mathlib.Omega.{arith}
use mathlib.Core.Path.{◌≡◌, refl, sym, ap, subst, ◌∙◌}
use mathlib.Core.Bool.{Bool, true, false, not}
use mathlib.Core.List.{List, [], ◌∷◌}
use lib.ListN.{length}
use lib.Dec.{ltb}
use lib.IntN.{ℤ}
use Rattle.literal.specs.Literals.{Literal}
use Rattle.base.specs.Lists.{any}
use Rattle.tables.specs.Tables.{Tables, standing, class_of}
use Rattle.tables.specs.Values.{is_true, is_false, set_true}
use Rattle.tables.specs.Clauses.{literals_of}
use Rattle.tables.specs.Fates.{Fate, conflict, store, fate_at, shortened, dropped_at}
use Rattle.visits.specs.Formed.{Formed, FitClause}
use Rattle.visits.proofs.Forming.{clause_fits, part_length, formed_values}
use Rattle.visits.proofs.Fitting.{fit_none, fit_filter, filter_shorter}
use Rattle.visits.proofs.StoreKeeps.{FormedIn, formed_shortened, formed_dropped, formed_cases}
use Rattle.visits.proofs.MadeTrue.{true_classes, true_variables}
use Rattle.propagate_visits.specs.Visits.{not_false, remaining, propagate_clause}
use Rattle.propagate_visits.proofs.Parting.{fate_true, fate_left}

module _ (v n : ℕ) (t : Tables) (F : FormedIn v n t) (k : ℕ) (lt : k < n) where
  -- a clause that stands empty, under the mark
  pub formed_conflict : standing t.clauses k ≡ 1 → Formed v n n true (shortened k [] t).clauses (shortened k [] t).literals (shortened k [] t).variables
  formed_conflict stands = formed_shortened t F k lt n (λ j lj d e. e) true [] stands fit_none (omega arith) (λ z. refl)

  -- a literal made true
  pub formed_unit : (l : ℤ) → Literal v l → FormedIn v n (dropped_at k (set_true t.variables l) t)
  unfolding dropped_at
  formed_unit l L = formed_values (formed_dropped t F k lt n (λ j lj d e. e)) (true_classes F.vars l L) (true_variables F.vars l L)

  -- what is left of clause k
  fits : FitClause v t.variables (ltb k n) (not_false t.variables (literals_of t.clauses t.literals k))
  fits = fit_filter v t.variables (ltb k n) (λ l. not (is_false t.variables l)) (literals_of t.clauses t.literals k) (clause_fits F k lt)

  -- by what is left of it
  formed_remaining : standing t.clauses k ≡ 1 → (D : List ℤ) → D ≡ not_false t.variables (literals_of t.clauses t.literals k) → (remaining D ≡ conflict → ⊥) → FormedIn v n (store k (remaining D) t)
  formed_remaining stands [] e some = absurd (some refl)
  formed_remaining stands (x ∷ []) e some = formed_unit x ((subst (FitClause v t.variables (ltb k n)) (sym e) fits).ranged 0 (omega arith))
  formed_remaining stands (x ∷ y ∷ D) e some =
      formed_shortened t F k lt n (λ j lj d e. e) false (x ∷ y ∷ D) stands (subst (FitClause v t.variables (ltb k n)) (sym e) fits)
      (omega (arith, ap length e, filter_shorter (λ l. not (is_false t.variables l)) (literals_of t.clauses t.literals k), part_length F k lt)) (λ z. absurd (omega (arith, z)))

  -- a visit to clause k, unless it finds no literal left
  pub formed_visit : (fate_at (propagate_clause t.variables) k t ≡ conflict → ⊥) → FormedIn v n (store k (fate_at (propagate_clause t.variables) k t) t)
  formed_visit = formed_cases t F k lt (propagate_clause t.variables) (λ (f : Fate). (f ≡ conflict → ⊥) → FormedIn v n (store k f t)) (λ e some. F) (by_test (any (is_true t.variables) C) refl)
    where
      C : List ℤ
      C = literals_of t.clauses t.literals k

      by_test : (b : Bool) → any (is_true t.variables) C ≡ b → standing t.clauses k ≡ 1 → (propagate_clause t.variables C ≡ conflict → ⊥) → FormedIn v n (store k (propagate_clause t.variables C) t)
      by_test true e stands some = subst (λ (f : Fate). FormedIn v n (store k f t)) (sym (fate_true t.variables C e)) (formed_dropped t F k lt n (λ j lj d e. e))
      by_test false e stands some =
          subst (λ (f : Fate). FormedIn v n (store k f t)) (sym (fate_left t.variables C e)) (formed_remaining stands (not_false t.variables C) refl (λ z. some (fate_left t.variables C e ∙ z)))

  -- only a standing clause is found empty
  pub conflict_stands : fate_at (propagate_clause t.variables) k t ≡ conflict → standing t.clauses k ≡ 1
  conflict_stands =
      formed_cases t F k lt (propagate_clause t.variables) (λ (f : Fate). f ≡ conflict → standing t.clauses k ≡ 1)
      (λ e h. absurd (let z : ◌≡◌ {A = ℕ} 0 1 = cc in omega arith)) (λ stands h. stands)

  -- and a visit sets values only: every class is as it was
  remaining_classes : (D : List ℤ) → FitClause v t.variables (ltb k n) D → (u : ℕ) → class_of (store k (remaining D) t).variables u ≡ class_of t.variables u
  unfolding shortened dropped_at
  remaining_classes [] P u = refl
  remaining_classes (x ∷ []) P u = true_classes F.vars x (P.ranged 0 (omega arith)) u
  remaining_classes (x ∷ y ∷ D) P u = refl

  pub visit_classes : (u : ℕ) → class_of (store k (fate_at (propagate_clause t.variables) k t) t).variables u ≡ class_of t.variables u
  unfolding dropped_at
  visit_classes = formed_cases t F k lt (propagate_clause t.variables) Same (λ e u. refl) (λ stands. by_test (any (is_true t.variables) C) refl)
    where
      C : List ℤ
      C = literals_of t.clauses t.literals k

      Same : Fate → Type 0
      Same f = (u : ℕ) → class_of (store k f t).variables u ≡ class_of t.variables u

      by_test : (b : Bool) → any (is_true t.variables) C ≡ b → Same (propagate_clause t.variables C)
      by_test true e = subst Same (sym (fate_true t.variables C e)) (λ u. refl)
      by_test false e = subst Same (sym (fate_left t.variables C e)) (remaining_classes (not_false t.variables C) fits)
