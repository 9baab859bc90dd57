-- What the clauses of one record say: a unit, that a variable that is its own class has its value; the two class clauses, that it equals its class literal; a standing clause, itself. Assumes nothing.
use Prim.Native.Nat.{ℕ, zero, suc, ◌≤◌, ◌<◌}
use native.Mathlib.Omega.{arith}
use mathlib.Core.Path.{◌≡◌, refl, sym, ap, ◌∙◌, subst}
use mathlib.Core.Bool.{Bool, true, false, not, ◌||◌}
use mathlib.Core.Logic.{◌↔◌, ⊎_elim}
use mathlib.Core.List.{List}
use lib.IntN.{ℤ, pos, negsuc, neg_ℤ, nat_abs}
use borrow.Author.Tests.{not-true}
use Rattle.base.proofs.Booleans.{bool_or, clash}
use Rattle.literal.specs.Literals.{eq_z}
use Rattle.literal.specs.Assignments.{Assignment, true_under, some_true, Satisfies}
use Rattle.literal.proofs.Signed.{eq_z_true, eq_eq_z}
use Rattle.literal.proofs.Truth.{holds_neg}
use Rattle.write.specs.Gathered.{own_value, unit_for, class_for, clause_for}
use Rattle.write.proofs.Records.{own_value_lem, other_value, class_none, class_some}

-- ---- clauses of one and of two literals

one_or : (a : Bool) → ((a || false) ≡ true) ↔ (a ≡ true)
one_or true = (λ e. e, λ e. e)
one_or false = (λ e. e, λ e. e)

-- (a or not b) and (not a or b) say that a and b are equal
equal_or : (a b : Bool) → (((a || (not b || false)) ≡ true) × ((not a || (b || false)) ≡ true)) ↔ (a ≡ b)
equal_or true true = (λ e. refl, λ e. (refl, refl))
equal_or true false = (λ e. clash refl (sym e.1), λ e. clash refl e)
equal_or false true = (λ e. clash refl (sym e.0), λ e. clash refl (sym e))
equal_or false false = (λ e. refl, λ e. (refl, refl))

module _ (τ : Assignment) where
  -- ---- a value

  unit_says : (w : ℕ) (value : ℤ) → 0 < w → nat_abs value ≤ 1 → Satisfies τ (unit_for w value) ↔ ((value ≡ pos 1 → τ w ≡ true) × (value ≡ negsuc 0 → τ w ≡ false))
  unfolding Satisfies
  unit_says w (pos zero) h small = (λ s. (λ e. absurd (let z : ◌≡◌ {A = ℕ} 0 1 = cc in omega arith), λ e. absurd (let z : ◌≡◌ {A = ℕ} 0 1 = cc in omega arith)), λ f. tt)
  unit_says w (pos (suc zero)) h small = (λ s. (λ e. (one_or (τ w)).0 s.0, λ e. absurd (let z : ◌≡◌ {A = ℕ} 0 1 = cc in omega arith)), λ f. ((one_or (τ w)).1 (f.0 refl), tt))
  unit_says w (pos (suc (suc n))) h small = absurd (omega arith)
  unit_says w (negsuc zero) h small =
      let l : true_under τ (neg_ℤ (pos w)) ≡ not (τ w) = holds_neg τ (pos w) h in (
        λ s. (λ e. absurd (let z : ◌≡◌ {A = ℕ} 0 1 = cc in omega arith), λ e. not-true (τ w) (sym l ∙ (one_or (true_under τ (neg_ℤ (pos w)))).0 s.0)),
        λ f. ((one_or (true_under τ (neg_ℤ (pos w)))).1 (l ∙ ap not (f.1 refl)), tt),
      )
  unit_says w (negsuc (suc n)) h small = absurd (omega arith)

  -- given only for a variable that is its own class
  pub own_unit_says : (w : ℕ) (class value : ℤ) → 0 < w → nat_abs value ≤ 1
      → Satisfies τ (unit_for w (own_value w class value)) ↔ (class ≡ pos w → (value ≡ pos 1 → τ w ≡ true) × (value ≡ negsuc 0 → τ w ≡ false))
  unfolding Satisfies
  own_unit_says w class value h small = ⊎_elim
      (λ (e : eq_z class (pos w) ≡ true).
      let own : class ≡ pos w = eq_z_true class (pos w) e in
      let same : own_value w class value ≡ value = own_value_lem w class value own in
      let says = unit_says w value h small in (
        λ s q. says.0 (subst (λ (z : ℤ). Satisfies τ (unit_for w z)) same s),
        λ f. subst (λ (z : ℤ). Satisfies τ (unit_for w z)) (sym same) (says.1 (f own)),
      ))
      (λ (e : eq_z class (pos w) ≡ false).
      let other : class ≡ pos w → ⊥ = λ q. clash (eq_eq_z class (pos w) q) e in
      (λ s q. absurd (other q), λ f. subst (λ (z : ℤ). Satisfies τ (unit_for w z)) (sym (other_value w class value other)) tt))
      (bool_or (eq_z class (pos w)))

  -- ---- a class

  pub class_says : (w : ℕ) (class : ℤ) → 0 < w → 0 < nat_abs class → Satisfies τ (class_for w class) ↔ (τ w ≡ true_under τ class)
  unfolding Satisfies
  class_says w class h above = ⊎_elim
      (λ (e : eq_z class (pos w) ≡ true).
      let own : class ≡ pos w = eq_z_true class (pos w) e in
      (λ s. ap (true_under τ) (sym own), λ q. subst (Satisfies τ) (sym (class_none w class own)) tt))
      (λ (e : eq_z class (pos w) ≡ false).
      let some = class_some w class (λ q. clash (eq_eq_z class (pos w) q) e) in
      let a : true_under τ (neg_ℤ class) ≡ not (true_under τ class) = holds_neg τ class above in
      let b : true_under τ (neg_ℤ (pos w)) ≡ not (τ w) = holds_neg τ (pos w) h in (
        λ s. let r = subst (Satisfies τ) some s in (equal_or (τ w) (true_under τ class)).0 (rw a at r.0, rw b at r.1.0),
        λ q. let r = (equal_or (τ w) (true_under τ class)).1 q in subst (Satisfies τ) (sym some) (rw a r.0, (rw b r.1, tt)),
      ))
      (bool_or (eq_z class (pos w)))

  -- ---- a clause

  pub clause_says : (flag : ℕ) (c : List ℤ) → flag ≤ 1 → Satisfies τ (clause_for flag c) ↔ (flag ≡ 1 → some_true τ c ≡ true)
  unfolding Satisfies
  clause_says zero c h = (λ s e. absurd (omega (arith, e)), λ f. tt)
  clause_says (suc flag) c h = (λ s e. s.0, λ f. (f (omega arith), tt))
