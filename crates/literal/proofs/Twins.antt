-- Taking the twin twice is nothing, twins are of one variable, and the slots below an even number are closed under taking the twin.
-- Assumes nothing.
use Prim.Native.Nat.{ℕ, ◌+◌, ◌-◌, ◌*◌, ◌/◌, ◌%◌, ◌<◌}
use native.Mathlib.Omega.{arith}
use mathlib.Core.Path.{◌≡◌, sym, ap, ◌∙◌}
use mathlib.Core.Logic.{◌⊎◌, ⊎_elim}
use borrow.Author.Tests.{eq-eqb, ne_eqb}
use Rattle.base.specs.Decide.{same_or}
use Rattle.literal.specs.Literals.{twin}

pub twin_even : (s : ℕ) → s % 2 ≡ 0 → twin s ≡ s + 1
unfolding twin
twin_even s e = rw (eq-eqb (s % 2) 0 e)

pub twin_odd : (s : ℕ) → (s % 2 ≡ 0 → ⊥) → twin s ≡ s - 1
unfolding twin
twin_odd s d = rw (ne_eqb (s % 2) 0 d)

pub twin_twice : (s : ℕ) → twin (twin s) ≡ s
twin_twice s =
    ⊎_elim
    (λ (e : s % 2 ≡ 0). ap twin (twin_even s e) ∙ twin_odd (s + 1) (λ o. omega (arith, e, o)) ∙ omega arith)
    (λ (d : s % 2 ≡ 0 → ⊥). ap twin (twin_odd s d) ∙ twin_even (s - 1) (omega (arith, d)) ∙ omega (arith, d))
    (same_or (s % 2) 0)

pub twin_below : (v s : ℕ) → s < 2 * v → twin s < 2 * v
twin_below v s lt =
    ⊎_elim
    (λ (e : s % 2 ≡ 0). omega (arith, twin_even s e))
    (λ (d : s % 2 ≡ 0 → ⊥). omega (arith, twin_odd s d))
    (same_or (s % 2) 0)

-- different slots have different twins
pub twin_eq : {a b : ℕ} → twin a ≡ twin b → a ≡ b
twin_eq {a} {b} e = sym (twin_twice a) ∙ ap twin e ∙ twin_twice b

-- slot s is one of variable s / 2 + 1, and so is its twin
pub twin_variable : (s : ℕ) → twin s / 2 ≡ s / 2
twin_variable s =
    ⊎_elim
    (λ (e : s % 2 ≡ 0). omega (arith, e, twin_even s e))
    (λ (d : s % 2 ≡ 0 → ⊥). omega (arith, d, twin_odd s d))
    (same_or (s % 2) 0)
