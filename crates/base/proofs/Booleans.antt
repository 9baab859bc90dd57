-- Laws of Bool: what a conjunction or a disjunction says of its two parts, and when two tests are equal. Assumes nothing.
use Prim.Native.Nat.{ℕ}
use mathlib.Core.Path.{◌≡◌, refl, sym, ap, ◌∙◌}
use mathlib.Core.Bool.{Bool, true, false, not, ◌&&◌, ◌||◌, true≢false, and-eq-true_iff}
use mathlib.Core.Logic.{◌⊎◌, inl, inr}
use lib.Dec.{eqb}
use borrow.Author.Tests.{eqb-false, ne_eqb, not-true}

pub bool_or : (b : Bool) → (b ≡ true) ⊎ (b ≡ false)
bool_or true = inl refl
bool_or false = inr refl

pub clash : {A : Type 0} {b : Bool} → b ≡ true → b ≡ false → A
clash t f = absurd (true≢false (sym t ∙ f))

pub not_itself : (b : Bool) → b ≡ not b → ⊥
not_itself true e = true≢false e
not_itself false e = true≢false (sym e)

-- two tests that imply each other are equal
pub both_ways : (a b : Bool) → (a ≡ true → b ≡ true) → (b ≡ true → a ≡ true) → a ≡ b
both_ways true b there back = sym (there refl)
both_ways false true there back = back refl
both_ways false false there back = refl

-- ---- both are true

pub and_left : (a b : Bool) → (a && b) ≡ true → a ≡ true
and_left a b h = ((and-eq-true_iff a b).0 h).0

pub and_right : (a b : Bool) → (a && b) ≡ true → b ≡ true
and_right a b h = ((and-eq-true_iff a b).0 h).1

pub and_both : (a b : Bool) → a ≡ true → b ≡ true → (a && b) ≡ true
and_both a b p q = (and-eq-true_iff a b).1 (p, q)

-- ---- one is true, or neither is

pub or_either : (a b : Bool) → (a || b) ≡ true → (a ≡ true) ⊎ (b ≡ true)
or_either true b h = inl refl
or_either false b h = inr h

pub or_neither : (a b : Bool) → (a || b) ≡ false → (a ≡ false) × (b ≡ false)
or_neither true b h = clash refl h
or_neither false b h = (refl, h)

pub or_left : (a b : Bool) → (a || b) ≡ false → a ≡ false
or_left a b h = (or_neither a b h).0

pub or_right : (a b : Bool) → (a || b) ≡ false → b ≡ false
or_right a b h = (or_neither a b h).1

pub neither_or : (a b : Bool) → a ≡ false → b ≡ false → (a || b) ≡ false
neither_or a b p q = ap (λ (x : Bool). x || b) p ∙ q

pub or_when_true : (a b : Bool) → a ≡ true → a ≡ (a || b)
or_when_true true b e = refl
or_when_true false b e = clash e refl

pub or_when_false : (a b : Bool) → a ≡ false → b ≡ (a || b)
or_when_false true b e = clash refl e
or_when_false false b e = refl

-- ---- different numbers, as the test says it

pub differ : (a b : ℕ) → not (eqb a b) ≡ true → a ≡ b → ⊥
differ a b h = eqb-false a b (not-true _ h)

pub differs : (a b : ℕ) → (a ≡ b → ⊥) → not (eqb a b) ≡ true
differs a b h = ap not (ne_eqb a b h)
