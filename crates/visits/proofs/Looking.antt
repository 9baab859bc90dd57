-- Looking for the first unsettled clause: a literal with a valued variable, a clause, and the search. Assumes nothing.
use Prim.Native.Nat.{ℕ, suc, ◌+◌, ◌-◌, ◌≤◌, ◌<◌}
use native.Mathlib.Numerals.{add-one}
use native.Mathlib.Omega.{arith}
use mathlib.Core.Path.{◌≡◌, sym, ap, ◌∙◌}
use mathlib.Core.Bool.{Bool, true, false, ◌&&◌, ◌||◌}
use lib.Dec.{eqb}
use borrow.Author.Tests.{eq-eqb, ne_eqb}
use Rattle.base.specs.Lists.{any, first}
use Rattle.tables.specs.Tables.{Tables, length_of, standing}
use Rattle.tables.specs.Clauses.{literals_of}
use Rattle.tables.specs.Passes.{valued, unsettled, first_unsettled}

-- ---- one clause

module _ (t : Tables) (i : ℕ) where
  pub dropped_settled : (standing t.clauses i ≡ 1 → ⊥) → false ≡ unsettled t i
  dropped_settled d = sym (ap (λ (b : Bool). b && (eqb (length_of t.clauses i) 1 || any (valued t.variables) (literals_of t.clauses t.literals i))) (ne_eqb (standing t.clauses i) 1 d))

  by_flag : standing t.clauses i ≡ 1 → unsettled t i ≡ (eqb (length_of t.clauses i) 1 || any (valued t.variables) (literals_of t.clauses t.literals i))
  by_flag e = ap (λ (b : Bool). b && (eqb (length_of t.clauses i) 1 || any (valued t.variables) (literals_of t.clauses t.literals i))) (eq-eqb (standing t.clauses i) 1 e)

  pub unit_unsettled : standing t.clauses i ≡ 1 → length_of t.clauses i ≡ 1 → true ≡ unsettled t i
  unit_unsettled e o = sym (by_flag e ∙ ap (λ (b : Bool). b || any (valued t.variables) (literals_of t.clauses t.literals i)) (eq-eqb (length_of t.clauses i) 1 o))

  pub valued_unsettled : standing t.clauses i ≡ 1 → (length_of t.clauses i ≡ 1 → ⊥) → any (valued t.variables) (literals_of t.clauses t.literals i) ≡ unsettled t i
  valued_unsettled e o = sym (by_flag e ∙ ap (λ (b : Bool). b || any (valued t.variables) (literals_of t.clauses t.literals i)) (ne_eqb (length_of t.clauses i) 1 o))

-- ---- the search

-- no clause before i is unsettled: what the rest gives is what the whole gives
abbrev pub FoundFrom : Tables → ℕ → ℕ → Type 0
FoundFrom t n i = first (unsettled t) (n - i) i ≡ first_unsettled t n

pub found_none : (t : Tables) (n : ℕ) → FoundFrom t n 0
unfolding first_unsettled
found_none t n = ap (λ (m : ℕ). first (unsettled t) m 0) (let e : n - 0 ≡ n = omega arith in e)

first_at : (q : ℕ → Bool) (m i : ℕ) (b : Bool) → q i ≡ b → first q (suc m) i ≡ elim b as (λ x. ℕ) [ true ↦ i | false ↦ first q m (suc i) ]
unfolding first
first_at q m i b e = ap (λ (x : Bool). elim x as (λ y. ℕ) [ true ↦ i | false ↦ first q m (suc i) ]) e

module _ (t : Tables) (n i : ℕ) (lt : i < n) (F : FoundFrom t n i) where
  more : n - i ≡ suc (n - (i + 1))
  more = omega arith

  pub found_here : true ≡ unsettled t i → i ≡ first_unsettled t n
  found_here e = sym (first_at (unsettled t) (n - (i + 1)) i true (sym e)) ∙ sym (ap (λ (m : ℕ). first (unsettled t) m i) more) ∙ F

  pub found_next : false ≡ unsettled t i → FoundFrom t n (i + 1)
  found_next e =
      ap (λ (k : ℕ). first (unsettled t) (n - (i + 1)) k) (add-one i) ∙ sym (first_at (unsettled t) (n - (i + 1)) i false (sym e)) ∙ sym (ap (λ (m : ℕ). first (unsettled t) m i) more) ∙ F

pub found_end : (t : Tables) (n i : ℕ) → i ≤ n → n ≤ i → FoundFrom t n i → n ≡ first_unsettled t n
unfolding first
found_end t n i a b F = let e : n ≡ i = omega arith in e ∙ sym (ap (λ (m : ℕ). first (unsettled t) m i) (let z : n - i ≡ 0 = omega arith in z)) ∙ F
