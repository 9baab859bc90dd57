-- Whether a clause of a number stands, as the code asks it. Assumes nothing.
use Prim.Native.Nat.{ℕ, zero, suc, ◌+◌, ◌*◌, ◌-◌, ◌≤◌, ◌<◌}
use native.Mathlib.Omega.{arith}
use mathlib.Core.Path.{◌≡◌, refl, sym, ap, ◌∙◌}
use mathlib.Core.Bool.{Bool, true, false, not, false≢true}
use mathlib.Core.List.{List}
use lib.ListN.{get_or}
use lib.Dec.{eqb, leb}
use borrow.Author.Tests.{le-leb, lt-leb, leb-true, ne_eqb}
use Rattle.tables.specs.Tables.{standing}
use Rattle.explain.specs.Explain.{stands_by, stands}

pub none_stands : (number n : ℕ) (clauses : List ℕ) → number ≡ 0 → false ≡ stands number n clauses
unfolding stands
none_stands zero n clauses e = refl
none_stands (suc k) n clauses e = absurd (omega arith)

pub beyond_stands : (number n : ℕ) (clauses : List ℕ) → n < number → false ≡ stands number n clauses
unfolding stands
beyond_stands zero n clauses h = refl
beyond_stands (suc k) n clauses h = sym (rw (lt-leb (suc k) n h, stands))

flag_stands : (x : ℕ) → not (eqb x 0) ≡ stands_by x
flag_stands zero = refl
flag_stands (suc x) = ap not (ne_eqb (suc x) 0 (λ e. omega (arith, e)))

pub flag_told : (number n : ℕ) (clauses : List ℕ) → 0 < number → number ≤ n → not (eqb (get_or clauses (3 * number - 1) 0) 0) ≡ stands number n clauses
unfolding stands
flag_told zero n clauses h le = absurd (omega arith)
flag_told (suc k) n clauses h le =
    let e : 3 * suc k - 1 ≡ 3 * k + 2 = omega arith in
    ap (λ (i : ℕ). not (eqb (get_or clauses i 0) 0)) e ∙ flag_stands (standing clauses k) ∙ sym (rw (le-leb (suc k) n le, stands))

-- a clause that stands has a number from 1 to n, and its record says so
pub record Stands (number n : ℕ) (clauses : List ℕ) : Type 0 where
  pub above : 0 < number
  pub within : number ≤ n
  pub flag : 0 < standing clauses (number - 1)

pub stands_true : (number n : ℕ) (clauses : List ℕ) → stands number n clauses ≡ true → Stands number n clauses
unfolding stands
stands_true zero n clauses e = absurd (false≢true e)
stands_true (suc k) n clauses e = go (leb (suc k) n) refl (standing clauses k) refl e
  where
    go : (b : Bool) → leb (suc k) n ≡ b → (x : ℕ) → standing clauses k ≡ x → elim b as (λ z. Bool) [ true ↦ stands_by x | false ↦ false ] ≡ true → Stands (suc k) n clauses
    go true le zero x h = absurd (false≢true h)
    go true le (suc y) x h =
        let q : suc k - 1 ≡ k = omega arith in
        record { above = omega arith; within = leb-true (suc k) n le; flag = omega (arith, x, ap (standing clauses) q) }
    go false le x y h = absurd (false≢true h)
