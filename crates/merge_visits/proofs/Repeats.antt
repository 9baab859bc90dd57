-- Laws of a clause without repeats: if its literals are their own classes and no variable has both signs, it is what the shape rule asks. Assumes nothing.
use Prim.Native.Nat.{ℕ, zero, suc}
use native.Mathlib.Omega.{arith}
use mathlib.Core.Path.{◌≡◌, sym, ap, ◌∙◌}
use mathlib.Core.Bool.{Bool, false, false≢true}
use mathlib.Core.Logic.{◌⊎◌, inl, inr, ⊎_elim}
use mathlib.Core.List.{List, [], ◌∷◌}
use lib.ListN.{get_or}
use lib.IntN.{ℤ, pos, negsuc, neg_ℤ, nat_abs}
use Rattle.base.proofs.Booleans.{or_neither}
use Rattle.literal.specs.Literals.{Literal}
use Rattle.literal.specs.Clauses.{has, tautology}
use Rattle.literal.proofs.Distinct.{has_at}
use Rattle.repeats.specs.First.{EachOnce}
use Rattle.repeats.proofs.Repeats.{All}
use Rattle.tables.specs.Tables.{class_of}
use Rattle.visits.specs.Formed.{FitClause}
use Rattle.visits.proofs.Fitting.{FitHead, fit_none, fit_cons}

-- ---- no variable twice

-- one variable has two literals
same_variable : (x y : ℤ) → nat_abs x ≡ nat_abs y → (y ≡ x) ⊎ (y ≡ neg_ℤ x)
same_variable (pos a) (pos b) e = inl (ap pos (sym e))
same_variable (pos zero) (negsuc b) e = absurd (omega (arith, e))
same_variable (pos (suc a)) (negsuc b) e = inr (ap negsuc (omega (arith, e)))
same_variable (negsuc a) (pos b) e = inr (ap pos (sym e))
same_variable (negsuc a) (negsuc b) e = inl (ap negsuc (omega (arith, e)))

-- a literal that is in range, and whose variable is its own class
pub record Own (v : ℕ) (w : List ℤ) (x : ℤ) : Type 0 where
  pub ranged : Literal v x
  pub own : class_of w (nat_abs x) ≡ pos (nat_abs x)

-- such literals, each once and no variable with both signs, are what the shape rule asks of a clause
pub once_fits : (v : ℕ) (w : List ℤ) (b : Bool) (xs : List ℤ) → All (Own v w) xs → EachOnce xs → tautology xs ≡ false → FitClause v w b xs
once_fits v w b [] A O e = fit_none
once_fits v w b (x ∷ xs) A O e = fit_cons head (once_fits v w b xs A.1 O.1 (or_neither (has (neg_ℤ x) xs) (tautology xs) e).1)
  where
    head : FitHead v w b x xs
    head = record {
      ranged = A.0.ranged;
      apart = λ j h q.
          ⊎_elim
          (λ (s : get_or xs j (pos 0) ≡ x). false≢true (sym O.0 ∙ has_at x xs j h s))
          (λ (s : get_or xs j (pos 0) ≡ neg_ℤ x). false≢true (sym (or_neither (has (neg_ℤ x) xs) (tautology xs) e).0 ∙ has_at (neg_ℤ x) xs j h s))
          (same_variable x (get_or xs j (pos 0)) q);
      own = λ s. A.0.own;
    }
