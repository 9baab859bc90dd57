-- An assignment satisfies lists of clauses one behind another exactly if it satisfies each, and what records give exactly if it satisfies what each record gives. Assumes nothing.
use Prim.Native.Nat.{ℕ, zero, suc, ◌+◌, ◌≤◌, ◌<◌}
use native.Mathlib.Omega.{arith}
use mathlib.Core.Path.{◌≡◌, subst}
use mathlib.Core.Logic.{⊎_elim}
use mathlib.Core.List.{List, [], ◌∷◌, ◌++◌}
use lib.IntN.{ℤ}
use Rattle.base.specs.Decide.{le_or}
use Rattle.literal.specs.Assignments.{Assignment, Satisfies}
use Rattle.write.specs.Gathered.{gathered}
use Rattle.write.proofs.Gathering.{gathered_every}

module _ (τ : Assignment) where
  pub satisfies_both : (xs ys : List (List ℤ)) → Satisfies τ xs → Satisfies τ ys → Satisfies τ (xs ++ ys)
  unfolding Satisfies
  satisfies_both [] ys a b = b
  satisfies_both (c ∷ xs) ys a b = (a.0, satisfies_both xs ys a.1 b)

  pub satisfies_each : (xs ys : List (List ℤ)) → Satisfies τ (xs ++ ys) → Satisfies τ xs × Satisfies τ ys
  unfolding Satisfies
  satisfies_each [] ys s = (tt, s)
  satisfies_each (c ∷ xs) ys s = let r = satisfies_each xs ys s.1 in ((s.0, r.0), r.1)

  pub gathered_satisfies : (f : ℕ → List (List ℤ)) (n : ℕ) → ((k : ℕ) → k < n → Satisfies τ (f k)) → Satisfies τ (gathered f n 0)
  unfolding Satisfies
  gathered_satisfies f n each = gathered_every (Satisfies τ) tt satisfies_both f n n 0 (omega arith) each

  from_record : (f : ℕ → List (List ℤ)) (m i : ℕ) → Satisfies τ (gathered f m i) → (k : ℕ) → i ≤ k → k < i + m → Satisfies τ (f k)
  unfolding gathered
  from_record f zero i s k a b = absurd (omega arith)
  from_record f (suc m) i s k a b = ⊎_elim
      (λ (h : k ≤ i). let e : i ≡ k = omega arith in subst (λ (j : ℕ). Satisfies τ (f j)) e (satisfies_each (f i) (gathered f m (suc i)) s).0)
      (λ (h : i < k). from_record f m (suc i) (satisfies_each (f i) (gathered f m (suc i)) s).1 k (omega arith) (omega arith))
      (le_or k i)

  pub satisfies_gathered : (f : ℕ → List (List ℤ)) (n : ℕ) → Satisfies τ (gathered f n 0) → (k : ℕ) → k < n → Satisfies τ (f k)
  satisfies_gathered f n s k h = from_record f n 0 s k (omega arith) (omega arith)
