-- A loop that rewrites a clause's part in place, from the front: what it has still to read is as it was. Assumes nothing.
use Prim.Native.Nat.{ℕ, ◌+◌, ◌≤◌}
use native.Mathlib.Omega.{arith}
use mathlib.Core.Path.{◌≡◌, ◌∙◌}
use mathlib.Core.List.{List}
use lib.ListN.{length, get_or, set, length-set}
use lib.Seq.{get_or-set_other}
use lib.IntN.{ℤ, pos}

-- p was p₀ when the loop began, and i is the next place to read
pub record Ahead (p₀ p : List ℤ) (i : ℕ) : Type 0 where
  pub same : length p ≡ length p₀
  pub ahead : (k : ℕ) → i ≤ k → get_or p k (pos 0) ≡ get_or p₀ k (pos 0)

module _ {p₀ p : List ℤ} {i : ℕ} (A : Ahead p₀ p i) where
  pub ahead_next : Ahead p₀ p (i + 1)
  ahead_next = record { same = A.same; ahead = λ k h. A.ahead k (omega arith) }

  -- a place that is read already is written
  pub ahead_set : (n : ℕ) → n ≤ i → (y : ℤ) → Ahead p₀ (set p n y) (i + 1)
  ahead_set n le y = record {
    same = simp length-set A.same;
    ahead = λ k h. get_or-set_other p n k y (pos 0) (λ q. omega (arith, q, h, le)) ∙ A.ahead k (omega arith);
  }
