-- The slots of a clause's literals, put into a table one by one. Assumes nothing.
use Prim.Native.Nat.{ℕ, ◌≤◌, ◌<◌}
use native.Mathlib.Omega.{arith}
use mathlib.Core.Path.{◌≡◌}
use mathlib.Core.List.{List, ◌++◌, map}
use lib.ListN.{length, take, drop}
use lib.IntN.{ℤ, neg_ℤ, nat_abs}
use Rattle.literal.specs.Literals.{Literal, Small}
use Rattle.literal.proofs.Signed.{abs_neg, small_neg}

-- ---- a function of each element, put into another table

pub record Mapping {A : Type 0} (f : A → ℕ) (d : A) (xs : List A) (out : List ℕ) (i : ℕ) : Type 0 where
  pub within : i ≤ length xs
  pub same : length out ≡ length xs
  pub left : map f xs ≡ take i out ++ map f (drop i xs)

-- ---- a literal and its complement

module _ {z : ℤ} (L : Literal 1024 z) where
  pub literal_small : Small z
  literal_small = record { small = omega (arith, L.within) }

  pub literal_neg : (0 < nat_abs (neg_ℤ z)) × Small (neg_ℤ z)
  literal_neg = (omega (arith, abs_neg z, L.above), small_neg literal_small)
