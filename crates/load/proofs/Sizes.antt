-- How many numbers a load's records take: three for each clause, two for each variable. Assumes nothing.
use Prim.Native.Nat.{ℕ, zero, suc, ◌+◌, ◌*◌}
use native.Mathlib.Omega.{arith}
use mathlib.Core.Path.{◌≡◌, refl}
use mathlib.Core.List.{List, [], ◌∷◌}
use lib.ListN.{length}
use lib.IntN.{ℤ}
use Rattle.load.specs.Load.{kept_of, clause_records, variable_records}

pub records_length : (at : ℕ) (cs : List (List ℤ)) → length (clause_records at cs) ≡ 3 * length cs
unfolding clause_records
records_length at [] = refl
records_length at (c ∷ cs) = omega (arith, records_length (at + length (kept_of c)) cs)

pub variables_length : (w v : ℕ) → length (variable_records w v) ≡ 2 * v
unfolding variable_records
variables_length w zero = refl
variables_length w (suc v) = omega (arith, variables_length (suc w) v)
