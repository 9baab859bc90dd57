-- What the functions on a clause ask, from what the call has of it. Assumes nothing.
use Prim.Native.Nat.{ℕ}
use native.Mathlib.Omega.{arith}
use mathlib.Core.List.{List}
use lib.IntN.{ℤ}
use Rattle.explain.specs.Asking.{Timed, Clause}

module _ {times : List ℕ} {links C : List ℤ} (K : Clause times links C) where
  pub clause_timed : Timed times C
  clause_timed = record { long = K.long; lits = record { each = λ k lt. record { above = (K.each k lt).above; within = omega (arith, (K.each k lt).within, K.stamped.few) } } }
