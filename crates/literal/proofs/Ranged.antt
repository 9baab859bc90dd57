-- Laws of clauses whose literals are in range: among more variables, behind other clauses, and how many literals they have together. Assumes nothing.
use Prim.Native.Nat.{ℕ, ◌+◌, ◌≤◌}
use native.Mathlib.Omega.{arith}
use mathlib.Core.Path.{◌≡◌}
use mathlib.Core.List.{List, [], ◌∷◌, ◌++◌}
use lib.IntN.{ℤ}
use Rattle.literal.specs.Ranged.{InClause, InClauses, total}

in_more : (v w : ℕ) (c : List ℤ) → v ≤ w → InClause v c → InClause w c
unfolding InClause
in_more v w [] h I = tt
in_more v w (l ∷ c) h I = (I.0, (omega (arith, I.1.0, h), in_more v w c h I.1.1))

pub in_all : (v w : ℕ) (cs : List (List ℤ)) → v ≤ w → InClauses v cs → InClauses w cs
unfolding InClauses
in_all v w [] h I = tt
in_all v w (c ∷ cs) h I = (in_more v w c h I.0, in_all v w cs h I.1)

pub in_append : (v : ℕ) (xs ys : List (List ℤ)) → InClauses v xs → InClauses v ys → InClauses v (xs ++ ys)
unfolding InClauses
in_append v [] ys a b = b
in_append v (c ∷ xs) ys a b = (a.0, in_append v xs ys a.1 b)

pub total_append : (xs ys : List (List ℤ)) → total (xs ++ ys) ≡ total xs + total ys
unfolding total
total_append [] ys = omega arith
total_append (c ∷ xs) ys = omega (arith, total_append xs ys)
