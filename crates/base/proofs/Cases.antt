-- Examples of the functions on lists, by computation. Assumes nothing.
use Prim.Native.Nat.{ℕ}
use mathlib.Core.Path.{◌≡◌, refl}
use mathlib.Core.Bool.{true, false}
use mathlib.Core.List.{[], ◌∷◌}
use lib.Dec.{eqb, ltb}
use Rattle.base.specs.Lists.{any, filter, absent, first, any_below, all_below, same_list, numbers, turned, evens, odds, interleave}

tests : (any (ltb 4) (3 ∷ 5 ∷ []) ≡ true) × (any (ltb 5) (3 ∷ 5 ∷ []) ≡ false) × (filter (ltb 2) (3 ∷ 1 ∷ 4 ∷ []) ≡ 3 ∷ 4 ∷ []) × (absent 3 (1 ∷ 3 ∷ []) ≡ false) × (absent 2 (1 ∷ 3 ∷ []) ≡ true)
unfolding any filter absent
tests = (refl, refl, refl, refl, refl)

below : (first (ltb 6) 9 5 ≡ 7) × (first (ltb 9) 3 5 ≡ 8) × (any_below 3 (ltb 1) ≡ true) × (any_below 3 (ltb 2) ≡ false) × (all_below 3 (λ i. ltb i 3) ≡ true) × (all_below 3 (λ i. ltb 0 i) ≡ false)
unfolding first any_below all_below
below = (refl, refl, refl, refl, refl, refl)

lists : (same_list eqb (1 ∷ 2 ∷ []) (1 ∷ 2 ∷ []) ≡ true) × (same_list eqb (1 ∷ 2 ∷ []) (1 ∷ []) ≡ false) × (turned 1 (numbers 4 3) ≡ 5 ∷ 6 ∷ 4 ∷ [])
unfolding same_list numbers turned
lists = (refl, refl, refl)

records : (interleave {A = ℕ} (1 ∷ 3 ∷ []) (2 ∷ 4 ∷ []) ≡ 1 ∷ 2 ∷ 3 ∷ 4 ∷ []) × (evens {A = ℕ} (1 ∷ 2 ∷ 3 ∷ []) ≡ 1 ∷ 3 ∷ []) × (odds {A = ℕ} (1 ∷ 2 ∷ 3 ∷ []) ≡ 2 ∷ [])
unfolding evens odds interleave
records = (refl, refl, refl)
