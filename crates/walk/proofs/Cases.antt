-- The walks of P2 and P6 of document 01, by computation. Assumes nothing.
use Prim.Native.Nat.{ℕ}
use mathlib.Core.Path.{◌≡◌, refl}
use mathlib.Core.List.{List, [], ◌∷◌}
use lib.ListN.{length, replicate}
use Rattle.walk.specs.Walk.{Stamps, arrive, leave, edge, edges, enters, start_walk, stamp_all}
use Rattle.base.specs.Lists.{absent, filter}
use Rattle.walk.specs.Compressed.{adj_of, stamps}

run : List ℕ → List ℕ → List ℕ → Stamps
run offsets targets order =
    let z : List ℕ = replicate (length order) 0 in
    stamp_all (adj_of offsets targets) (λ q. absent q targets) order (stamps 0 z z z z)

p2 : run (0 ∷ 1 ∷ 1 ∷ 2 ∷ 3 ∷ 3 ∷ 4 ∷ 4 ∷ 4 ∷ []) (2 ∷ 4 ∷ 1 ∷ 3 ∷ []) (0 ∷ 1 ∷ 2 ∷ 3 ∷ 4 ∷ 5 ∷ 6 ∷ 7 ∷ [])
    ≡ stamps 16 (1 ∷ 9 ∷ 2 ∷ 8 ∷ 3 ∷ 7 ∷ 13 ∷ 15 ∷ []) (6 ∷ 10 ∷ 5 ∷ 11 ∷ 4 ∷ 12 ∷ 14 ∷ 16 ∷ []) (0 ∷ 3 ∷ 0 ∷ 5 ∷ 2 ∷ 5 ∷ 6 ∷ 7 ∷ []) (0 ∷ 5 ∷ 0 ∷ 5 ∷ 0 ∷ 5 ∷ 6 ∷ 7 ∷ [])
unfolding run stamp_all start_walk enters edges edge arrive leave absent filter adj_of
p2 = refl

p6 : run (0 ∷ 2 ∷ 2 ∷ 3 ∷ 4 ∷ []) (2 ∷ 3 ∷ 1 ∷ 1 ∷ []) (0 ∷ 1 ∷ 2 ∷ 3 ∷ [])
    ≡ stamps 8 (1 ∷ 3 ∷ 2 ∷ 6 ∷ []) (8 ∷ 4 ∷ 5 ∷ 7 ∷ []) (0 ∷ 2 ∷ 0 ∷ 0 ∷ []) (0 ∷ 0 ∷ 0 ∷ 0 ∷ [])
unfolding run stamp_all start_walk enters edges edge arrive leave absent filter adj_of
p6 = refl
