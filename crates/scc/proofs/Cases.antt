-- Worked cases, by computation: the definitions are programs.
-- Assumes nothing.
use Prim.Native.Nat.{ℕ}
use mathlib.Core.Path.{◌≡◌, refl}
use mathlib.Core.Bool.{true, false}
use mathlib.Core.List.{List, [], ◌∷◌, map}
use Rattle.walk.specs.Walk.{Stamps, arrive, leave, edge, edges, enters, start_walk}
use Rattle.walk.specs.Compressed.{stamps}
use Rattle.literal.specs.Literals.{twin}
use Rattle.implications.specs.Edges.{outs}
use Rattle.implications.specs.Clauses.{froms, tos, implications}
use Rattle.scc.specs.Groups.{reaches, connected, least_mutual}
use Rattle.scc.specs.Forward.{forward}
use Rattle.base.specs.Lists.{first}

-- the representatives of the slots of a list, in the graph of clauses on slots
abbrev reps : List (List ℕ) → ℕ → List ℕ → List ℕ
reps cs size slots = map (least_mutual (implications cs) size) slots

-- P9: (2 3)(-3 -1)(1 2)(-2 4)(-4 1) has the groups 1 2 -3 4 and -1 -2 3 -4; slots 0 .. 7 are 1 -1 2 -2 3 -3 4 -4
p9 : reps ((2 ∷ 4 ∷ []) ∷ (5 ∷ 1 ∷ []) ∷ (0 ∷ 2 ∷ []) ∷ (3 ∷ 6 ∷ []) ∷ (7 ∷ 0 ∷ []) ∷ []) 8 (0 ∷ 1 ∷ 2 ∷ 3 ∷ 4 ∷ 5 ∷ 6 ∷ 7 ∷ []) ≡ 0 ∷ 1 ∷ 0 ∷ 1 ∷ 1 ∷ 0 ∷ 0 ∷ 1 ∷ []
unfolding arrive leave edge edges enters start_walk twin outs froms tos reaches connected first least_mutual
p9 = refl

-- P7: (-1 2)(-2 1)
p7 : reps ((1 ∷ 2 ∷ []) ∷ (3 ∷ 0 ∷ []) ∷ []) 4 (0 ∷ 1 ∷ 2 ∷ 3 ∷ []) ≡ 0 ∷ 1 ∷ 0 ∷ 1 ∷ []
unfolding arrive leave edge edges enters start_walk twin outs froms tos reaches connected first least_mutual
p7 = refl

-- P8: (1 2)(1 -2)(-1 2)(-1 -2): all four in one group
p8 : reps ((0 ∷ 2 ∷ []) ∷ (0 ∷ 3 ∷ []) ∷ (1 ∷ 2 ∷ []) ∷ (1 ∷ 3 ∷ []) ∷ []) 4 (0 ∷ 1 ∷ 2 ∷ 3 ∷ []) ≡ 0 ∷ 0 ∷ 0 ∷ 0 ∷ []
unfolding arrive leave edge edges enters start_walk twin outs froms tos reaches connected first least_mutual
p8 = refl

-- P2's discoveries and finishes; slots 0 .. 5 are 1 -1 2 -2 3 -3
unfoldable stamped : Stamps
stamped = stamps 12 (1 ∷ 9 ∷ 2 ∷ 8 ∷ 3 ∷ 7 ∷ []) (6 ∷ 10 ∷ 5 ∷ 11 ∷ 4 ∷ 12 ∷ []) [] []

-- P2's edges 1 → 2, -2 → -1, 2 → 3, -3 → -2 all go forward; a graph with the edge 3 → 1 has one that goes back
p2 : (forward stamped (0 ∷ 3 ∷ 2 ∷ 5 ∷ []) (2 ∷ 1 ∷ 4 ∷ 3 ∷ []) ≡ true) × (forward stamped (0 ∷ 2 ∷ 4 ∷ []) (2 ∷ 4 ∷ 0 ∷ []) ≡ false)
unfolding stamped forward
p2 = (refl, refl)
