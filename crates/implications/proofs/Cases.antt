-- Examples by computation: "A literal's edges are taken in clause order." Slots 0 .. 5 are 1, -1, 2, -2, 3, -3. Assumes nothing.
use mathlib.Core.Path.{◌≡◌, refl}
use mathlib.Core.List.{[], ◌∷◌, map}
use Rattle.literal.specs.Literals.{twin}
use Rattle.implications.specs.Edges.{outs}
use Rattle.implications.specs.Clauses.{froms, tos, implications}

-- P4, (-1 3)(-1 2)(-2 3), and a clause of three literals, which gives no edge
clause_order : map (implications ((1 ∷ 4 ∷ []) ∷ (1 ∷ 2 ∷ []) ∷ (3 ∷ 4 ∷ []) ∷ (0 ∷ 2 ∷ 4 ∷ []) ∷ [])) (0 ∷ 1 ∷ 2 ∷ 3 ∷ 4 ∷ 5 ∷ [])
    ≡ (4 ∷ 2 ∷ []) ∷ [] ∷ (4 ∷ []) ∷ (1 ∷ []) ∷ [] ∷ (1 ∷ 3 ∷ []) ∷ []
unfolding outs froms tos twin
clause_order = refl
