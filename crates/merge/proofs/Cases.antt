-- Examples by computation: classes of groups, older classes, and the fate of a clause. Assumes nothing.
use mathlib.Core.Path.{◌≡◌, refl}
use mathlib.Core.Bool.{true, false}
use mathlib.Core.List.{List, [], ◌∷◌}
use lib.IntN.{ℤ, pos, negsuc}
use Rattle.base.specs.Lists.{first, any_below}
use Rattle.literal.specs.Literals.{twin}
use Rattle.walk.specs.Walk.{arrive, leave, edge, edges, enters, start_walk}
use Rattle.implications.specs.Edges.{outs}
use Rattle.implications.specs.Clauses.{froms, tos, implications}
use Rattle.scc.specs.Groups.{reaches, connected, least_mutual}
use Rattle.tables.specs.Tables.{Tables, tables}
use Rattle.tables.specs.Clauses.{slots_at, slots_from}
use Rattle.tables.specs.Fates.{left, dropped}
use Rattle.merge.specs.Merge.{clashes, representative, regrouped, merged_classes}
use Rattle.merge_visits.specs.Clause.{merge_clause}

-- (2 3)(-2 -3) over 1, 2, 3, 4, where the class of 4 is 3 already: 3 becomes -2, and so does 4
given : Tables
given = tables (0 ∷ 2 ∷ 1 ∷ 2 ∷ 2 ∷ 1 ∷ []) (pos 2 ∷ pos 3 ∷ negsuc 1 ∷ negsuc 2 ∷ []) (pos 1 ∷ pos 1 ∷ pos 2 ∷ pos 0 ∷ pos 3 ∷ pos 0 ∷ pos 3 ∷ pos 0 ∷ pos 7 ∷ []) [] []

classes : (merged_classes 4 2 given).variables ≡ pos 1 ∷ pos 1 ∷ pos 2 ∷ pos 0 ∷ negsuc 1 ∷ pos 0 ∷ negsuc 1 ∷ pos 0 ∷ pos 7 ∷ []
unfolding given first twin arrive leave edge edges enters start_walk outs froms tos reaches connected least_mutual slots_at slots_from representative regrouped merged_classes
classes = refl

-- 1 and -1 share a group exactly with all four clauses of P8
clash : (clashes (implications ((0 ∷ 2 ∷ []) ∷ (0 ∷ 3 ∷ []) ∷ (1 ∷ 2 ∷ []) ∷ (1 ∷ 3 ∷ []) ∷ [])) 2 ≡ true)
    × (clashes (implications ((0 ∷ 2 ∷ []) ∷ (0 ∷ 3 ∷ []) ∷ (1 ∷ 2 ∷ []) ∷ [])) 2 ≡ false)
unfolding any_below twin arrive leave edge edges enters start_walk outs froms tos reaches connected clashes
clash = (refl, refl)

-- classes 1, -1, 3
variables : List ℤ
variables = pos 1 ∷ pos 0 ∷ negsuc 0 ∷ pos 0 ∷ pos 3 ∷ pos 0 ∷ []

fates : (merge_clause variables (pos 3 ∷ negsuc 1 ∷ pos 1 ∷ []) ≡ left (pos 3 ∷ pos 1 ∷ [])) × (merge_clause variables (pos 2 ∷ pos 3 ∷ pos 1 ∷ []) ≡ dropped)
    × (merge_clause variables (pos 3 ∷ pos 1 ∷ []) ≡ left (pos 3 ∷ pos 1 ∷ []))
unfolding variables merge_clause
fates = (refl, refl, refl)
