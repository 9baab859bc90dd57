-- Examples by computation, on P2's stamps: 1 is [1,6], 2 [2,5], 3 [3,4], −3 [7,12], −2 [8,11], −1 [9,10], 4 [13,14], −4 [15,16]. Assumes nothing.
use mathlib.Core.Path.{◌≡◌, refl}
use mathlib.Core.List.{[], ◌∷◌}
use lib.IntN.{pos, negsuc}
use Rattle.base.specs.Lists.{any, filter, evens, odds}
use Rattle.literal.specs.Literals.{twin}
use Rattle.walk.specs.Walk.{Stamps}
use Rattle.stamp_columns.specs.Columns.{columns}
use Rattle.hidden.specs.Hidden.{holds, insert, by_discovery, scan_at, scan, figure6, transitive, hidden_pair, hidden_tautology, unhidden, shorten}
use Rattle.tables.specs.Fates.{kept, left, dropped}
use Rattle.sweep_visits.specs.Clause.{sweep_clause}

stamped : Stamps
stamped =
    columns (1 ∷ 6 ∷ 9 ∷ 10 ∷ 2 ∷ 5 ∷ 8 ∷ 11 ∷ 3 ∷ 4 ∷ 7 ∷ 12 ∷ 13 ∷ 14 ∷ 15 ∷ 16 ∷ [])
    (pos 1 ∷ pos 1 ∷ negsuc 1 ∷ negsuc 2 ∷ pos 1 ∷ pos 1 ∷ negsuc 2 ∷ negsuc 2 ∷ pos 2 ∷ pos 1 ∷ negsuc 2 ∷ negsuc 2 ∷ pos 4 ∷ pos 4 ∷ negsuc 3 ∷ negsuc 3 ∷ [])

-- P2's clauses: the pairs stay, 1 implies 3; (-1 3) is implied by way of 2, and so is a longer clause with both; units are left
fates : (sweep_clause stamped (negsuc 0 ∷ pos 2 ∷ []) ≡ left (negsuc 0 ∷ pos 2 ∷ [])) × (sweep_clause stamped (pos 1 ∷ pos 3 ∷ pos 4 ∷ []) ≡ left (pos 3 ∷ pos 4 ∷ []))
    × (sweep_clause stamped (negsuc 0 ∷ pos 3 ∷ []) ≡ dropped) × (sweep_clause stamped (pos 4 ∷ pos 3 ∷ negsuc 0 ∷ []) ≡ dropped) × (sweep_clause stamped (pos 4 ∷ []) ≡ kept)
    × (sweep_clause stamped (negsuc 2 ∷ pos 4 ∷ negsuc 0 ∷ []) ≡ left (pos 4 ∷ negsuc 0 ∷ []))
unfolding stamped any filter evens odds twin holds insert by_discovery scan_at scan figure6 transitive hidden_pair hidden_tautology unhidden shorten sweep_clause
fates = (refl, refl, refl, refl, refl, refl)
