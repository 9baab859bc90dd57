-- Examples by computation, on P6's stamps: 1 is [1,8], 2 [2,5], −1 [3,4], −2 [6,7], all in the tree of 1. Assumes nothing.
use mathlib.Core.Path.{◌≡◌, refl}
use mathlib.Core.Bool.{true, false}
use mathlib.Core.List.{List, [], ◌∷◌}
use lib.IntN.{ℤ, pos, negsuc}
use Rattle.base.specs.Lists.{first, any_below, evens, odds}
use Rattle.literal.specs.Literals.{twin}
use Rattle.walk.specs.Walk.{Stamps}
use Rattle.stamp_columns.specs.Columns.{columns}
use Rattle.hidden.specs.Hidden.{holds}
use Rattle.hidden.specs.Failed.{same_start, holds_both, lowest, failed_slot}
use Rattle.failed.specs.Failed.{Found, found, failed_at, failed_from}

stamped : Stamps
stamped = columns (1 ∷ 8 ∷ 3 ∷ 4 ∷ 2 ∷ 5 ∷ 6 ∷ 7 ∷ []) (pos 1 ∷ pos 1 ∷ pos 2 ∷ pos 1 ∷ pos 1 ∷ pos 1 ∷ pos 1 ∷ pos 1 ∷ [])

abbrev from : List ℤ → Found
from variables = failed_from stamped 4 2 0 (found variables 0 false)

-- 1 has failed for both variables: one value is set, and the second time it is there already
one_value : from (pos 1 ∷ pos 0 ∷ pos 2 ∷ pos 0 ∷ []) ≡ found (pos 1 ∷ negsuc 0 ∷ pos 2 ∷ pos 0 ∷ []) 1 false
unfolding stamped first any_below evens odds twin holds same_start holds_both lowest failed_slot failed_at failed_from
one_value = refl

already : from (pos 1 ∷ negsuc 0 ∷ pos 2 ∷ pos 0 ∷ []) ≡ found (pos 1 ∷ negsuc 0 ∷ pos 2 ∷ pos 0 ∷ []) 0 false
unfolding stamped first any_below evens odds twin holds same_start holds_both lowest failed_slot failed_at failed_from
already = refl

opposite : from (pos 1 ∷ pos 1 ∷ pos 2 ∷ pos 0 ∷ []) ≡ found (pos 1 ∷ pos 1 ∷ pos 2 ∷ pos 0 ∷ []) 0 true
unfolding stamped first any_below evens odds twin holds same_start holds_both lowest failed_slot failed_at failed_from
opposite = refl
