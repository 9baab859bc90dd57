-- Examples by computation: the fate of a clause, and the visits of a whole pass. Assumes nothing.
use mathlib.Core.Path.{◌≡◌, refl}
use mathlib.Core.Bool.{true, false}
use mathlib.Core.List.{List, [], ◌∷◌}
use lib.IntN.{ℤ, pos, negsuc}
use Rattle.base.specs.Lists.{any, filter}
use Rattle.tables.specs.Tables.{Tables, tables}
use Rattle.tables.specs.Fates.{left, dropped, unit, conflict, shortened, dropped_at, fate_at}
use Rattle.propagate_visits.specs.Visits.{propagate_clause, propagate_visit, propagate_visits, going, settled, contradicted, begin, reached}

-- 1 is true, 2 is false, 3 and 4 have no value
variables : List ℤ
variables = pos 1 ∷ pos 1 ∷ pos 2 ∷ negsuc 0 ∷ pos 3 ∷ pos 0 ∷ pos 4 ∷ pos 0 ∷ []

fates : (propagate_clause variables (pos 3 ∷ pos 1 ∷ []) ≡ dropped) × (propagate_clause variables (pos 3 ∷ negsuc 1 ∷ []) ≡ dropped)
    × (propagate_clause variables (negsuc 2 ∷ pos 2 ∷ pos 4 ∷ []) ≡ left (negsuc 2 ∷ pos 4 ∷ [])) × (propagate_clause variables (negsuc 0 ∷ negsuc 2 ∷ []) ≡ unit (negsuc 2))
    × (propagate_clause variables (negsuc 0 ∷ pos 2 ∷ []) ≡ conflict)
unfolding variables any filter propagate_clause
fates = (refl, refl, refl, refl, refl)

-- (-2 1)(2): the first time through sets 2 and so changes something, the second sets 1, the third changes nothing
chain : Tables
chain = tables (0 ∷ 2 ∷ 1 ∷ 2 ∷ 1 ∷ 1 ∷ []) (negsuc 1 ∷ pos 1 ∷ pos 2 ∷ []) (pos 1 ∷ pos 0 ∷ pos 2 ∷ pos 0 ∷ []) [] []

whole : (propagate_visits 2 99 0 (begin 2 chain) ≡ reached 6 (settled (tables (0 ∷ 0 ∷ 0 ∷ 2 ∷ 0 ∷ 0 ∷ []) (pos 0 ∷ pos 0 ∷ pos 0 ∷ []) (pos 1 ∷ pos 1 ∷ pos 2 ∷ pos 1 ∷ []) [] [])))
    × (propagate_visits 2 2 0 (begin 2 chain) ≡ reached 2 (going 0 false (tables (0 ∷ 2 ∷ 1 ∷ 2 ∷ 0 ∷ 0 ∷ []) (negsuc 1 ∷ pos 1 ∷ pos 0 ∷ []) (pos 1 ∷ pos 0 ∷ pos 2 ∷ pos 1 ∷ []) [] [])))
    × (propagate_visits 2 3 0 (begin 2 chain) ≡ reached 3 (going 1 true (tables (0 ∷ 0 ∷ 0 ∷ 2 ∷ 0 ∷ 0 ∷ []) (pos 0 ∷ pos 0 ∷ pos 0 ∷ []) (pos 1 ∷ pos 1 ∷ pos 2 ∷ pos 1 ∷ []) [] [])))
unfolding chain any filter shortened dropped_at fate_at propagate_clause propagate_visit propagate_visits
whole = (refl, refl, refl)

-- (1)(-1): the second clause stands empty
clash : propagate_visits 2 99 0 (begin 2 (tables (0 ∷ 1 ∷ 1 ∷ 1 ∷ 1 ∷ 1 ∷ []) (pos 1 ∷ negsuc 0 ∷ []) (pos 1 ∷ pos 0 ∷ []) [] []))
    ≡ reached 2 (contradicted (tables (0 ∷ 0 ∷ 0 ∷ 1 ∷ 0 ∷ 1 ∷ []) (pos 0 ∷ pos 0 ∷ []) (pos 1 ∷ pos 1 ∷ []) [] []))
unfolding any filter shortened dropped_at fate_at propagate_clause propagate_visit propagate_visits
clash = refl
