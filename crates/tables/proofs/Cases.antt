-- Examples by computation: truth through a class, a value set at the class literal, what each fate leaves in the tables, counts. Assumes nothing.
use mathlib.Core.Path.{◌≡◌, refl}
use mathlib.Core.List.{List, [], ◌∷◌, map}
use lib.IntN.{ℤ, pos, negsuc}
use Rattle.base.specs.Lists.{any, first}
use Rattle.tables.specs.Tables.{Tables, tables}
use Rattle.tables.specs.Values.{class_literal, class_value, truth, set_true}
use Rattle.tables.specs.Clauses.{gone, standing_count, literal_count}
use Rattle.tables.specs.Fates.{Fate, kept, left, dropped, unit, conflict, shortened, dropped_at, store, fate_at, visits}
use Rattle.tables.specs.Passes.{first_unsettled}

-- classes 1, -1, 3; 1 is false
variables : List ℤ
variables = pos 1 ∷ negsuc 0 ∷ negsuc 0 ∷ pos 0 ∷ pos 3 ∷ pos 0 ∷ []

through_classes : (map (class_literal variables) (pos 2 ∷ negsuc 1 ∷ pos 3 ∷ []) ≡ negsuc 0 ∷ pos 1 ∷ pos 3 ∷ [])
    × (map (truth variables) (pos 1 ∷ negsuc 0 ∷ pos 2 ∷ negsuc 1 ∷ pos 3 ∷ []) ≡ negsuc 0 ∷ pos 1 ∷ pos 1 ∷ negsuc 0 ∷ pos 0 ∷ [])
    × (map (class_value variables) (1 ∷ 2 ∷ 3 ∷ []) ≡ negsuc 0 ∷ pos 1 ∷ pos 0 ∷ [])
unfolding variables
through_classes = (refl, refl, refl)

-- 2 made true sets the value at its class literal, -1
set_at_class : set_true (pos 1 ∷ pos 0 ∷ negsuc 0 ∷ pos 0 ∷ []) (pos 2) ≡ pos 1 ∷ negsuc 0 ∷ negsuc 0 ∷ pos 0 ∷ []
set_at_class = refl

-- (1 2 3)(-1 3)
given : Tables
given = tables (0 ∷ 3 ∷ 1 ∷ 3 ∷ 2 ∷ 1 ∷ []) (pos 1 ∷ pos 2 ∷ pos 3 ∷ negsuc 0 ∷ pos 3 ∷ []) (pos 1 ∷ pos 0 ∷ pos 2 ∷ pos 0 ∷ pos 3 ∷ pos 0 ∷ []) [] []

abbrev stored : Fate → Tables
stored f = store 0 f given

fates : (stored kept ≡ given)
    × (stored (left (pos 1 ∷ pos 3 ∷ [])) ≡ tables (0 ∷ 2 ∷ 1 ∷ 3 ∷ 2 ∷ 1 ∷ []) (pos 1 ∷ pos 3 ∷ pos 0 ∷ negsuc 0 ∷ pos 3 ∷ []) given.variables [] [])
    × (stored dropped ≡ tables (0 ∷ 0 ∷ 0 ∷ 3 ∷ 2 ∷ 1 ∷ []) (pos 0 ∷ pos 0 ∷ pos 0 ∷ negsuc 0 ∷ pos 3 ∷ []) given.variables [] [])
    × (stored (unit (negsuc 1)) ≡ tables (0 ∷ 0 ∷ 0 ∷ 3 ∷ 2 ∷ 1 ∷ []) (pos 0 ∷ pos 0 ∷ pos 0 ∷ negsuc 0 ∷ pos 3 ∷ []) (pos 1 ∷ pos 0 ∷ pos 2 ∷ negsuc 0 ∷ pos 3 ∷ pos 0 ∷ []) [] [])
    × (stored conflict ≡ tables (0 ∷ 0 ∷ 1 ∷ 3 ∷ 2 ∷ 1 ∷ []) (pos 0 ∷ pos 0 ∷ pos 0 ∷ negsuc 0 ∷ pos 3 ∷ []) given.variables [] [])
unfolding given shortened dropped_at
fates = (refl, refl, refl, refl, refl)

-- visits go on from clause to clause; the counts are those standing before minus those standing after
visited : (gone 2 2 given.clauses (visits (λ C. dropped) 2 0 given).clauses ≡ record { visits = 2; clauses = 2; literals = 5 })
    × (gone 2 2 given.clauses (visits (λ C. left (pos 3 ∷ [])) 2 0 given).clauses ≡ record { visits = 2; clauses = 0; literals = 3 })
unfolding given shortened dropped_at fate_at visits standing_count literal_count
visited = (refl, refl)

-- refusal 6: the second clause has one literal; the first has a valued variable
settledness : (first_unsettled (tables (0 ∷ 2 ∷ 1 ∷ 2 ∷ 1 ∷ 1 ∷ []) (pos 1 ∷ pos 2 ∷ pos 3 ∷ []) (pos 1 ∷ pos 0 ∷ pos 2 ∷ pos 0 ∷ pos 3 ∷ pos 0 ∷ []) [] []) 2 ≡ 1)
    × (first_unsettled (tables (0 ∷ 2 ∷ 1 ∷ 2 ∷ 1 ∷ 1 ∷ []) (pos 1 ∷ pos 2 ∷ pos 3 ∷ []) (pos 1 ∷ pos 0 ∷ pos 2 ∷ pos 1 ∷ pos 3 ∷ pos 0 ∷ []) [] []) 2 ≡ 0)
    × (first_unsettled given 2 ≡ 2)
unfolding given any first first_unsettled
settledness = (refl, refl, refl)
