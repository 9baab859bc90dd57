-- Examples by computation: P9 and P8 of document 01 through Settle, and the variables that are their own class. Assumes nothing.
use mathlib.Core.Path.{◌≡◌, refl}
use mathlib.Core.Bool.{true, false}
use mathlib.Core.List.{[], ◌∷◌}
use lib.IntN.{pos, negsuc}
use Rattle.base.specs.Lists.{any, filter, first, any_below}
use Rattle.literal.specs.Literals.{twin}
use Rattle.walk.specs.Walk.{arrive, leave, edge, edges, enters, start_walk}
use Rattle.implications.specs.Edges.{outs}
use Rattle.implications.specs.Clauses.{froms, tos}
use Rattle.scc.specs.Groups.{reaches, connected, cyclic, least_mutual}
use Rattle.state.specs.Programmes.{constant_programme}
use Rattle.state.specs.States.{state}
use Rattle.state.specs.declared.Pass.TheVariants.{Idle}
use Rattle.tables.specs.Tables.{tables}
use Rattle.tables.specs.Clauses.{slots_at, slots_from, standing_count, literal_count}
use Rattle.tables.specs.Fates.{shortened, dropped_at, fate_at, visits}
use Rattle.tables.specs.Passes.{advance}
use Rattle.spread.specs.Spread.{spread_from, spread}
use Rattle.propagate.specs.Propagate.{propagate_from}
use Rattle.propagate_visits.specs.Visits.{propagate_clause, propagate_visit, propagate_visits}
use Rattle.merge.specs.Merge.{clashes, representative, regrouped, merged_classes, merge_open}
use Rattle.merge_visits.specs.Clause.{merge_clause}
use Rattle.settle.specs.Settle.{Standing, settle_for, settle}
use Rattle.settle.specs.Steps.{standing_in}
use Rattle.settle.specs.Own.{owns}

-- P9: (2 3)(-3 -1)(1 2)(-2 4)(-4 1), with stamps that are fresh
given : Standing
given =
    standing_in
    (tables (0 ∷ 2 ∷ 1 ∷ 2 ∷ 2 ∷ 1 ∷ 4 ∷ 2 ∷ 1 ∷ 6 ∷ 2 ∷ 1 ∷ 8 ∷ 2 ∷ 1 ∷ []) (pos 2 ∷ pos 3 ∷ negsuc 2 ∷ negsuc 0 ∷ pos 1 ∷ pos 2 ∷ negsuc 1 ∷ pos 4 ∷ negsuc 3 ∷ pos 1 ∷ [])
    (pos 1 ∷ pos 0 ∷ pos 2 ∷ pos 0 ∷ pos 3 ∷ pos 0 ∷ pos 4 ∷ pos 0 ∷ []) (1 ∷ 2 ∷ []) (pos 1 ∷ pos 1 ∷ []))
    (state 4 5 Idle true false constant_programme)

-- the first Merge makes the classes 1, 1, -1, 1 and leaves the unit 1, the second Propagate sets its value and with it those of 2, -3 and 4, and the second Merge finds only groups of one
settled : Standing
settled =
    standing_in
    (tables (0 ∷ 0 ∷ 0 ∷ 2 ∷ 0 ∷ 0 ∷ 4 ∷ 0 ∷ 0 ∷ 6 ∷ 0 ∷ 0 ∷ 8 ∷ 0 ∷ 0 ∷ []) (pos 0 ∷ pos 0 ∷ pos 0 ∷ pos 0 ∷ pos 0 ∷ pos 0 ∷ pos 0 ∷ pos 0 ∷ pos 0 ∷ pos 0 ∷ [])
    (pos 1 ∷ pos 1 ∷ pos 1 ∷ pos 1 ∷ negsuc 0 ∷ negsuc 0 ∷ pos 1 ∷ pos 1 ∷ []) (1 ∷ 2 ∷ []) (pos 1 ∷ pos 1 ∷ []))
    (state 4 5 Idle false false constant_programme)

settles : settle given ≡ settled
unfolding given settled any filter first any_below twin arrive leave edge edges enters start_walk outs froms tos reaches connected cyclic least_mutual slots_at slots_from standing_count literal_count shortened dropped_at fate_at visits advance propagate_clause propagate_visit propagate_visits spread_from spread propagate_from clashes representative regrouped merged_classes merge_clause merge_open settle_for settle
settles = refl

-- four variables are their own class before, one after
counts : (owns 4 given.tables.variables ≡ 4) × (owns 4 settled.tables.variables ≡ 1)
unfolding given settled owns
counts = (refl, refl)

-- P8: (1 2)(1 -2)(-1 2)(-1 -2), where the first Merge sets the mark and nothing else changes
clashing : Standing
clashing =
    standing_in
    (tables (0 ∷ 2 ∷ 1 ∷ 2 ∷ 2 ∷ 1 ∷ 4 ∷ 2 ∷ 1 ∷ 6 ∷ 2 ∷ 1 ∷ []) (pos 1 ∷ pos 2 ∷ pos 1 ∷ negsuc 1 ∷ negsuc 0 ∷ pos 2 ∷ negsuc 0 ∷ negsuc 1 ∷ []) (pos 1 ∷ pos 0 ∷ pos 2 ∷ pos 0 ∷ []) [] [])
    (state 2 4 Idle false false constant_programme)

marks : settle clashing ≡ standing_in clashing.tables (state 2 4 Idle false true constant_programme)
unfolding clashing any filter first any_below twin arrive leave edge edges enters start_walk outs froms tos reaches connected cyclic least_mutual slots_at slots_from standing_count literal_count shortened dropped_at fate_at visits advance propagate_clause propagate_visit propagate_visits spread_from spread propagate_from clashes representative regrouped merged_classes merge_clause merge_open settle_for settle
marks = refl
