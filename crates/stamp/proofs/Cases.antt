-- Examples by computation: the first wrong entry of a list, and the records of P6 with those past them. Assumes nothing.
use mathlib.Core.Path.{◌≡◌, refl}
use mathlib.Core.Bool.{true, false}
use mathlib.Core.List.{[], ◌∷◌}
use lib.IntN.{pos, negsuc}
use Rattle.base.specs.Lists.{filter, absent, first, any_below, interleave}
use Rattle.literal.specs.Literals.{twin}
use Rattle.walk.specs.Walk.{arrive, leave, edge, edges, enters, start_walk, stamp_all}
use Rattle.implications.specs.Edges.{outs}
use Rattle.implications.specs.Clauses.{froms, tos, implications}
use Rattle.scc.specs.Groups.{reaches, connected, cyclic}
use Rattle.tables.specs.Tables.{tables}
use Rattle.stamp.specs.Stamp.{first_bad, stamps_of, stamped_tables}

entries : (first_bad 2 (pos 1 ∷ negsuc 1 ∷ pos 2 ∷ negsuc 0 ∷ []) ≡ 4) × (first_bad 2 (pos 1 ∷ pos 0 ∷ pos 2 ∷ negsuc 0 ∷ []) ≡ 1) × (first_bad 2 (pos 1 ∷ negsuc 1 ∷ negsuc 2 ∷ pos 3 ∷ []) ≡ 2)
    × (first_bad 2 (pos 1 ∷ negsuc 1 ∷ pos 2 ∷ pos 1 ∷ []) ≡ 3)
unfolding first first_bad
entries = (refl, refl, refl, refl)

-- P6 under 1, −1, 2, −2; the last of the given records is past 2V
records : stamped_tables 2 (stamps_of ((1 ∷ 2 ∷ []) ∷ (1 ∷ 3 ∷ []) ∷ []) 4 (0 ∷ 1 ∷ 2 ∷ 3 ∷ [])) (tables [] [] [] (0 ∷ 0 ∷ 0 ∷ 0 ∷ 0 ∷ 0 ∷ 0 ∷ 0 ∷ 5 ∷ 6 ∷ []) (pos 0 ∷ pos 0 ∷ pos 0 ∷ pos 0 ∷ pos 0 ∷ pos 0 ∷ pos 0 ∷ pos 0 ∷ pos 7 ∷ pos 8 ∷ []))
    ≡ tables [] [] [] (1 ∷ 8 ∷ 3 ∷ 4 ∷ 2 ∷ 5 ∷ 6 ∷ 7 ∷ 5 ∷ 6 ∷ []) (pos 1 ∷ pos 1 ∷ pos 2 ∷ pos 1 ∷ pos 1 ∷ pos 1 ∷ pos 1 ∷ pos 1 ∷ pos 7 ∷ pos 8 ∷ [])
unfolding filter absent interleave twin arrive leave edge edges enters start_walk stamp_all outs froms tos stamps_of stamped_tables
records = refl

-- a ring of two literals and its contrapositive; a chain
rings : (cyclic (implications ((1 ∷ 2 ∷ []) ∷ (3 ∷ 0 ∷ []) ∷ [])) 4 ≡ true) × (cyclic (implications ((1 ∷ 2 ∷ []) ∷ (3 ∷ 4 ∷ []) ∷ [])) 6 ≡ false)
unfolding any_below twin arrive leave edge edges enters start_walk outs froms tos reaches connected cyclic
rings = (refl, refl)
