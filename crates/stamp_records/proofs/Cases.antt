-- Examples by computation, on the stamps of 1, −1 and 2 in P2 (1 is [1,6], −1 [9,10], 2 [2,5]). Assumes nothing.
use mathlib.Core.Path.{◌≡◌, refl}
use mathlib.Core.List.{[], ◌∷◌}
use lib.IntN.{pos, negsuc}
use Rattle.stamp_records.specs.declared.StampRecord.{StampRecord}
use Rattle.stamp_records.specs.Records.{stamp_record, pairs_in, times_in, links_in, times_of, records_in, over, packed}

one : StampRecord
one = stamp_record 1 6 (pos 1) (pos 1)

not_one : StampRecord
not_one = stamp_record 9 10 (negsuc 1) (negsuc 2)

two : StampRecord
two = stamp_record 2 5 (pos 1) (pos 1)

-- two numbers of each record, in the order of the records; a short slice has short columns
columns : (times_in (one ∷ not_one ∷ two ∷ []) ≡ 1 ∷ 6 ∷ 9 ∷ 10 ∷ 2 ∷ 5 ∷ []) × (links_in (one ∷ not_one ∷ two ∷ []) ≡ pos 1 ∷ pos 1 ∷ negsuc 1 ∷ negsuc 2 ∷ pos 1 ∷ pos 1 ∷ []) × (times_of (two ∷ []) ≡ 2 ∷ 5 ∷ [])
unfolding one not_one two pairs_in
columns = (refl, refl, refl)

-- records are put in the first places, and a later one stays; a slice never grows
put : (packed (1 ∷ 6 ∷ 9 ∷ 10 ∷ []) (pos 1 ∷ pos 1 ∷ negsuc 1 ∷ negsuc 2 ∷ []) (two ∷ two ∷ two ∷ []) ≡ one ∷ not_one ∷ two ∷ [])
    × (packed (1 ∷ 6 ∷ 9 ∷ 10 ∷ []) (pos 1 ∷ pos 1 ∷ negsuc 1 ∷ negsuc 2 ∷ []) (two ∷ []) ≡ one ∷ []) × (packed [] [] (two ∷ []) ≡ two ∷ [])
unfolding one not_one two records_in over
put = (refl, refl, refl)
