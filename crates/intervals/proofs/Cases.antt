-- Examples by computation, the answer and that of the other way round: P2's intervals of 1, 2 and -3, and numbers that no fresh stamps have. Assumes nothing.
use mathlib.Core.Path.{◌≡◌, refl}
use mathlib.Core.List.{List, [], ◌∷◌, map}
use Rattle.intervals.specs.declared.Interval.{Interval}
use Rattle.intervals.specs.declared.Relation.{Relation}
use Rattle.intervals.specs.declared.Relation.TheVariants.{Same, Holds, Held, Earlier, Later}
use Rattle.intervals.specs.Intervals.{interval, same, encloses, compare}
use Rattle.intervals.specs.Relations.{relation_number}

abbrev answers : Interval → List Interval → List Relation
answers a bs = map (compare a) bs

-- 1 is [1,6], 2 [2,5], -3 [7,12]: of 2 to 1, itself, 3, -3; and of -3 to 2
sample : answers (interval 2 5) (interval 1 6 ∷ interval 2 5 ∷ interval 3 4 ∷ interval 7 12 ∷ []) ≡ Held ∷ Same ∷ Holds ∷ Earlier ∷ []
unfolding same encloses compare
sample = refl

sample_later : compare (interval 7 12) (interval 2 5) ≡ Later
unfolding same encloses compare
sample_later = refl

-- one beginning or one end: the wider holds; neither holds the other: by the beginnings
any_numbers : answers (interval 3 7) (interval 3 6 ∷ interval 3 8 ∷ interval 4 7 ∷ interval 2 7 ∷ interval 4 8 ∷ interval 2 6 ∷ []) ≡ Holds ∷ Held ∷ Holds ∷ Held ∷ Earlier ∷ Later ∷ []
unfolding same encloses compare
any_numbers = refl

-- in document 02's order
numbers : map relation_number (Same ∷ Holds ∷ Held ∷ Earlier ∷ Later ∷ []) ≡ 0 ∷ 1 ∷ 2 ∷ 3 ∷ 4 ∷ []
numbers = refl
