-- Examples by computation: of repeats the first place stays, a literal and its complement are no repeats of each other, and what is kept is what `distinct` says. Assumes nothing.
use mathlib.Core.Path.{◌≡◌, refl}
use mathlib.Core.Bool.{true, false}
use mathlib.Core.List.{[], ◌∷◌}
use lib.IntN.{pos, negsuc}
use Rattle.base.specs.Lists.{filter, numbers}
use Rattle.literal.specs.Clauses.{distinct, tautology}
use Rattle.repeats.specs.First.{first_places}
use Rattle.repeats.specs.Marks.{mark_of, with_mark}

-- 3 −1 3 2 −1
repeats : (first_places (pos 3 ∷ negsuc 0 ∷ pos 3 ∷ pos 2 ∷ negsuc 0 ∷ []) ≡ 0 ∷ 1 ∷ 3 ∷ [])
    × (distinct (pos 3 ∷ negsuc 0 ∷ pos 3 ∷ pos 2 ∷ negsuc 0 ∷ []) ≡ pos 3 ∷ negsuc 0 ∷ pos 2 ∷ [])
unfolding first_places filter numbers
repeats = (refl, refl)

-- 1 −1 1 −1
complements : (first_places (pos 1 ∷ negsuc 0 ∷ pos 1 ∷ negsuc 0 ∷ []) ≡ 0 ∷ 1 ∷ [])
    × (distinct (pos 1 ∷ negsuc 0 ∷ pos 1 ∷ negsuc 0 ∷ []) ≡ pos 1 ∷ negsuc 0 ∷ [])
    × (tautology (distinct (pos 1 ∷ negsuc 0 ∷ pos 1 ∷ negsuc 0 ∷ [])) ≡ true)
unfolding first_places filter numbers
complements = (refl, refl, refl)

-- 2 2 2
one_literal : (first_places (pos 2 ∷ pos 2 ∷ pos 2 ∷ []) ≡ 0 ∷ []) × (distinct (pos 2 ∷ pos 2 ∷ pos 2 ∷ []) ≡ pos 2 ∷ []) × (tautology (distinct (pos 2 ∷ pos 2 ∷ pos 2 ∷ [])) ≡ false)
unfolding first_places filter numbers
one_literal = (refl, refl, refl)

nothing : (first_places [] ≡ []) × (distinct [] ≡ [])
unfolding first_places filter numbers
nothing = (refl, refl)

-- the marks of 2 and −1, and of the ends of the range
places : (mark_of (pos 2) ≡ 1026) × (mark_of (negsuc 0) ≡ 1023) × (mark_of (pos 1024) ≡ 2048) × (mark_of (negsuc 1023) ≡ 0)
places = (refl, refl, refl, refl)

-- the mark of −1,024 alone
marks : with_mark 1 (negsuc 1023 ∷ []) (0 ∷ 0 ∷ []) ≡ 1 ∷ 0 ∷ []
marks = refl
