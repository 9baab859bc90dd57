-- Examples by computation: values of both signs reach the variables of a class, and what is behind V stays. Assumes nothing.
use mathlib.Core.Path.{◌≡◌, refl}
use mathlib.Core.List.{[], ◌∷◌}
use lib.IntN.{pos, negsuc}
use Rattle.spread.specs.Spread.{spread_from, spread}

-- classes 1, 1, -1, 4 and a record behind V; 1 is true and 4 is false; 2 has no value yet, and 3 an old one
true_class : spread 4 (pos 1 ∷ pos 1 ∷ pos 1 ∷ pos 0 ∷ negsuc 0 ∷ pos 1 ∷ pos 4 ∷ negsuc 0 ∷ pos 1 ∷ pos 0 ∷ []) ≡ pos 1 ∷ pos 1 ∷ pos 1 ∷ pos 1 ∷ negsuc 0 ∷ negsuc 0 ∷ pos 4 ∷ negsuc 0 ∷ pos 1 ∷ pos 0 ∷ []
unfolding spread_from spread
true_class = refl

-- classes 1, 1, -1; 1 is false
false_class : spread 3 (pos 1 ∷ negsuc 0 ∷ pos 1 ∷ pos 0 ∷ negsuc 0 ∷ pos 0 ∷ []) ≡ pos 1 ∷ negsuc 0 ∷ pos 1 ∷ negsuc 0 ∷ negsuc 0 ∷ pos 1 ∷ []
unfolding spread_from spread
false_class = refl
