-- Examples by computation: of repeats the first stays, a clause with v and −v is told, slots and back. Assumes nothing.
use mathlib.Core.Path.{◌≡◌, refl}
use mathlib.Core.Bool.{true, false}
use mathlib.Core.List.{[], ◌∷◌, map}
use lib.IntN.{pos, negsuc}
use Rattle.literal.specs.Literals.{slot_of, twin}
use Rattle.literal.specs.Clauses.{distinct, tautology}

firsts_stay : distinct (pos 3 ∷ negsuc 0 ∷ pos 3 ∷ pos 2 ∷ negsuc 0 ∷ []) ≡ pos 3 ∷ negsuc 0 ∷ pos 2 ∷ []
firsts_stay = refl

both_signs : (tautology (pos 3 ∷ pos 1 ∷ negsuc 2 ∷ []) ≡ true) × (tautology (pos 3 ∷ pos 1 ∷ negsuc 1 ∷ []) ≡ false)
both_signs = (refl, refl)

slots : map slot_of (pos 1 ∷ negsuc 0 ∷ pos 2 ∷ negsuc 1 ∷ []) ≡ 0 ∷ 1 ∷ 2 ∷ 3 ∷ []
slots = refl

twins : map twin (0 ∷ 1 ∷ 4 ∷ 5 ∷ []) ≡ 1 ∷ 0 ∷ 5 ∷ 4 ∷ []
unfolding twin
twins = refl
