-- Examples by computation: what C gets for each of the five answers, and for the refusal. Assumes nothing.
use mathlib.Core.Path.{◌≡◌, refl}
use mathlib.Core.List.{[], ◌∷◌, map}
use lib.IntN.{pos, negsuc}
use Rattle.std.specs.Prelude.{Ok, Err}
use Rattle.state.specs.declared.Refusal.TheVariants.{Shape}
use Rattle.intervals.specs.declared.Relation.TheVariants.{Same, Holds, Held, Earlier, Later}
use Rattle.compare.specs.Compare.{comparison_result}

results : map comparison_result (Ok Same ∷ Ok Holds ∷ Ok Held ∷ Ok Earlier ∷ Ok Later ∷ Err Shape ∷ []) ≡ pos 0 ∷ pos 1 ∷ pos 2 ∷ pos 3 ∷ pos 4 ∷ negsuc 0 ∷ []
results = refl
