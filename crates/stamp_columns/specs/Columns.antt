-- The stamp records as the columns of the walk: slot s has its discovery, finish, parent and start at place s of a column each, parent and start as slots. Assumes nothing: these are definitions.
use Rattle.std.specs.Prelude.{ℕ, List, map, ℤ}
use Rattle.base.specs.Lists.{evens, odds}
use Rattle.literal.specs.Literals.{slot_of}
use Rattle.walk.specs.Walk.{Stamps}
use Rattle.walk.specs.Compressed.{stamps}

abbrev pub columns : List ℕ → List ℤ → Stamps
columns times links = stamps 0 (evens times) (odds times) (map slot_of (evens links)) (map slot_of (odds links))
