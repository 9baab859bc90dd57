-- The stamps of the slots, as the walk's functions take them, read as the four columns of the definitions.
-- Assumes nothing: these are definitions.
use Rattle.std.specs.Prelude.{ℕ, List, map}
use Rattle.walk.specs.declared.SlotStamp.{SlotStamp}
use Rattle.walk.specs.Walk.{Stamps}
use Rattle.walk.specs.Compressed.{stamps}

abbrev pub discoveries_of : List SlotStamp → List ℕ
discoveries_of l = map (λ (x : SlotStamp). x.discovery) l

abbrev pub finishes_of : List SlotStamp → List ℕ
finishes_of l = map (λ (x : SlotStamp). x.finish) l

abbrev pub parents_of : List SlotStamp → List ℕ
parents_of l = map (λ (x : SlotStamp). x.parent) l

abbrev pub starts_of : List SlotStamp → List ℕ
starts_of l = map (λ (x : SlotStamp). x.start) l

-- with the time, as one value
abbrev pub stamps_of : ℕ → List SlotStamp → Stamps
stamps_of t l = stamps t (discoveries_of l) (finishes_of l) (parents_of l) (starts_of l)
