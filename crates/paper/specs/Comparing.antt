-- Document 02, CR 6: "Under fresh stamps same means one literal, holds ancestor, held descendant, and the others apart", earlier and later by the beginnings.
-- Assumes nothing: these are definitions.
use Rattle.std.specs.Prelude.{◌<◌, ◌≡◌, ◌⊎◌, ◌↔◌, ℤ}
use Rattle.intervals.specs.declared.Relation.{Relation}
use Rattle.intervals.specs.declared.Relation.TheVariants.{Same, Holds, Held, Earlier, Later}
use Rattle.tables.specs.Tables.{Tables}
use Rattle.paper.specs.Records.{discovered, finished, Ancestor}

-- an ancestor by parents, and another literal
abbrev pub ProperAncestor : Tables → ℤ → ℤ → Type 0
ProperAncestor t p q = Ancestor t p q × (p ≡ q → ⊥)

-- one interval ends before the other begins
abbrev pub Apart : Tables → ℤ → ℤ → Type 0
Apart t p q = (finished t p < discovered t q) ⊎ (finished t q < discovered t p)

-- what each answer means for the literals p and q
pub record Compared (t : Tables) (p q : ℤ) (r : Relation) : Type 0 where
  pub same : (r ≡ Same) ↔ (p ≡ q)
  pub holds : (r ≡ Holds) ↔ ProperAncestor t p q
  pub held : (r ≡ Held) ↔ ProperAncestor t q p
  pub earlier : (r ≡ Earlier) ↔ (Apart t p q × (discovered t p < discovered t q))
  pub later : (r ≡ Later) ↔ (Apart t p q × (discovered t q < discovered t p))
