-- What Write says of a variable, as a statement on an assignment: `Standing` proves that what stands says just that. Assumes nothing: these are definitions.
use Prim.Native.Nat.{ℕ, ◌+◌}
use mathlib.Core.Path.{◌≡◌}
use mathlib.Core.Bool.{true, false}
use lib.IntN.{pos, negsuc}
use Rattle.literal.specs.Assignments.{Assignment, true_under}
use Rattle.tables.specs.Tables.{Tables, class_of, value_of}

module _ (t : Tables) (τ : Assignment) where
  -- variable w + 1 is its own class; has the value that its record says, if any; equals its class literal
  abbrev pub Own : ℕ → Type 0
  Own w = class_of t.variables (w + 1) ≡ pos (w + 1)

  abbrev pub Valued : ℕ → Type 0
  Valued w = (value_of t.variables (w + 1) ≡ pos 1 → τ (w + 1) ≡ true) × (value_of t.variables (w + 1) ≡ negsuc 0 → τ (w + 1) ≡ false)

  abbrev pub Classed : ℕ → Type 0
  Classed w = τ (w + 1) ≡ true_under τ (class_of t.variables (w + 1))
