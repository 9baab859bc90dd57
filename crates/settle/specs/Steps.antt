-- What the functions of Settle say to each other. Assumes nothing: these are definitions.
use Rattle.std.specs.Prelude.{Bool, true, false}
use Rattle.std.specs.declared.ops.ControlFlow.{ControlFlow}
use Rattle.std.specs.declared.ops.ControlFlow.TheVariants.{Continue, Break}
use Rattle.state.specs.declared.State.{State}
use Rattle.tables.specs.Tables.{Tables}
use Rattle.settle.specs.Settle.{Standing, propagated, merged, grouped}

abbrev pub standing_in : Tables → State → Standing
standing_in t st = record { tables = t; state = st }

-- what stands after a Propagate and a Merge, and whether they are to be repeated
pub record Passed : Type 0 where
  pub standing : Standing
  pub again : Bool

abbrev pub passed : Standing → Bool → Passed
passed w again = record { standing = w; again = again }

-- the same by what Settle's step answers beside the tables: it continues if they are to be repeated
abbrev pub passed_by : Tables → ControlFlow State State → Passed
passed_by t (Continue st) = passed (standing_in t st) true
passed_by t (Break st) = passed (standing_in t st) false

-- after a Merge, by whether it found a group
abbrev pub after_merge : Standing → Bool → Passed
after_merge m found = elim m.state.mark [ true ↦ passed m false | false ↦ passed m found ]

abbrev pub after_propagate : Standing → Passed
after_propagate p = elim p.state.mark [ true ↦ passed p false | false ↦ after_merge (merged p) (grouped p) ]

-- a whole Propagate and, unless it sets the mark, a whole Merge
unfoldable pub both_passes : Standing → Passed
both_passes w = after_propagate (propagated w)
