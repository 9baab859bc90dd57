-- How many variables are their own class: what a Merge that finds a group makes smaller, and what tells the code whether it found one. Assumes nothing: these are definitions.
use Rattle.std.specs.Prelude.{ℕ, zero, suc, ◌+◌, true, false, List, ℤ, pos}
use Rattle.literal.specs.Literals.{eq_z}
use Rattle.tables.specs.Tables.{class_of}

-- among the variables 1 to v
unfoldable pub owns : ℕ → List ℤ → ℕ
owns zero variables = 0
owns (suc v) variables = elim (eq_z (class_of variables (v + 1)) (pos (v + 1))) [ true ↦ suc (owns v variables) | false ↦ owns v variables ]
