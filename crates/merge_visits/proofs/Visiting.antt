-- What Merge makes of a clause. Assumes nothing.
use mathlib.Core.Bool.{Bool, true, false}
use mathlib.Core.List.{List}
use lib.IntN.{ℤ}
use Rattle.literal.specs.Clauses.{tautology}
use Rattle.tables.specs.Fates.{left, dropped}
use Rattle.visits.proofs.Visiting.{Shrinks, leaves, drops}
use Rattle.merge_visits.specs.Clause.{merge_clause}
use Rattle.merge_visits.specs.Visits.{substituted}

-- Merge shortens a clause or drops it
pub merge_shrinks : (w C : List ℤ) → Shrinks (merge_clause w C)
unfolding merge_clause
merge_shrinks w C = by (tautology (substituted w C))
  where
    by : (b : Bool) → Shrinks (elim b [ true ↦ dropped | false ↦ left (substituted w C) ])
    by true = drops
    by false = leaves (substituted w C)
