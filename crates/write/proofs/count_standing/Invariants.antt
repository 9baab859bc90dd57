-- The count and what the records from i on give are the whole (`Counting`), whatever the literals are.
use Rattle.std.proofs.Common.{◌≤◌, List, ℤ}
use Rattle.write.specs.Gathered.{written_at}
use Rattle.write.proofs.Gathering.{Counting}
use Rattle.write.proofs.count_standing.Given as goal

abbrev pub invariant-loop-i : goal.invariant-loop-i
invariant-loop-i l = (l.count ≤ l.i) × ((literals : List ℤ) → Counting (written_at l.clauses literals) l.n l.i l.count)
