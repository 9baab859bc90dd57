-- The count and what the records from variable w on give are the whole (`Counting`).
use Rattle.std.proofs.Common.{◌-◌, ◌≤◌}
use Rattle.write.specs.Gathered.{unit_at}
use Rattle.write.proofs.Gathering.{Counting}
use Rattle.write.proofs.count_units.Given as goal

abbrev pub invariant-loop-w : goal.invariant-loop-w
invariant-loop-w l = (l.count ≤ l.w) × Counting (unit_at l.variables) l.v (l.w - 1) l.count
