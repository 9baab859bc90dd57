-- The scan of what is left gives what the scan of the whole gives.
use Prim.Native.Nat.{◌+◌, ◌-◌}
use mathlib.Core.List.{List}
use lib.ListN.{length}
use lib.IntN.{ℤ}
use Rattle.stamp_columns.specs.Columns.{columns}
use Rattle.hidden_tautologies.proofs.Scanning.{Scanning}
use Rattle.hidden_tautologies.proofs.scan.Given as goal

abbrev pub invariant-loop-i : goal.invariant-loop-i
invariant-loop-i l = (links : List ℤ) → Scanning (columns l.times links) l.pos l.neg l.i l.j

abbrev pub decreases-loop-i : goal.decreases-loop-i
decreases-loop-i l = (length l.pos - l.i) + (length l.neg - l.j)
