-- The scan stands after time t, for any times that the index is of.
use Rattle.stamps.proofs.Scan.{Scanning}
use Rattle.stamps.proofs.scan_times.Given as goal

abbrev pub invariant-loop-place : goal.invariant-loop-place
invariant-loop-place l = Scanning l.v l.index l.links l.place-index l.current
