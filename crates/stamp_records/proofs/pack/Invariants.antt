-- After i turns the first places hold the first i records of the columns, over what they had.
use Rattle.std.proofs.Common.{◌≡◌, take}
use Rattle.stamp_records.specs.Records.{records_in, over}
use Rattle.stamp_records.proofs.pack.Given as goal

abbrev pub invariant-loop-i : goal.invariant-loop-i
invariant-loop-i l = l.record-items ≡ over (take l.i (records_in l.times l.links)) (take l.n l.fn.s)
