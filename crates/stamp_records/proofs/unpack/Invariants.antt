-- After i turns the columns hold the numbers of the first i records, over what they had.
use Rattle.std.proofs.Common.{◌≡◌, take}
use Rattle.stamp_records.specs.Records.{times_in, links_in, over}
use Rattle.stamp_records.proofs.unpack.Given as goal

abbrev pub invariant-loop-i : goal.invariant-loop-i
invariant-loop-i l = record {
  times_laid : l.times ≡ over (times_in (take l.i (take l.n l.s))) l.fn.times;
  links_laid : l.links ≡ over (links_in (take l.i (take l.n l.s))) l.fn.links;
}
