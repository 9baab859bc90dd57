-- An index of the times is filled.
use Rattle.std.proofs.Common.{◌*◌, length, ap, ◌∙◌}
use lib.ListN.{length-replicate}
use Rattle.stamps.proofs.Indexing.{indexed_filled}
use Rattle.stamps.proofs.stamps_by.Goals as goal

pub scan_times-requires : goal.scan_times-requires
scan_times-requires c = (
  c.requires.0,
  c.requires.2,
  c.index_times.auto.index ∙ ap length c.requires.3 ∙ length-replicate (4 * c.args.v) 0,
  indexed_filled (4 * c.args.v) c.args.times.now _ (c.index_times.ensures.0 c.if-index_times.true),
)
