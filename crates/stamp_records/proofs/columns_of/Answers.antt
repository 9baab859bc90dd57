-- The first places of the filled columns are the columns of the lent records.
use Rattle.std.proofs.Common.{◌*◌, ◌≡◌, length, min, take, rules, ap, ◌∙◌}
use Rattle.stamp_records.specs.declared.StampRecord.{StampRecord}
use Rattle.stamp_records.proofs.Over.{pairs_lent}
use Rattle.stamp_records.proofs.columns_of.Goals as goal

pub returns : goal.returns
returns c =
    let k = c.min-count.result in
    let few : k ≡ min 2048 (length c.args.s.now) = search rules in (
      few,
      ap (take (2 * k)) c.unpack.ensures.0 ∙ pairs_lent (λ (r : StampRecord). r.discovery) (λ (r : StampRecord). r.finish) k c.args.s.now _ few (search rules),
      ap (take (2 * k)) c.unpack.ensures.1 ∙ pairs_lent (λ (r : StampRecord). r.parent) (λ (r : StampRecord). r.start) k c.args.s.now _ few (search rules),
    )
