-- What `pack` laid over the slice are all records that the columns hold.
use Rattle.std.proofs.Common.{arith, ap, ◌∙◌, List}
use Rattle.stamp_records.specs.declared.StampRecord.{StampRecord}
use Rattle.stamp_records.specs.Records.{over}
use Rattle.stamp_records.proofs.Packed.{records_all}
use Rattle.stamp_records.proofs.put_columns.Goals as goal

pub returns : goal.returns
returns c = c.pack.ensures ∙ ap (λ (l : List StampRecord). over l c.args.s.now) (records_all _ c.args.times.now c.args.links.now (omega arith))
