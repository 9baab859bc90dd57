-- A turn writes the numbers of the record at i: those of one record more lie over each column.
use Rattle.std.proofs.Common.{take, arith, sym, length-take}
use Rattle.stamp_records.specs.declared.StampRecord.{StampRecord}
use Rattle.stamp_records.specs.Records.{no_stamp}
use Rattle.stamp_records.proofs.Over.{pairs_none, pairs_next}
use Rattle.stamp_records.proofs.unpack.Goals as goal

pub loop-i-init : goal.loop-i-init
loop-i-init c = record {
  times_laid = sym (pairs_none (λ (r : StampRecord). r.discovery) (λ (r : StampRecord). r.finish) (take c.args.n c.args.s.now) c.args.times.now);
  links_laid = sym (pairs_none (λ (r : StampRecord). r.parent) (λ (r : StampRecord). r.start) (take c.args.n c.args.s.now) c.args.links.now);
}

pub loop-i-preserved : goal.loop-i-preserved
loop-i-preserved c =
    let used = take c.args.n c.args.s.now in
    let e = pairs_next (λ (r : StampRecord). r.discovery) (λ (r : StampRecord). r.finish) c.loop-i.i used c.args.times.now no_stamp (omega arith) (omega (arith, length-take c.args.n c.args.s.now)) in
    let g = pairs_next (λ (r : StampRecord). r.parent) (λ (r : StampRecord). r.start) c.loop-i.i used c.args.links.now no_stamp (omega arith) (omega (arith, length-take c.args.n c.args.s.now)) in
    record { times_laid = cc; links_laid = cc }
