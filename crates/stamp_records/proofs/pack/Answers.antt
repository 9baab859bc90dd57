-- A turn stores the record of the columns at i: one record more lies over the first places.
use Rattle.std.proofs.Common.{ℕ, List, ◌++◌, ◌≡◌, take, drop, arith, sym, ap, ◌∙◌, length-take}
use Rattle.stamp_records.specs.declared.StampRecord.{StampRecord}
use Rattle.stamp_records.specs.Records.{records_in, over}
use Rattle.stamp_records.proofs.Over.{over_none, over_front}
use Rattle.stamp_records.proofs.Packed.{pack_next}
use Rattle.stamp_records.proofs.pack.Goals as goal

pub loop-i-init : goal.loop-i-init
loop-i-init c = sym (over_none (take c.args.n c.args.s.now))

pub loop-i-preserved : goal.loop-i-preserved
loop-i-preserved c =
    let a = c.args in
    let e = pack_next c.loop-i.i a.times.now a.links.now (take a.n a.s.now) (omega (arith, length-take a.n a.s.now), omega (arith, length-take a.n a.s.now)) (omega arith) in
    cc

pub returns : goal.returns
returns c =
    let a = c.args in
    let records = records_in a.times.now a.links.now in
    let all : c.loop-i.i ≡ a.n = omega (arith, length-take a.n a.s.now) in
    ap (λ (l : List StampRecord). l ++ drop a.n a.s.now) (c.loop-i.invariant ∙ ap (λ (k : ℕ). over (take k records) (take a.n a.s.now)) all)
    ∙ over_front a.n (take a.n records) a.s.now (omega (arith, length-take a.n records))
