use Rattle.std.proofs.Common.{◌+◌, ◌*◌, ◌∙◌, arith}
use Rattle.base.proofs.Lists.{front_zeros, front_filled}
use Rattle.walk.proofs.Columns.{blank_stamp}
use Rattle.table_graph.proofs.Chain.{ready, same_least, own_scratch}
use Rattle.table_graph.proofs.representatives.Goals as goal

pub groups-requires : goal.groups-requires
groups-requires c =
    let v = c.args.v in
    let L = c.requires.clauses_inside in
    let B = c.build_graph-k in
    let S = own_scratch v _ _ c.args.rep.now (front_filled (2 * v) 2048 blank_stamp (omega (arith, L.few))) (front_zeros (2 * v) 2048 (omega (arith, L.few))) c.requires.rep_len in
    ready L S B.new.offsets B.new.targets B.result (B.auto.offsets ∙ front_zeros (2 * v + 1) 2049 (omega (arith, L.few))) B.ensures

pub returns : goal.returns
returns c = λ s lt.
    let v = c.args.v in
    let L = c.requires.clauses_inside in
    let B = c.build_graph-k in
    let S = own_scratch v _ _ c.args.rep.now (front_filled (2 * v) 2048 blank_stamp (omega (arith, L.few))) (front_zeros (2 * v) 2048 (omega (arith, L.few))) c.requires.rep_len in
    c.groups.ensures s (omega (arith, c.requires.rep_len)) ∙ same_least L S B.new.offsets B.new.targets B.result (B.auto.offsets ∙ front_zeros (2 * v + 1) 2049 (omega (arith, L.few))) B.ensures s lt
