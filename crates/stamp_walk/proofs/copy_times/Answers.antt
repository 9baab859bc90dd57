use Rattle.std.proofs.Common.{ℕ, ◌*◌, ◌++◌, drop, ap, sym, ◌∙◌, arith}
use Rattle.base.specs.Lists.{interleave}
use Rattle.walk.specs.Slots.{discoveries_of, finishes_of}
use Rattle.walk.proofs.Columns.{discoveries_long, finishes_long, discovery_at, finish_at}
use Rattle.stamp_walk.proofs.Copying.{copying_as, copying_done}
use Rattle.stamp_walk.proofs.copy_times.Goals as goal

pub loop-s-preserved : goal.loop-s-preserved
loop-s-preserved c =
    let l = c.args.stamps.now in
    let s = c.loop-s.s in
    let many = discoveries_long l in
    copying_as (discoveries_of l) (finishes_of l) c.args.times.now c.loop-s.times s 0 0 _ _ (sym (discovery_at l s)) (sym (finish_at l s)) (omega arith) (omega (arith, finishes_long l)) c.loop-s.invariant

pub returns : goal.returns
returns c =
    let l = c.args.stamps.now in
    let many = discoveries_long l in
    copying_done (discoveries_of l) (finishes_of l) c.args.times.now c.loop-s.times c.loop-s.s (omega arith) (omega (arith, finishes_long l)) (omega arith) c.loop-s.invariant
    ∙ ap (λ (k : ℕ). interleave (discoveries_of l) (finishes_of l) ++ drop (2 * k) c.args.times.now) many
