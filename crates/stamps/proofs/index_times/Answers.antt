-- One time more is entered. A place that is taken is a time that stands twice.
use Rattle.std.proofs.Common.{◌<◌, arith, sym}
use mathlib.Core.Bool.{false≢true}
use lib.Seq.{get_or-take, length-take-le}
use Rattle.stamps.proofs.Indexing.{indexing_begin, indexing_next, indexing_done}
use Rattle.stamps.proofs.index_times.Goals as goal

pub loop-k-init : goal.loop-k-init
loop-k-init c = indexing_begin c.args.n c.args.times.now c.args.index.now c.requires.2

pub loop-k-preserved : goal.loop-k-preserved
loop-k-preserved c =
    let a = c.args in
    let l = c.loop-k in
    let long = length-take-le a.n a.times.now c.requires.0 in
    let lt : l.k < a.n = omega arith in
    let t = get_or-take a.n a.times.now l.k 0 lt in
    rw t (indexing_next a.n a.times.now l.index l.k l.invariant (omega arith) (omega arith) (rw t at c.if-index-t-ne0.false))

pub returns : goal.returns
returns c =
    let a = c.args in
    let l = c.loop-k in
    let long = length-take-le a.n a.times.now c.requires.0 in
    (λ _. indexing_done a.n a.times.now l.index l.k l.invariant (omega arith), λ e. absurd (false≢true (sym e)))
