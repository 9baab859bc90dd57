use Rattle.std.proofs.Common.{◌≡◌, ℕ, ◌*◌, ◌++◌, length, get_or, map, drop, ap, sym, ◌∙◌, arith}
use Rattle.std.proofs.Math.ListN.{get_or-map}
use Rattle.std.proofs.lemmas.List.{length-map}
use Rattle.base.specs.Lists.{interleave}
use Rattle.literal.specs.Literals.{lit_at}
use Rattle.literal.proofs.Laws.{lit_stored}
use Rattle.walk.specs.Slots.{parents_of, starts_of}
use Rattle.walk.proofs.Columns.{parents_long, starts_long, parent_at, blank_stamp, start_at}
use Rattle.stamp_walk.proofs.Copying.{copying_as, copying_done}
use Rattle.stamp_walk.proofs.copy_links.Goals as goal

pub lit_at-requires : goal.lit_at-requires
lit_at-requires c = omega (arith, (c.requires.by_index c.loop-s.s c.loop-s-test.true).0, parent_at c.args.stamps.now c.loop-s.s)

pub lit_at-requires-in-loop-s : goal.lit_at-requires-in-loop-s
lit_at-requires-in-loop-s c = omega (arith, (c.requires.by_index c.loop-s.s c.loop-s-test.true).1, start_at c.args.stamps.now c.loop-s.s)

pub loop-s-preserved : goal.loop-s-preserved
loop-s-preserved c =
    let l = c.args.stamps.now in
    let s = c.loop-s.s in
    let P = parents_of l in
    let S = starts_of l in
    let many-p = length-map P lit_at in
    let many-s = length-map S lit_at in
    let few = c.requires.by_index s c.loop-s-test.true in
    copying_as (map lit_at P) (map lit_at S) c.args.links.now c.loop-s.links s (lit_at 0) (lit_at 0) _ _
    (lit_stored (get_or l s blank_stamp).parent _ (omega (arith, few.0, parent_at l s)) c.lit_at.ensures ∙ ap lit_at (sym (parent_at l s)) ∙ sym (get_or-map lit_at P s 0))
    (lit_stored (get_or l s blank_stamp).start _ (omega (arith, few.1, start_at l s)) c.lit_at-in-loop-s.ensures ∙ ap lit_at (sym (start_at l s)) ∙ sym (get_or-map lit_at S s 0))
    (omega (arith, parents_long l)) (omega (arith, parents_long l, starts_long l)) c.loop-s.invariant

pub returns : goal.returns
returns c =
    let l = c.args.stamps.now in
    let P = parents_of l in
    let S = starts_of l in
    let many : length (map lit_at P) ≡ length l = length-map P lit_at ∙ parents_long l in
    copying_done (map lit_at P) (map lit_at S) c.args.links.now c.loop-s.links c.loop-s.s (omega arith) (omega (arith, length-map S lit_at, starts_long l)) (omega arith) c.loop-s.invariant
    ∙ ap (λ (k : ℕ). interleave (map lit_at P) (map lit_at S) ++ drop (2 * k) c.args.links.now) many
