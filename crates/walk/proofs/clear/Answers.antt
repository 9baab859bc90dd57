-- `walk::clear` meets its contract. Assumes nothing.
use Rattle.std.proofs.Common.{◌≡◌, ℕ, ◌<◌, List, length, set, refl, sym, subst, ◌∙◌, ap}
use borrow.Author.Fill.{fill_more}
use Rattle.walk.specs.Slots.{discoveries_of}
use Rattle.walk.proofs.Columns.{discoveries_set, finishes_kept, parents_kept, starts_kept, discoveries_long}
use Rattle.walk.proofs.clear.Goals as goal

pub loop-stamp-preserved : goal.loop-stamp-preserved
loop-stamp-preserved c =
    let l = c.loop-stamp in
    let columns : length (discoveries_of c.args.stamps.now) ≡ length c.args.stamps.now = discoveries_long c.args.stamps.now in
    record {
      discoveries =
          discoveries_set l.stamps l.stamp-index _
          ∙ ap (λ (d : List ℕ). set d l.stamp-index 0) l.invariant.discoveries
          ∙ fill_more l.stamp-index 0 (discoveries_of c.args.stamps.now) (subst (λ (k : ℕ). l.stamp-index < k) (sym columns) c.loop-stamp-test.true);
      finishes = finishes_kept l.stamps l.stamp-index _ refl ∙ l.invariant.finishes;
      parents = parents_kept l.stamps l.stamp-index _ refl ∙ l.invariant.parents;
      starts = starts_kept l.stamps l.stamp-index _ refl ∙ l.invariant.starts;
    }
