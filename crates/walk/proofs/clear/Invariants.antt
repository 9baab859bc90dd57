-- `walk::clear` meets its contract: the stamps before the index are not entered, and the rest of each stamp stays. Assumes nothing.
use Rattle.std.proofs.Common.{◌≡◌, ◌++◌, drop, replicate}
use Rattle.walk.specs.Slots.{discoveries_of, finishes_of, parents_of, starts_of}
use Rattle.walk.proofs.clear.Given as goal

abbrev pub invariant-loop-stamp : goal.invariant-loop-stamp
invariant-loop-stamp l =
    record {
      discoveries : discoveries_of l.stamps ≡ replicate l.stamp-index 0 ++ drop l.stamp-index (discoveries_of l.fn.stamps);
      finishes : finishes_of l.stamps ≡ finishes_of l.fn.stamps;
      parents : parents_of l.stamps ≡ parents_of l.fn.stamps;
      starts : starts_of l.stamps ≡ starts_of l.fn.stamps;
    }
