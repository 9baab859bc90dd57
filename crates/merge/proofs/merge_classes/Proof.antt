-- `merge::merge_classes` meets its contract. Assumes nothing.
use native.Mathlib.Omega.{arith}
use Prim.Native.Nat.{◌*◌}
use mathlib.Core.Path.{sym}
use borrow.Author.Rules.{rules}
use Rattle.base.proofs.Lists.{front_zeros}
use Rattle.merge.proofs.merge_classes.Statement.{statement}
use Rattle.merge.proofs.merge_classes.Tie as tie

mul-slots : tie.Need-overflow_mul-slots
mul-slots c = search rules

array-borrow-prefix-rep : tie.Need-slice_bounds-rep-end
array-borrow-prefix-rep c = search rules

slice-aggregate-regroup-by : tie.Need-slice_bounds-regroup_by-end
slice-aggregate-regroup-by c = sym (front_zeros (2 * c.args.v) 2048 (omega (arith, c.requires.vars.few)))

regroup-by-requires : tie.Need-regroup_by-requires
regroup-by-requires c κs = (c.requires, front_zeros (2 * c.args.v) 2048 (omega (arith, c.requires.vars.few)))

same_length : tie.Need-shape_of-variables
same_length c = search rules

returns : tie.Need-returns
returns c = search rules

pub merge_classes_spec : {M : Type 1} → statement M
merge_classes_spec =
    tie.close
    (tie.spec
    mul-slots
    array-borrow-prefix-rep
    slice-aggregate-regroup-by
    regroup-by-requires
    same_length
    returns)
