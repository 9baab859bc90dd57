-- `settle::merge_whole` meets its contract. Assumes nothing.
use mathlib.Core.Path.{ap}
use Rattle.settle.specs.Settle.{between}
use borrow.Author.Rules.{rules}
use Rattle.settle.proofs.merge_whole.Statement.{statement}
use Rattle.settle.proofs.merge_whole.Tie as tie

merge-open-requires : tie.Need-merge_open-outcome-requires
merge-open-requires c κs = search rules

same_length : tie.Need-shape_of-clauses
same_length c = search rules

same-length-2 : tie.Need-shape_of-literals
same-length-2 c = search rules

same-length-3 : tie.Need-shape_of-variables
same-length-3 c = search rules

returns : tie.Need-returns
returns c = λ times links. ap between (c.merge_open-outcome.ensures times links)

pub merge_whole_spec : {M : Type 1} → statement M
merge_whole_spec =
    tie.close (tie.spec
    merge-open-requires
    same_length
    same-length-2
    same-length-3
    returns)
