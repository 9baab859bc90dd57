-- `stamp_columns::finish` meets its contract. Assumes nothing.
use Rattle.stamp_columns.proofs.Columns.{column_finishes}
use mathlib.Core.List.{[]}
use mathlib.Core.Path.{sym}
use borrow.Author.Rules.{rules}
use Rattle.stamp_columns.proofs.finish.Statement.{statement}
use Rattle.stamp_columns.proofs.finish.Tie as tie
use Rattle.stamp_columns.proofs.finish.Reads as reads
use Rattle.stamp_columns.proofs.finish.Lts as lts

mul-result : tie.Need-overflow_mul-result
mul-result c = search rules

add-result : tie.Need-overflow_add-result
add-result c = search rules

mul-result-2 : tie.Need-offset_bounds-times-s
mul-result-2 c = search rules

shared-slice-read-result : tie.Need-bounds-times-s
shared-slice-read-result c = search rules

returns : tie.Need-returns
returns c = sym (column_finishes c.args.times.now [] c.args.s)

pub finish_spec : {M : Type 1} → statement M
finish_spec =
    tie.close (tie.spec
    mul-result
    add-result
    mul-result-2
    shared-slice-read-result
    returns)
