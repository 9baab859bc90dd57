-- `stamp_columns::discovery` meets its contract. Assumes nothing.
use Rattle.stamp_columns.proofs.Columns.{column_discovery}
use mathlib.Core.List.{[]}
use mathlib.Core.Path.{sym}
use borrow.Author.Rules.{rules}
use Rattle.stamp_columns.proofs.discovery.Statement.{statement}
use Rattle.stamp_columns.proofs.discovery.Tie as tie
use Rattle.stamp_columns.proofs.discovery.Reads as reads
use Rattle.stamp_columns.proofs.discovery.Lts as lts

mul-result : tie.Need-overflow_mul-result
mul-result c = search rules

mul-result-2 : tie.Need-offset_bounds-times-s
mul-result-2 c = search rules

shared-slice-read-result : tie.Need-bounds-times-s
shared-slice-read-result c = search rules

returns : tie.Need-returns
returns c = sym (column_discovery c.args.times.now [] c.args.s)

pub discovery_spec : {M : Type 1} → statement M
discovery_spec = tie.close (tie.spec
    mul-result
    mul-result-2
    shared-slice-read-result
    returns)
