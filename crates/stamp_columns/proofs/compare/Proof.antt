-- `stamp_columns::compare` meets its contract. Assumes nothing.
use mathlib.Core.Path.{◌∙◌}
use Rattle.intervals.specs.Intervals.{compare}
use borrow.Author.Rules.{rules}
use Rattle.stamp_columns.proofs.compare.Statement.{statement}
use Rattle.stamp_columns.proofs.compare.Tie as tie
use Rattle.stamp_columns.proofs.compare.Reads as reads
use Rattle.stamp_columns.proofs.compare.Lts as lts
use Rattle.intervals.proofs.Interval.compare.Reads as compare-reads
use Rattle.stamp_columns.proofs.interval.Reads as interval-reads

interval-requires : tie.Need-interval-requires
interval-requires c κs = search rules

interval-requires-2 : tie.Need-interval-requires-2
interval-requires-2 c κs = search rules

compare-requires : tie.Need-compare-requires
compare-requires c κs = search rules

returns : tie.Need-returns
returns c = c.compare.ensures ∙ (λ i. compare (c.interval.ensures i) (c.interval-2.ensures i))

pub compare_spec : {M : Type 1} → statement M
compare_spec = tie.close (tie.spec
    interval-requires
    interval-requires-2
    compare-requires
    returns)
