-- `stamp_columns::interval` meets its contract. Assumes nothing.
use Rattle.intervals.specs.Intervals.{interval}
use borrow.Author.Rules.{rules}
use Rattle.stamp_columns.proofs.interval.Statement.{statement}
use Rattle.stamp_columns.proofs.interval.Tie as tie
use Rattle.stamp_columns.proofs.interval.Reads as reads
use Rattle.stamp_columns.proofs.interval.Lts as lts
use Rattle.stamp_columns.proofs.discovery.Reads as discovery-reads
use Rattle.stamp_columns.proofs.finish.Reads as finish-reads

discovery-requires : tie.Need-discovery-requires
discovery-requires c κs = search rules

finish-requires : tie.Need-finish-requires
finish-requires c κs = search rules

returns : tie.Need-returns
returns c = λ i. interval (c.discovery.ensures i) (c.finish.ensures i)

pub interval_spec : {M : Type 1} → statement M
interval_spec = tie.close (tie.spec
    discovery-requires
    finish-requires
    returns)
