-- `run::follow_failed` meets its contract. Assumes nothing.
use mathlib.Core.Path.{ap}
use Rattle.settle.specs.Settle.{between}
use borrow.Author.Rules.{rules}
use Rattle.run.proofs.follow_failed.Statement.{statement}
use Rattle.run.proofs.follow_failed.Tie as tie

unless-stale-requires : tie.Need-unless_stale-outcome-requires
unless-stale-requires c κs = search rules

same_length : tie.Need-shape_of-variables
same_length c = search rules

returns : tie.Need-returns
returns c = λ clauses literals. ap between (c.unless_stale-outcome.ensures clauses literals)

pub follow_failed_spec : {M : Type 1} → statement M
follow_failed_spec = tie.close (tie.spec
    unless-stale-requires
    same_length
    returns)
