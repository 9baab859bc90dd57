-- `run::follow_sweep` meets its contract. Assumes nothing.
use mathlib.Core.Path.{ap}
use Rattle.settle.specs.Settle.{between}
use borrow.Author.Rules.{rules}
use Rattle.run.proofs.follow_sweep.Statement.{statement}
use Rattle.run.proofs.follow_sweep.Tie as tie

sweep-entered-requires : tie.Need-sweep_entered-outcome-requires
sweep-entered-requires c κs = search rules

same_length : tie.Need-shape_of-clauses
same_length c = search rules

same-length-2 : tie.Need-shape_of-literals
same-length-2 c = search rules

returns : tie.Need-returns
returns c = λ variables. ap between (c.sweep_entered-outcome.ensures variables)

pub follow_sweep_spec : {M : Type 1} → statement M
follow_sweep_spec = tie.close (tie.spec
    sweep-entered-requires
    same_length
    same-length-2
    returns)
