-- `run::run_entered` meets its contract. Assumes nothing.
use mathlib.Core.Path.{ap}
use Rattle.run.specs.Run.{run_reply}
use borrow.Author.Rules.{rules}
use Rattle.run.proofs.run_entered.Statement.{statement}
use Rattle.run.proofs.run_entered.Tie as tie

run-rounds-requires : tie.Need-run_rounds-made-requires
run-rounds-requires c κs = search rules

same_length : tie.Need-shape_of-clauses
same_length c = search rules

same-length-2 : tie.Need-shape_of-literals
same-length-2 c = search rules

same-length-3 : tie.Need-shape_of-variables
same-length-3 c = search rules

same-length-4 : tie.Need-shape_of-times
same-length-4 c = search rules

same-length-5 : tie.Need-shape_of-links
same-length-5 c = search rules

returns : tie.Need-returns
returns c = ap run_reply c.run_rounds-made.ensures

pub run_entered_spec : {M : Type 1} → statement M
run_entered_spec =
    tie.close
    (tie.spec
    run-rounds-requires
    same_length
    same-length-2
    same-length-3
    same-length-4
    same-length-5
    returns)
