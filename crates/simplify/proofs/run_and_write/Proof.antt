-- `simplify::run_and_write` meets its contract: what is run is written. Assumes nothing.
use mathlib.Core.Path.{ap, ◌∙◌}
use Rattle.tables.specs.Calls.{After}
use Rattle.write.specs.Write.{write_call}
use Rattle.simplify.proofs.Simplified.{write_fits}
use borrow.Author.Rules.{rules}
use Rattle.simplify.proofs.run_and_write.Statement.{statement}
use Rattle.simplify.proofs.run_and_write.Tie as tie

run-loaded-requires : tie.Need-run_loaded-ran-requires
run-loaded-requires c κs = search rules

write-requires : tie.Need-write-requires
write-requires c κs = search rules

same_length : tie.Need-shape_of-clauses
same_length c = search rules

same-length-2 : tie.Need-shape_of-literals
same-length-2 c = search rules

same-length-3 : tie.Need-shape_of-variables
same-length-3 c = search rules

same-length-4 : tie.Need-shape_of-times
same-length-4 c = search rules

same-length-5 : tie.Need-shape_of-links
same-length-5 c = search rules

same-length-6 : tie.Need-shape_of-out
same-length-6 c = search rules

returns : tie.Need-returns
returns c =
    (c.write.ensures ∙ ap (λ (a : After). write_call a.tables a.state c.args.out.now) c.run_loaded-ran.ensures, write_fits c.write.result _ _ _ _ c.write.ensures)

pub run_and_write_spec : {M : Type 1} → statement M
run_and_write_spec =
    tie.close
    (tie.spec
    run-loaded-requires
    write-requires
    same_length
    same-length-2
    same-length-3
    same-length-4
    same-length-5
    same-length-6
    returns)
