-- `simplify::run_loaded` meets its contract: the mark decides. Assumes nothing.
use mathlib.Core.Path.{◌∙◌}
use Rattle.tables.specs.Tables.{tables}
use Rattle.tables.specs.Calls.{after}
use Rattle.simplify.proofs.Simplified.{marked_load, unmarked_load}
use borrow.Author.Rules.{rules}
use Rattle.simplify.proofs.run_loaded.Statement.{statement}
use Rattle.simplify.proofs.run_loaded.Tie as tie

returns : tie.Need-returns-then-st
returns c =
    marked_load c.args.loaded.state.mark c.args.rounds (after c.args.loaded (tables c.args.clauses.now c.args.literals.now c.args.variables.now c.args.times.now c.args.links.now)) c.if-st.true

run-requires : tie.Need-run-requires
run-requires c κs = search rules

same_length : tie.Need-shape_of-clauses
same_length c = search rules

same-length-2 : tie.Need-shape_of-literals
same-length-2 c = search rules

same-length-3 : tie.Need-shape_of-variables
same-length-3 c = search rules

same-length-4 : tie.Need-shape_of-times
same-length-4 c = search rules

same-length-5 : tie.Need-shape_of-links
same-length-5 c = search rules

returns-2 : tie.Need-returns
returns-2 c =
    c.run.ensures ∙ unmarked_load c.args.loaded.state.mark c.args.rounds (after c.args.loaded (tables c.args.clauses.now c.args.literals.now c.args.variables.now c.args.times.now c.args.links.now)) c.if-st.false

pub run_loaded_spec : {M : Type 1} → statement M
run_loaded_spec =
    tie.close
    (tie.spec
    returns
    run-requires
    same_length
    same-length-2
    same-length-3
    same-length-4
    same-length-5
    returns-2)
