-- By the test of the window's lengths, and by what the call on the tables has answered.
use Rattle.std.proofs.Common.{◌∙◌}
use Rattle.tables.specs.Tables.{tables}
use Rattle.window.specs.Window.{places}
use Rattle.load.specs.Load.{load_formula}
use Rattle.load.specs.Laid.{either_verdict, either_clauses}
use Rattle.load.proofs.Emptying.{window_short, window_long}
use Rattle.load.proofs.load_with.Goals as goal

pub returns-then-not-long_ok : goal.returns-then-not-long_ok
returns-then-not-long_ok c = let a = c.args in let given = tables a.clauses.now a.literals.now a.variables.now a.times.now a.links.now in
    window_short (load_formula (either_verdict a.source) (either_clauses a.source) given a.st) given a.st (places a.sizes.now a.learnt.now a.window) (c.long_ok.ensures a.window) c.if-not-long_ok.true

pub empty_window-requires : goal.empty_window-requires
empty_window-requires c = (c.long_ok.ensures c.args.window).holds c.if-not-long_ok.false

pub returns : goal.returns
returns c = let a = c.args in let given = tables a.clauses.now a.literals.now a.variables.now a.times.now a.links.now in
    c.empty_window.ensures _
    ∙ window_long (load_formula (either_verdict a.source) (either_clauses a.source) given a.st) given a.st (places a.sizes.now a.learnt.now a.window) (c.long_ok.ensures a.window) c.if-not-long_ok.false c.load_formula-outcome.ensures
