-- `entry::entry_of` meets its contract: by the shape rule. Assumes nothing.
use Rattle.std.proofs.Common.{sym, ◌∙◌}
use Rattle.tables.specs.Tables.{tables}
use Rattle.entry.proofs.Entering.{entry_misshapen, entry_shaped}
use Rattle.entry.proofs.entry_of.Goals as goal

pub returns-then-not-shape_ok : goal.returns-then-not-shape_ok
returns-then-not-shape_ok c =
    let t = tables c.args.clauses.now c.args.literals.now c.args.variables.now c.args.times.now c.args.links.now in
    sym (entry_misshapen c.args.own t c.args.st (sym c.shape_ok.ensures ∙ c.if-not-shape_ok.true))

pub returns : goal.returns
returns c =
    let t = tables c.args.clauses.now c.args.literals.now c.args.variables.now c.args.times.now c.args.links.now in
    c.entry_by.ensures ∙ sym (entry_shaped c.args.own t c.args.st (sym c.shape_ok.ensures ∙ c.if-not-shape_ok.false))
