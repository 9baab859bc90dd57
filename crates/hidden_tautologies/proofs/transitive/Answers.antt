-- The two tests are those of the definition.
use Rattle.std.proofs.Common.{◌∙◌}
use Rattle.stamp_columns.specs.Columns.{columns}
use Rattle.hidden_tautologies.proofs.Pairs.{not_held, held}
use Rattle.hidden_tautologies.proofs.transitive.Goals as goal

pub returns-then-holds : goal.returns-then-holds
returns-then-holds c = let a = c.args in held (columns a.times.now a.links.now) a.p a.q (c.holds.ensures a.links.now) c.if-holds.true c.parent.ensures

pub returns-else-holds : goal.returns-else-holds
returns-else-holds c = let a = c.args in c.if-holds.false ∙ not_held (columns a.times.now a.links.now) a.p a.q (c.holds.ensures a.links.now) c.if-holds.false
