-- The two edges are those of the definition.
use Rattle.std.proofs.Common.{◌∙◌}
use Rattle.stamp_columns.specs.Columns.{columns}
use Rattle.hidden_tautologies.proofs.Pairs.{two_first, two_second, first_edge, second_edge}
use Rattle.hidden_tautologies.proofs.hidden_pair.Goals as goal

pub transitive-requires : goal.transitive-requires
transitive-requires c = two_first c.requires c.twin_of.ensures

pub transitive-requires-else-transitive : goal.transitive-requires-else-transitive
transitive-requires-else-transitive c = two_second c.requires c.twin_of-else-transitive.ensures

pub returns-then-transitive : goal.returns-then-transitive
returns-then-transitive c = let a = c.args in c.if-transitive.true ∙ first_edge (columns a.times.now a.links.now) a.a a.b c.twin_of.ensures c.transitive.ensures c.if-transitive.true

pub returns-else-transitive : goal.returns-else-transitive
returns-else-transitive c =
    let a = c.args in
    second_edge (columns a.times.now a.links.now) a.a a.b c.twin_of.ensures c.transitive.ensures c.if-transitive.false c.twin_of-else-transitive.ensures c.transitive-else-transitive.ensures
