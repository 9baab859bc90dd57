-- By the number of literals.
use Rattle.std.proofs.Common.{Option, unwrap_or, arith, ap, ◌∙◌}
use Rattle.stamp_columns.specs.Columns.{columns}
use Rattle.chains.specs.declared.Ends.{Ends}
use Rattle.explain.specs.Reasons.{pair_ends, no_ends}
use Rattle.explain.proofs.Clauses.{clause_timed}
use Rattle.explain.proofs.Searching.{stored_is, drop_pair, drop_long}
use Rattle.explain.proofs.drop_ends.Goals as goal

pub returns-then-part-eq2 : goal.returns-then-part-eq2
returns-then-part-eq2 c =
    let σ = columns c.args.times.now c.args.links.now in
    let L = (clause_timed c.requires).lits in
    c.pair_ends.ensures ∙ (λ i. pair_ends σ (stored_is (L.each 0 (omega (arith, c.if-part-eq2.true))) i) (stored_is (L.each 1 (omega (arith, c.if-part-eq2.true))) i)) ∙ drop_pair σ c.args.part.now c.if-part-eq2.true

pub returns : goal.returns
returns c = c.unwrap_or.ensures ∙ ap (λ (o : Option Ends). unwrap_or o no_ends) (c.long_ends.ensures c.args.links.now) ∙ drop_long (columns c.args.times.now c.args.links.now) c.args.part.now c.if-part-eq2.false
