use Rattle.std.proofs.Common.{arith, ◌∙◌}
use Rattle.load.proofs.Laying.{collectable, ending_of, lay_next, lay_counts, laid_all}
use Rattle.load.proofs.lay_clauses.Goals as goal

pub lay_literals-c-requires : goal.lay_literals-c-requires
lay_literals-c-requires c = (collectable c.loop-k.invariant.0 (omega arith), c.loop-k.invariant.2)

pub end_clause-p-requires : goal.end_clause-p-requires
end_clause-p-requires c = ending_of c.loop-k.invariant.0 (omega arith) c.lay_literals-c.ensures.0

pub loop-k-preserved : goal.loop-k-preserved
loop-k-preserved c = let r = c.lay_literals-c in (
  lay_next c.loop-k.invariant.0 (omega arith) r.ensures.0 r.ensures.1.0 c.end_clause-p.ensures,
  omega (arith, lay_counts c.loop-k.invariant.0 (omega arith) r.ensures.0 c.end_clause-p.ensures.0),
  r.ensures.1.1 ∙ c.loop-k.invariant.2,
)

pub returns : goal.returns
returns c = laid_all c.loop-k.invariant.0 (omega arith)
