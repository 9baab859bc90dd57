-- The chains are measured on an empty part of the output, then written.
use Rattle.explain.proofs.Writing.{chains_short_of, chains_written}
use Rattle.explain.proofs.write_chains.Goals as goal

pub returns-then-out-needed : goal.returns-then-out-needed
returns-then-out-needed c = λ why S. chains_short_of why S c.args.links.now c.args.out.now c.put_chains-needed.ensures c.if-out-needed.true

pub returns : goal.returns
returns c = λ why S. chains_written why S c.args.links.now c.args.out.now c.put_chains-needed.ensures c.if-out-needed.false c.put_chains-written.ensures
