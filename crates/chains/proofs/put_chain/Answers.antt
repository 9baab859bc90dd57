-- What is lent on is the chain.
use Rattle.std.proofs.Common.{◌+◌, ◌<◌, ◌^◌, sym, subst, List, length, ℤ, rules}
use Rattle.literal.specs.Literals.{EachSmall}
use Rattle.literal.proofs.Signed.{back}
use Rattle.printing.specs.Printing.{clause_text}
use Rattle.printing.specs.Stored.{Wrote}
use Rattle.chains.specs.Chains.{ends}
use Rattle.chains.proofs.Rowed.{end_small}
use Rattle.chains.proofs.Listing.{chain_small, row_chain}
use Rattle.chains.proofs.put_chain.Goals as goal

pub put_clause-requires : goal.put_clause-requires
put_clause-requires c =
    let small = end_small c.requires.0 in
    let lent = row_chain c.args.links.now c.climb-begin.new.row c.climb-begin.result (ends c.args.top c.args.bottom) _ (search rules) c.climb-begin.ensures.1 (λ i. ends (back small.0 i) (back small.1 i)) in
    subst (λ (C : List ℤ). EachSmall C × (c.args.writer.now.at + length (clause_text C) < 2 ^ 63)) (sym lent) (chain_small c.requires.0, c.requires.1)

pub returns : goal.returns
returns c =
    let small = end_small c.requires.0 in
    let lent = row_chain c.args.links.now c.climb-begin.new.row c.climb-begin.result (ends c.args.top c.args.bottom) _ (search rules) c.climb-begin.ensures.1 (λ i. ends (back small.0 i) (back small.1 i)) in
    subst (λ (C : List ℤ). Wrote (clause_text C) c.args.writer.now c.put_clause.new.self) lent c.put_clause.ensures
