-- Each piece is read where the one before it ended.
use Rattle.std.proofs.Common.{rules}
use Rattle.dimacs.specs.Header.{header_rest}
use Rattle.dimacs.proofs.read_clause_count.Goals as goal

pub returns-in_err-space : goal.returns-in_err-space
unfolding header_rest
returns-in_err-space c = search rules

pub returns-in_err-n : goal.returns-in_err-n
unfolding header_rest
returns-in_err-n c = search rules

pub returns-in_err-body : goal.returns-in_err-body
unfolding header_rest
returns-in_err-body c = search rules

pub returns : goal.returns
unfolding header_rest
returns c = search rules
