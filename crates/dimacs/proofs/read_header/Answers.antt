-- Each piece is read where the one before it ended.
use Rattle.std.proofs.Common.{rules}
use Rattle.dimacs.specs.Header.{header}
use Rattle.dimacs.proofs.read_header.Goals as goal

pub returns-in_err-begin : goal.returns-in_err-begin
unfolding header
returns-in_err-begin c = search rules

pub returns-in_err-p_cnf : goal.returns-in_err-p_cnf
unfolding header
returns-in_err-p_cnf c = search rules

pub returns-in_err-v : goal.returns-in_err-v
unfolding header
returns-in_err-v c = search rules

pub returns : goal.returns
unfolding header
returns c = search rules
