-- `learn::kept_as` meets its contract. Assumes nothing.
use Rattle.learn.proofs.Answering.{kept_whole, kept_short}
use Rattle.learn.proofs.kept_as.Statement.{statement}
use Rattle.learn.proofs.kept_as.Tie as tie

returns : tie.Need-returns-then-left-before
returns c = kept_whole c.args.before c.args.left c.if-left-before.true

returns-2 : tie.Need-returns
returns-2 c = kept_short c.args.before c.args.left c.if-left-before.false

pub kept_as_spec : {M : Type 1} → statement M
kept_as_spec = tie.close (tie.spec
    returns
    returns-2)
