-- `stamp::answer` meets its contract. Assumes nothing.
use mathlib.Core.Path.{sym, ap}
use mathlib.Core.Bool.{Bool}
use Rattle.stamp.specs.Asking.{answer_of}
use borrow.Author.Rules.{rules}
use Rattle.stamp.proofs.answer.Statement.{statement}
use Rattle.stamp.proofs.answer.Tie as tie

returns : tie.Need-returns-then-cyclic
returns c = sym (ap (λ (b : Bool). answer_of b c.args.st) c.if-cyclic.true)

closed-requires : tie.Need-closed-requires
closed-requires c κs = search rules

returns-2 : tie.Need-returns
returns-2 c = rw c.closed.ensures (sym (ap (λ (b : Bool). answer_of b c.args.st) c.if-cyclic.false))

pub answer_spec : {M : Type 1} → statement M
answer_spec = tie.close (tie.spec
    returns
    closed-requires
    returns-2)
