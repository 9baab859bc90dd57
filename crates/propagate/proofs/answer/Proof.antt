-- `propagate::answer` meets its contract. Assumes nothing.
use borrow.Author.Rules.{rules}
use Rattle.propagate.proofs.answer.Statement.{statement}
use Rattle.propagate.proofs.answer.Tie as tie

enum-known-stand : tie.Need-enum_known-stand
enum-known-stand c = search rules

enum_told : tie.Need-enum_told-1
enum_told c = search rules

enum-told-2 : tie.Need-enum_told-in-Contradicted
enum-told-2 c = search rules

opened-requires : tie.Need-opened-requires
opened-requires c κs = search rules

closed-requires : tie.Need-closed-requires
closed-requires c κs = search rules

marked-requires : tie.Need-marked-requires
marked-requires c κs = search rules

returns : tie.Need-returns-in-Going
returns c = λ t. rw (c.opened.ensures, c.in-Going.is)

returns-2 : tie.Need-returns-in-Settled
returns-2 c = λ t. rw (c.closed.ensures, c.in-Settled.is)

returns-3 : tie.Need-returns-in-Contradicted
returns-3 c = λ t. rw (c.marked.ensures, c.in-Contradicted.is)

pub answer_spec : {M : Type 1} → statement M
answer_spec =
    tie.close (tie.spec
    enum-known-stand
    opened-requires
    enum_told
    closed-requires
    enum-told-2
    marked-requires
    returns
    returns-2
    returns-3)
