-- A dropped clause gives nothing, a standing one its part.
use Rattle.std.proofs.Common.{arith, take, drop}
use Rattle.literal.proofs.Zeros.{mid}
use Rattle.write.proofs.Records.{clause_none, clause_some, wrote_none, wrote_one, one_length}
use Rattle.write.proofs.put_if_standing.Goals as goal

pub put_clause-requires : goal.put_clause-requires
put_clause-requires c =
    let a = c.args in
    let gives = clause_some a.flag (take a.len (drop a.start a.literals.now)) c.if-flag-ne0.true in
    rw (mid a.start a.len) (c.requires.2, omega (arith, one_length gives, c.requires.3))

pub returns-then-flag-ne0 : goal.returns-then-flag-ne0
returns-then-flag-ne0 c =
    let a = c.args in
    let gives = clause_some a.flag (take a.len (drop a.start a.literals.now)) c.if-flag-ne0.true in
    wrote_one gives (rw (mid a.start a.len) at c.put_clause.ensures)

pub returns-else-flag-ne0 : goal.returns-else-flag-ne0
returns-else-flag-ne0 c = let a = c.args in wrote_none (clause_none a.flag (take a.len (drop a.start a.literals.now)) c.if-flag-ne0.false)
