-- `load::end_clause` meets its contract. Assumes nothing.
use native.Mathlib.Omega.{arith}
use Rattle.base.proofs.Booleans.{or_when_true, or_when_false}
use Rattle.load.proofs.Steps.{kept_at_most, next_is, record_is}
use borrow.Author.Rules.{rules}
use Rattle.load.proofs.end_clause.Statement.{statement}
use Rattle.load.proofs.end_clause.Tie as tie

kept-size-requires : tie.Need-kept_size-size-requires
kept-size-requires c κs = search rules

cast-put-record : tie.Need-overflow_cast-p
cast-put-record c = search rules

cast-put-record-2 : tie.Need-overflow_cast-size
cast-put-record-2 c = omega (arith, c.kept_size-size.ensures, kept_at_most c.args.c, c.requires.small.1.1.1)

standing-flag-requires : tie.Need-standing_flag-requires
standing-flag-requires c κs = search rules

put-record-requires : tie.Need-put_record-requires
put-record-requires c κs = search rules

add-t17 : tie.Need-overflow_add-result
add-t17 c = search rules

add-t20 : tie.Need-overflow_add-result-2
add-t20 c = omega (arith, c.kept_size-size.ensures, kept_at_most c.args.c, c.requires.small.1.1.1, c.requires.small.1.0)

add-t23 : tie.Need-overflow_add-result-3
add-t23 c = search rules

add-t24 : tie.Need-overflow_add-result-4
add-t24 c = search rules

same_length : tie.Need-shape_of-clauses-then-p
same_length c = search rules

returns : tie.Need-returns-then-p
returns c = (next_is c.args.p c.args.c c.kept_size-size.ensures (or_when_true _ _ c.if-p.true), record_is c.args.clauses.now c.args.p c.args.c c.kept_size-size.ensures c.standing_flag.ensures c.put_record.ensures)

same-length-2 : tie.Need-shape_of-clauses-else-p
same-length-2 c = search rules

returns-2 : tie.Need-returns-else-p
returns-2 c = (next_is c.args.p c.args.c c.kept_size-size.ensures (or_when_false _ _ c.if-p.false), record_is c.args.clauses.now c.args.p c.args.c c.kept_size-size.ensures c.standing_flag.ensures c.put_record.ensures)

pub end_clause_spec : {M : Type 1} → statement M
end_clause_spec =
    tie.close
    (tie.spec
    kept-size-requires
    cast-put-record
    cast-put-record-2
    standing-flag-requires
    put-record-requires
    add-t17
    add-t20
    add-t23
    add-t24
    same_length
    returns
    same-length-2
    returns-2)
