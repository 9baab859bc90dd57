-- `load::put_record` meets its contract: three stores. Assumes nothing.
use lib.ListN.{length-set}
use native.Mathlib.Omega.{arith}
use borrow.Author.Rules.{rules}
use Rattle.load.proofs.put_record.Statement.{statement}
use Rattle.load.proofs.put_record.Tie as tie

mul-i : tie.Need-overflow_mul-i
mul-i c = search rules

mul-clauses : tie.Need-offset_bounds-clauses-i
mul-clauses c = search rules

slice-write-clauses : tie.Need-bounds-clauses-i
slice-write-clauses c = search rules

add-clauses : tie.Need-overflow_add-clauses
add-clauses c = search rules

mul-clauses-2 : tie.Need-offset_bounds-clauses-i-2
mul-clauses-2 c = search rules

slice-write-clauses-2 : tie.Need-bounds-clauses-i-2
slice-write-clauses-2 c = simp length-set (omega arith)

add-clauses-2 : tie.Need-overflow_add-clauses-2
add-clauses-2 c = search rules

mul-clauses-3 : tie.Need-offset_bounds-clauses-i-3
mul-clauses-3 c = search rules

slice-write-clauses-3 : tie.Need-bounds-clauses-i-3
slice-write-clauses-3 c = simp length-set (omega arith)

same_length : tie.Need-shape_of-clauses
same_length c = search rules

returns : tie.Need-returns
returns c = search rules

pub put_record_spec : {M : Type 1} → statement M
put_record_spec =
    tie.close
    (tie.spec
    mul-i
    mul-clauses
    slice-write-clauses
    add-clauses
    mul-clauses-2
    slice-write-clauses-2
    add-clauses-2
    mul-clauses-3
    slice-write-clauses-3
    same_length
    returns)
