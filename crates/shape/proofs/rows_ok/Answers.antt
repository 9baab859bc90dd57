-- `shape::rows_ok`: a record that is right moves the floor, and the end where it has places (`Rows`). Assumes nothing.
use Rattle.std.proofs.Common.{◌≡◌, arith}
use Rattle.base.specs.Decide.{says_yes, says_no}
use Rattle.tables.specs.Tables.{start_of, length_of, standing}
use Rattle.shape.specs.Row.{Row}
use Rattle.shape.proofs.Rows.{row_must, rows_next, rows_empty}
use Rattle.shape.proofs.rows_ok.Goals as goal
use Rattle.shape.proofs.rows_ok.Goals.{then-len-ne0, else-len-ne0}

pub loop-i-preserved : goal.loop-i-preserved
loop-i-preserved c =
    let a = c.args in
    let l = c.loop-i in
    let row : Row (start_of a.clauses.now l.i) (length_of a.clauses.now l.i) (standing a.clauses.now l.i) l.floor l.end = c.row_ok.ensures.holds c.if-not-row_ok.false in
    elim c.if-len-ne0.branch [
      | then-len-ne0 w ↦ rw w.end-is (rows_next a.clauses.now l.i l.floor l.end l.invariant row w.if-len-ne0.true)
      | else-len-ne0 w ↦ rw w.end-is (rows_empty a.clauses.now l.i l.floor l.end l.invariant row w.if-len-ne0.false)
    ]

pub returns-then-not-row_ok : goal.returns-then-not-row_ok
returns-then-not-row_ok c =
    let a = c.args in
    let l = c.loop-i in
    says_no (λ P. c.row_ok.ensures.fails c.if-not-row_ok.true (row_must a.clauses.now l.i l.floor l.end l.invariant a.n c.loop-i-test.true P))

pub returns : goal.returns
returns c =
    let e : c.loop-i.i ≡ c.args.n = omega arith in
    says_yes (rw e at c.loop-i.invariant.so_far)
