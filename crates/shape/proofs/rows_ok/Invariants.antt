-- The loop of `shape::rows_ok`: the first i records are right, with the last start and the largest end (`Rows`).
use Rattle.shape.proofs.Rows.{Rows}
use Rattle.shape.proofs.rows_ok.Given as goal

abbrev pub invariant-loop-i : goal.invariant-loop-i
invariant-loop-i l = Rows l.clauses l.i l.floor l.end
