-- The loop of `visits::count_standing`: what is counted so far, and what the records that are left give, make the whole (`Counting`).
use Rattle.visits.proofs.Counting.{Counting}
use Rattle.visits.proofs.count_standing.Given as goal

abbrev pub invariant-loop-i : goal.invariant-loop-i
invariant-loop-i l = Counting l.n l.clauses l.i l.standing l.literals
