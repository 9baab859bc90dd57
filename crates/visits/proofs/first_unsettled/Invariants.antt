-- The loop of `visits::first_unsettled`: no clause before i is unsettled (`FoundFrom`).
use Rattle.std.proofs.Common.{ℕ, List, ℤ}
use Rattle.tables.specs.Tables.{tables}
use Rattle.visits.proofs.Looking.{FoundFrom}
use Rattle.visits.proofs.first_unsettled.Given as goal

abbrev pub invariant-loop-i : goal.invariant-loop-i
invariant-loop-i l = (times : List ℕ) (links : List ℤ) → FoundFrom (tables l.clauses l.literals l.variables times links) l.n l.i
