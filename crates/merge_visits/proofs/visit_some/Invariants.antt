-- The visits that are left from here give what all of them give (`Passing`), and the marks are as they were.
use Rattle.std.proofs.Common.{◌≡◌}
use Rattle.repeats.specs.Marks.{no_marks}
use Rattle.merge_visits.proofs.Passing.{Passing}
use Rattle.merge_visits.proofs.visit_some.Given as goal

abbrev pub invariant-loop-i : goal.invariant-loop-i
invariant-loop-i l = Passing l.k l.end l.i l.variables l.fn.clauses l.fn.literals l.clauses l.literals × (l.marks ≡ no_marks)
