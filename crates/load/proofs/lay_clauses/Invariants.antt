-- What is laid and what is to come are all of the clauses (`Laying`), with no mark set.
use Rattle.std.proofs.Common.{◌≡◌}
use Rattle.repeats.specs.Marks.{no_marks}
use Rattle.load.proofs.Laying.{Laying}
use Rattle.load.proofs.lay_clauses.Given as goal

abbrev pub invariant-loop-k : goal.invariant-loop-k
invariant-loop-k l = Laying l.n l.numbers l.fn.clauses l.fn.literals l.clauses l.literals l.p × (l.p.clauses ≡ l._k) × (l.marks ≡ no_marks)
