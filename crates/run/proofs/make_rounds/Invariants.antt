use Rattle.state.specs.Programmes.{codes_of}
use Rattle.tables.specs.Tables.{tables}
use Rattle.settle.specs.Steps.{standing_in}
use Rattle.run.proofs.Rounds.{Rounding}
use Rattle.run.proofs.make_rounds.Given as goal

-- the rounds that are left give what all of them give
abbrev pub invariant-loop-k : goal.invariant-loop-k
invariant-loop-k l =
    Rounding (codes_of l.programme) l.count (standing_in (tables l.fn.clauses l.fn.literals l.fn.variables l.fn.times l.fn.links) l.fn.st) (standing_in (tables l.clauses l.literals l.variables l.times l.links) l.state) l.k
