use Rattle.std.proofs.Common.{take}
use Rattle.tables.specs.Tables.{tables}
use Rattle.settle.specs.Steps.{standing_in}
use Rattle.run.proofs.Rounds.{Following}
use Rattle.run.proofs.round.Given as goal

-- what is left of the codes gives what all of them give
abbrev pub invariant-loop-code : goal.invariant-loop-code
invariant-loop-code l =
    Following (take l.count l.fn.programme.codes) l.k (standing_in (tables l.fn.clauses l.fn.literals l.fn.variables l.fn.times l.fn.links) l.fn.st) (standing_in (tables l.clauses l.literals l.variables l.times l.links) l.state) l.code-index
