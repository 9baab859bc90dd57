-- One code more is followed, or the mark stops the round. Assumes nothing.
use Rattle.tables.specs.Tables.{tables}
use Rattle.settle.specs.Steps.{standing_in}
use Rattle.run.proofs.Rounds.{following_none, following_stops, following_more, following_done}
use Rattle.run.proofs.round.Goals as goal

pub loop-code-init : goal.loop-code-init
loop-code-init c = following_none c.requires.0

pub follow-state-requires : goal.follow-state-requires
follow-state-requires c = c.loop-code.invariant.runs

pub returns-then-state : goal.returns-then-state
returns-then-state c =
    let f = c.follow-state in
    let left = standing_in (tables f.new.clauses f.new.literals f.new.variables f.new.times f.new.links) f.result in
    following_stops c.loop-code.invariant c.loop-code-test.true left f.ensures c.if-state.true

pub loop-code-preserved : goal.loop-code-preserved
loop-code-preserved c =
    let f = c.follow-state in
    let left = standing_in (tables f.new.clauses f.new.literals f.new.variables f.new.times f.new.links) f.result in
    following_more c.loop-code.invariant c.loop-code-test.true left f.ensures c.if-state.false
    (record { clauses = f.auto.clauses; literals = f.auto.literals; variables = f.auto.variables; times = f.auto.times; links = f.auto.links })

pub returns : goal.returns
returns c = following_done c.loop-code.invariant c.loop-code-test.false
