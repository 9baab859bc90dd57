-- The length test decides `Long`, and so is `long_ok`.
use Rattle.std.proofs.Common.{◌∙◌}
use Rattle.tables.specs.Tables.{tables}
use Rattle.load.specs.Laid.{either_verdict, either_clauses}
use Rattle.load.proofs.Fill.{judged_layable, judged_loads, either_within, formula_short, formula_long, long_rooms}
use Rattle.load.proofs.load_formula.Goals as goal

pub returns-then-not-long_ok : goal.returns-then-not-long_ok
returns-then-not-long_ok c = let a = c.args in
    formula_short (either_verdict a.source) (either_clauses a.source)
    (tables a.clauses.now a.literals.now a.variables.now a.times.now a.links.now) a.st c.long_ok.ensures c.if-not-long_ok.true

pub lay_judged-requires : goal.lay_judged-requires
lay_judged-requires c = let a = c.args in
    let rooms = long_rooms (tables a.clauses.now a.literals.now a.variables.now a.times.now a.links.now) c.long_ok.ensures c.if-not-long_ok.false in
    (judged_layable c.judge-verdict.ensures (either_within a.source) _ _ rooms.0 rooms.1.0, rooms.1.1)

pub returns : goal.returns
returns c = let a = c.args in
    c.lay_judged.ensures a.times.now a.links.now
    ∙ judged_loads c.judge-verdict.ensures (tables a.clauses.now a.literals.now a.variables.now a.times.now a.links.now) a.st
    ∙ formula_long (either_verdict a.source) (either_clauses a.source)
    (tables a.clauses.now a.literals.now a.variables.now a.times.now a.links.now) a.st c.long_ok.ensures c.if-not-long_ok.false
