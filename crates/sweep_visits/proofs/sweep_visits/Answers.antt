-- One visit more.
use native.Mathlib.Omega.{arith}
use Prim.Native.Nat.{◌+◌}
use Rattle.stamp_columns.specs.Columns.{columns}
use Rattle.tables.specs.Tables.{tables}
use Rattle.visits.proofs.Composing.{visit_tables}
use Rattle.sweep_visits.specs.Clause.{sweep_clause}
use Rattle.sweep_visits.proofs.VisitKeeps.{sweeping_none, sweeping_next, sweeping_more, sweeping_done}
use Rattle.sweep_visits.proofs.sweep_visits.Goals as goal

pub loop-i-init : goal.loop-i-init
loop-i-init c = sweeping_none c.args.k c.args.m c.args.clauses.now c.args.literals.now c.args.times.now c.args.links.now

pub visit_clause-requires : goal.visit_clause-requires
visit_clause-requires c = (sweeping_next c.loop-i.invariant c.loop-i-test.true c.requires.0, omega (arith, c.requires.1), omega (arith, c.requires.2))

pub loop-i-preserved : goal.loop-i-preserved
loop-i-preserved c =
    let l = c.loop-i in
    let a = c.args in
    let v = c.visit_clause in
    sweeping_more l.invariant c.loop-i-test.true v.new.clauses v.new.literals
    (λ w. visit_tables (sweep_clause (columns a.times.now a.links.now)) (a.k + l.i) (tables l.clauses l.literals w a.times.now a.links.now) (v.ensures w))

pub returns : goal.returns
returns c = sweeping_done c.loop-i.invariant c.loop-i-test.false
