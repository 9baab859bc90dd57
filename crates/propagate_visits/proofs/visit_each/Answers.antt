use Rattle.std.proofs.Common.{arith, ◌-◌, refl}
use Rattle.propagate_visits.specs.Steps.{Advanced}
use Rattle.propagate_visits.proofs.Stepping.{making_all}
use Rattle.propagate_visits.proofs.Splitting.{ended_unless}
use Rattle.propagate_visits.proofs.Advancing.{advanced_one, advanced_goes, advanced_ends}
use Rattle.propagate_visits.proofs.visit_each.Goals as goal
use Rattle.propagate_visits.proofs.visit_each.Goals.{After-step-stand}

-- the step is one visit
one : (c : After-step-stand) → Advanced c.args.n (c.args.steps - c.loop-made.made) c.loop-made.k c.loop-made.changed (record { visits = 1; stand = c.step-stand.result }) c.loop-made.clauses c.loop-made.literals c.loop-made.variables c.step-stand.new.clauses c.step-stand.new.literals c.step-stand.new.variables
one c =
    advanced_one c.loop-made.changed c.loop-made.invariant.stands (omega (arith, c.loop-made-test.true)) c.step-stand.result c.step-stand.new.clauses c.step-stand.new.literals c.step-stand.new.variables c.step-stand.ensures

pub returns-in_default : goal.returns-in_default
returns-in_default c =
    let s = c.step-stand in
    advanced_ends c.loop-made.invariant c.loop-made-test.true (record { visits = 1; stand = s.result }) s.new.clauses s.new.literals s.new.variables (one (goal.at.returns-in_default c).After-step-stand) s.result refl (ended_unless s.result c.in_default.not-Going)

pub loop-made-preserved : goal.loop-made-preserved
loop-made-preserved c =
    let s = c.step-stand in
    advanced_goes c.loop-made.invariant c.loop-made-test.true (record { visits = 1; stand = s.result }) s.new.clauses s.new.literals s.new.variables (one (goal.at.loop-made-preserved c).After-step-stand) c.in-Going.next c.in-Going.still c.in-Going.is s.auto.clauses s.auto.literals s.auto.variables

pub returns : goal.returns
returns c = making_all c.loop-made.invariant c.loop-made-test.false
