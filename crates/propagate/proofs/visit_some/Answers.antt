use Rattle.std.proofs.Common.{arith, ◌≤◌}
use Rattle.propagate_visits.proofs.Splitting.{ended_unless}
use Rattle.propagate_visits.proofs.Advancing.{first_few, first_ended, second_before, second_few, both_parts}
use Rattle.propagate.proofs.visit_some.Goals as goal

pub returns-in_default : goal.returns-in_default
returns-in_default c =
    let first = c.min-first.result in
    let few : first ≤ c.args.steps = omega arith in
    let r = c.visit_each-reach in
    first_ended c.requires c.args.flag c.args.steps first few r.result r.new.clauses r.new.literals r.new.variables r.ensures (ended_unless r.result.stand c.in_default.not-Going)

pub visit_listed-more-requires : goal.visit_listed-more-requires
visit_listed-more-requires c =
    let first = c.min-first.result in
    let few : first ≤ c.args.steps = omega arith in
    let r = c.visit_each-reach in
    second_before c.requires c.args.flag c.args.steps first few r.result r.new.clauses r.new.literals r.new.variables r.ensures c.in-Going.k c.in-Going.changed c.in-Going.is

pub overflow_add-result : goal.overflow_add-result
overflow_add-result c =
    let first = c.min-first.result in
    let few : first ≤ c.args.steps = omega arith in
    let r = c.visit_each-reach in
    let m = c.visit_listed-more in
    let some = first_few c.requires c.args.flag c.args.steps first few r.result r.new.clauses r.new.literals r.new.variables r.ensures in
    let more = second_few c.requires c.args.flag c.args.steps first few r.result r.new.clauses r.new.literals r.new.variables r.ensures c.in-Going.k c.in-Going.changed c.in-Going.is m.result m.new.clauses m.new.literals m.new.variables m.ensures in
    omega (arith, c.ranges.steps, some, more)

pub returns : goal.returns
returns c =
    let first = c.min-first.result in
    let few : first ≤ c.args.steps = omega arith in
    let r = c.visit_each-reach in
    let m = c.visit_listed-more in
    both_parts c.requires c.args.flag c.args.steps first few r.result r.new.clauses r.new.literals r.new.variables r.ensures c.in-Going.k c.in-Going.changed c.in-Going.is m.result m.new.clauses m.new.literals m.new.variables m.ensures
