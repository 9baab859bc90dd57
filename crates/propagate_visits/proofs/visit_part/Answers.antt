-- Each return is one of the fates.
use Rattle.std.proofs.Common.{arith, sym, ◌∙◌, rules}
use Rattle.literal.proofs.Signed.{read}
use Rattle.propagate_visits.proofs.Parting.{Removed, part_dropped, part_conflict, part_unit, part_left, unit_known}
use Rattle.visits.proofs.Known.{known_small}
use Rattle.propagate_visits.proofs.visit_part.Goals as goal
use Rattle.propagate_visits.proofs.visit_part.Goals.{After-remove_false}

-- no literal is true, and what is not false is left
removed : (c : After-remove_false) → Removed c.args.variables.now c.args.part.now c.remove_false.new.part c.remove_false.result
removed c = record { untrue = sym c.any_true.ensures ∙ c.if-any_true.false; count = c.remove_false.ensures.0; held = c.remove_false.ensures.1 }

pub returns-then-any_true : goal.returns-then-any_true
returns-then-any_true c = let a = c.args in part_dropped a.variables.now a.part.now c.zero_from.new.part (sym c.any_true.ensures ∙ c.if-any_true.true) c.zero_from.ensures

pub returns-in-0 : goal.returns-in-0
returns-in-0 c = part_conflict (removed (goal.at.returns-in-0 c).After-remove_false) c.in-0.is

pub set_true-requires : goal.set_true-requires
set_true-requires c = rw (read c.remove_false.new.part 0 (search rules)) (unit_known (removed (goal.at.set_true-requires c).After-remove_false) c.in-1.is c.requires.0)

pub var_of-requires : goal.var_of-requires
var_of-requires c = rw (read c.remove_false.new.part 0 (search rules)) (known_small (unit_known (removed (goal.at.var_of-requires c).After-remove_false) c.in-1.is c.requires.0))

pub returns-in-1 : goal.returns-in-1
returns-in-1 c =
    let e = read c.remove_false.new.part 0 (search rules) in
    part_unit (removed (goal.at.returns-in-1 c).After-remove_false) c.set_true.new.variables c.in-1.is (rw e at c.set_true.ensures) c.var_of.result (rw e at c.var_of.ensures)

pub returns-in_default : goal.returns-in_default
returns-in_default c = part_left (removed (goal.at.returns-in_default c).After-remove_false) (λ e. omega (arith, e)) (λ e. omega (arith, e))
