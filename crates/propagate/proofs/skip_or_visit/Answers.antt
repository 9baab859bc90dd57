-- `propagate::skip_or_visit` meets its contract. Assumes nothing.
use Rattle.std.proofs.Common.{[], ap, ◌∙◌}
use Rattle.tables.specs.Tables.{Tables, tables, length_of}
use Rattle.propagate_visits.specs.Steps.{stand_after}
use Rattle.visits.specs.declared.Visited.{Visited}
use Rattle.propagate_visits.proofs.Advancing.{contradicted_stand, advanced_visit}
use Rattle.propagate.proofs.Skipping.{relisted, advanced_skip}
use Rattle.propagate.proofs.skip_or_visit.Goals as goal

abbrev empty : Tables
empty = tables [] [] [] [] []

pub returns-then-at-j-clause-advanced : goal.returns-then-at-j-clause-advanced
returns-then-at-j-clause-advanced c =
    let j = c.next-j in
    advanced_skip c.args.changed c.requires.stands_before c.requires.listed j.result j.ensures.lower_bound.1.1 c.skip.result c.skip.ensures.visits_nonzero c.skip.ensures.t_value

pub returns-then-at-j-clause-listed_2 : goal.returns-then-at-j-clause-listed_2
returns-then-at-j-clause-listed_2 c =
    let j = c.next-j in
    λ d. relisted c.requires.listed j.new.self.flags j.new.self.blocks j.ensures.same_flags j.ensures.room j.ensures.covered_2

pub visit_pending-seen-requires-clause-listed : goal.visit_pending-seen-requires-clause-listed
visit_pending-seen-requires-clause-listed c =
    let j = c.next-j in
    relisted c.requires.listed j.new.self.flags j.new.self.blocks j.ensures.same_flags j.ensures.room j.ensures.covered_2

pub returns-clause-advanced : goal.returns-clause-advanced
returns-clause-advanced c =
    let seen = c.visit_pending-seen in
    advanced_visit c.args.changed c.requires.stands_before c.requires.room_nonzero c.stand_after-stand.result seen.result seen.new.clauses seen.new.literals seen.new.variables seen.ensures.by_index c.stand_after-stand.ensures

pub returns-clause-listed_2 : goal.returns-clause-listed_2
returns-clause-listed_2 c =
    let s = c.stand_after-stand in
    λ d. c.visit_pending-seen.ensures.listed_2 (λ z. d (contradicted_stand s.result empty (s.ensures empty ∙ ap (λ (y : Visited). stand_after c.args.n c.args.k c.args.changed (length_of c.args.clauses.now c.args.k) y empty) z)))
