-- `sweep_visits::visit_clause` meets its contract. Assumes nothing.
use Rattle.std.proofs.Common.{◌≡◌, ◌≤◌, length, take, sym, subst, refl, arith, rules, inl, inr}
use Rattle.std.proofs.Math.Seq.{length-take-le}
use Rattle.base.specs.Decide.{zero_or}
use Rattle.stamp_columns.specs.Columns.{columns}
use Rattle.tables.specs.Tables.{standing}
use Rattle.tables.specs.Clauses.{literals_of}
use Rattle.visits.specs.Visited.{part_of, part_after}
use Rattle.visits.proofs.Forming.{part_short}
use Rattle.visits.proofs.Composing.{visited_gone, shrinks_variables, visited_is, visitable_placed, visitable_inside}
use Rattle.hidden_tautologies.specs.Judged.{Judged}
use Rattle.sweep_visits.specs.Clause.{sweep_clause}
use Rattle.sweep_visits.proofs.Visiting.{sweep_shrinks, sweepable_one, sweepable_judged}
use Rattle.sweep_visits.proofs.visit_clause.Goals as goal

pub visit_clause-requires-clause-placed : goal.visit_clause-requires-clause-placed
visit_clause-requires-clause-placed c = visitable_placed (sweepable_one c.requires.0)

pub visit_clause-requires-clause-inside : goal.visit_clause-requires-clause-inside
visit_clause-requires-clause-inside c = visitable_inside (sweepable_one c.requires.0)

pub visit_clause-requires-clause-callable : goal.visit_clause-requires-clause-callable
visit_clause-requires-clause-callable c = λ p is.
    let a = c.args in
    let R = sweepable_one c.requires.0 in
    let known : Judged a.times.now a.links.now p.now = subst (Judged a.times.now a.links.now) (sym is) (sweepable_judged c.requires.0) in
    let short : length p.now ≤ 16384 = rw is (part_short R.formed a.k R.below) in
    let in_slots : length p.now ≤ length a.slots.now = omega (arith, short, c.requires.1) in
    let in_twins : length p.now ≤ length a.twins.now = omega (arith, short, c.requires.2) in
    let slots : length (take (length p.now) a.slots.now) ≡ length p.now = length-take-le (length p.now) a.slots.now in_slots in
    let twins : length (take (length p.now) a.twins.now) ≡ length p.now = length-take-le (length p.now) a.twins.now in_twins in
    search rules

pub returns : goal.returns
returns c = λ w.
    let a = c.args in
    let rule = sweep_clause (columns a.times.now a.links.now) in
    let v = c.visit_clause in
    let now = literals_of a.clauses.now a.literals.now a.k in
    elim (zero_or (standing a.clauses.now a.k)) [
      | inl z ↦
          let same = v.ensures.gone z in
          visited_gone a.k a.clauses.now a.literals.now w rule z v.result v.new.clauses v.new.literals w same.0 same.1 same.2 refl a.times.now a.links.now
      | inr h ↦
          let it = v.ensures.seen (λ e. omega (arith, e, h)) in
          let at = it.1 in
          let said : part_of v.result at.left.now ≡ part_after (rule at.shown.now) at.shown.now = search rules in
          let part : part_of v.result it.0 ≡ part_after (rule now) now = cc in
          visited_is a.k a.clauses.now a.literals.now w (visitable_inside (sweepable_one c.requires.0)) rule (λ e. omega (arith, e, h)) v.result v.new.clauses v.new.literals it.0 w part (shrinks_variables w (sweep_shrinks (columns a.times.now a.links.now) _)) it.2 it.3 a.times.now a.links.now
    ]
