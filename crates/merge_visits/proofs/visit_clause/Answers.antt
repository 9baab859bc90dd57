-- `merge_visits::visit_clause` meets its contract. Assumes nothing.
use Rattle.std.proofs.Common.{◌≡◌, ◌≤◌, arith, rules, subst, sym, refl, length, inl, inr}
use Rattle.base.specs.Decide.{zero_or}
use Rattle.tables.specs.Tables.{standing}
use Rattle.tables.specs.Clauses.{literals_of}
use Rattle.visits.specs.Formed.{EachKnown}
use Rattle.visits.specs.Visited.{part_of, part_after}
use Rattle.visits.proofs.Forming.{clause_known, part_short}
use Rattle.visits.proofs.Composing.{visited_gone, shrinks_variables, visited_is, visitable_inside}
use Rattle.merge_visits.specs.Clause.{merge_clause}
use Rattle.merge_visits.proofs.Visiting.{merge_shrinks}
use Rattle.merge_visits.proofs.visit_clause.Goals as goal

pub visit_clause-requires-clause-callable : goal.visit_clause-requires-clause-callable
visit_clause-requires-clause-callable c = λ p is.
    let R = c.requires.0 in
    let known : EachKnown c.args.variables.now p.now = subst (EachKnown c.args.variables.now) (sym is) (clause_known R.formed c.args.k R.below) in
    let short : length p.now ≤ 16384 = rw is (part_short R.formed c.args.k R.below) in
    search rules

pub returns : goal.returns
returns c =
    let a = c.args in
    let w = a.variables.now in
    let v = c.visit_clause in
    let now = literals_of a.clauses.now a.literals.now a.k in
    elim (zero_or (standing a.clauses.now a.k)) [
      | inl z ↦
          let same = v.ensures.gone z in (
            visited_gone a.k a.clauses.now a.literals.now w (merge_clause w) z v.result v.new.clauses v.new.literals w same.0 same.1 same.2 refl,
            search rules,
          )
      | inr h ↦
          let it = v.ensures.seen (λ e. omega (arith, e, h)) in
          let at = it.1 in
          let said : part_of v.result at.left.now ≡ part_after (merge_clause w at.shown.now) at.shown.now = search rules in
          let part : part_of v.result it.0 ≡ part_after (merge_clause w now) now = cc in (
            visited_is a.k a.clauses.now a.literals.now w (visitable_inside c.requires.0) (merge_clause w) (λ e. omega (arith, e, h)) v.result v.new.clauses v.new.literals it.0 w part (shrinks_variables w (merge_shrinks w _)) it.2 it.3,
            search rules,
          )
    ]
