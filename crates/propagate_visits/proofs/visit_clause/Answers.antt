-- `propagate_visits::visit_clause` meets its contract. Assumes nothing.
use Rattle.std.proofs.Common.{◌≡◌, ◌≤◌, inl, inr, arith, rules, subst, sym, length, List, ℤ}
use Rattle.base.specs.Decide.{zero_or}
use Rattle.tables.specs.Tables.{standing}
use Rattle.tables.specs.Clauses.{literals_of}
use Rattle.visits.specs.Formed.{EachKnown}
use Rattle.visits.specs.Visited.{part_of, part_after, variables_after}
use Rattle.visits.proofs.Forming.{clause_known, part_short}
use Rattle.visits.proofs.Composing.{visited_gone, visited_is, visitable_inside}
use Rattle.propagate_visits.specs.Visits.{propagate_clause}
use Rattle.propagate_visits.proofs.visit_clause.Goals as goal

pub visit_clause-requires-clause-callable : goal.visit_clause-requires-clause-callable
visit_clause-requires-clause-callable c = λ p is.
    let R = c.requires in
    let known : EachKnown c.args.variables.now p.now = subst (EachKnown c.args.variables.now) (sym is) (clause_known R.formed c.args.k R.below) in
    let short : length p.now ≤ 16384 = rw is (part_short R.formed c.args.k R.below) in
    search rules

-- what is said of the clause that is shown holds of the clause
values_as : (w shown now : List ℤ) {after : List ℤ} → shown ≡ now → after ≡ variables_after (propagate_clause w shown) w → after ≡ variables_after (propagate_clause w now) w
values_as w shown now {after} same e = subst (λ (l : List ℤ). after ≡ variables_after (propagate_clause w l) w) same e

pub returns : goal.returns
returns c =
    let a = c.args in
    let w = a.variables.now in
    let v = c.visit_clause in
    let now = literals_of a.clauses.now a.literals.now a.k in
    elim (zero_or (standing a.clauses.now a.k)) [
      | inl z ↦
          let same = v.ensures.gone z in
          visited_gone a.k a.clauses.now a.literals.now w (propagate_clause w) z v.result v.new.clauses v.new.literals _ same.0 same.1 same.2 (search rules)
      | inr h ↦
          let it = v.ensures.seen (λ e. omega (arith, e, h)) in
          let at = it.1 in
          let said : part_of v.result at.left.now ≡ part_after (propagate_clause w at.shown.now) at.shown.now = search rules in
          let part : part_of v.result it.0 ≡ part_after (propagate_clause w now) now = cc in
          let same : at.shown.now ≡ now = cc in
          visited_is a.k a.clauses.now a.literals.now w (visitable_inside c.requires) (propagate_clause w) (λ e. omega (arith, e, h)) v.result v.new.clauses v.new.literals it.0 _ part
          (values_as w at.shown.now now same (search rules)) it.2 it.3
    ]
