-- `propagate::visit_skipping` meets its contract. Assumes nothing.
use Rattle.std.proofs.Common.{arith, ◌≡◌, refl, sym, ◌∙◌, ℕ, Bool}
use Rattle.propagate_visits.specs.declared.Stand.{Stand}
use Rattle.propagate_visits.specs.declared.Stand.TheVariants.{Going, Contradicted}
use Rattle.propagate_visits.proofs.Stepping.{making_done}
use Rattle.propagate_visits.proofs.Splitting.{ended_unless}
use Rattle.propagate_visits.proofs.Advancing.{advanced_goes, advanced_ends}
use Rattle.propagate.proofs.visit_skipping.Goals as goal

-- a pass that goes on has not met the empty clause
goes_on : (s : Stand) (k : ℕ) (b : Bool) → s ≡ Going k b → s ≡ Contradicted → ⊥
goes_on s k b e d = let z : Going k b ≡ Contradicted = sym e ∙ d in let q : ◌≡◌ {A = ℕ} 0 1 = cc in omega arith

pub returns-in_default : goal.returns-in_default
returns-in_default c =
    let s = c.skip_or_visit-reach in
    advanced_ends c.loop-visits.invariant.0 c.loop-visits-test.true s.result s.new.clauses s.new.literals s.new.variables s.ensures.advanced s.result.stand refl (ended_unless s.result.stand c.in_default.not-Going)

pub loop-visits-preserved : goal.loop-visits-preserved
loop-visits-preserved c =
    let s = c.skip_or_visit-reach in
    let g = c.in-Going in (
      advanced_goes c.loop-visits.invariant.0 c.loop-visits-test.true s.result s.new.clauses s.new.literals s.new.variables s.ensures.advanced g.next g.still g.is s.auto.clauses s.auto.literals s.auto.variables,
      s.ensures.listed_2 (goes_on s.result.stand g.next g.still g.is),
    )

pub returns : goal.returns
returns c = making_done c.loop-visits.invariant.0 c.loop-visits-test.false
