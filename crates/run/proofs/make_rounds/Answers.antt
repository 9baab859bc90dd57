-- One round more is made, or the run stops. Assumes nothing.
use Rattle.std.proofs.Common.{ℕ, ◌≡◌, true, false, arith, refl, ap, ◌∙◌}
use Rattle.state.specs.Programmes.{codes_of}
use Rattle.tables.specs.Tables.{tables}
use Rattle.settle.specs.Steps.{standing_in}
use Rattle.run.specs.Run.{rounds}
use Rattle.run.proofs.Rounds.{rounding_none, rounding_stops, rounding_more, rounding_done}
use Rattle.run.proofs.make_rounds.Goals as goal

pub loop-k-init : goal.loop-k-init
loop-k-init c = rounding_none (codes_of c.args.programme) c.args.count c.requires.0

pub make_round-requires : goal.make_round-requires
make_round-requires c = (c.loop-k.invariant.runs, c.requires.1)

pub returns-in-Break : goal.returns-in-Break
returns-in-Break c =
    let x = c.make_round in
    let arm = c.in-Break in
    let left = standing_in (tables x.new.clauses x.new.literals x.new.variables x.new.times x.new.links) arm.last in
    rounding_stops c.loop-k.invariant c.loop-k-test.true left arm.ensures.0 true arm.ensures.1 refl

pub loop-k-preserved : goal.loop-k-preserved
loop-k-preserved c =
    let x = c.make_round in
    let arm = c.in-Continue in
    let left = standing_in (tables x.new.clauses x.new.literals x.new.variables x.new.times x.new.links) arm.next in
    rounding_more c.loop-k.invariant c.loop-k-test.true left arm.ensures.0 false arm.ensures.1 refl
    (record { clauses = x.auto.clauses; literals = x.auto.literals; variables = x.auto.variables; times = x.auto.times; links = x.auto.links })

pub returns : goal.returns
returns c =
    let l = c.loop-k in
    let all : c.args.count ≡ l.k = omega (arith, l.invariant.within) in
    ap (λ (m : ℕ). rounds m (standing_in (tables l.clauses l.literals l.variables l.times l.links) l.state)) all ∙ rounding_done l.invariant c.loop-k-test.false
