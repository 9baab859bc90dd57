use Rattle.std.proofs.Common.{◌≡◌, refl, sym, ◌∙◌, List, [], ℤ, rules, arith, length, ◌<◌, ◌≤◌}
use Rattle.base.specs.Lists.{filter}
use Rattle.literal.proofs.Signed.{read}
use Rattle.literal.proofs.Compact.{finish}
use Rattle.propagate_visits.specs.Visits.{not_false}
use Rattle.propagate_visits.proofs.Scanning.{moving_stays, moving_goes}
use Rattle.propagate_visits.proofs.remove_false.Goals as goal
use Rattle.propagate_visits.proofs.remove_false.Goals.{then-not-is_false, else-not-is_false}

nothing_left : (variables : List ℤ) → not_false variables [] ≡ []
unfolding filter
nothing_left variables = refl

pub loop-i-preserved : goal.loop-i-preserved
loop-i-preserved c =
    let at = c.loop-i in
    let lt : at.i < length at.part = omega arith in
    let r = read at.part at.i (search rules) in
    let e = rw r at c.is_false.ensures in
    elim c.if-not-is_false.branch [
      | then-not-is_false w ↦ rw (w.part-is, w.n-is, r) (moving_stays at.invariant lt (sym e ∙ w.if-not-is_false.true))
      | else-not-is_false w ↦ rw (w.part-is, w.n-is) (moving_goes at.invariant lt (sym e ∙ w.if-not-is_false.false))
    ]

pub returns : goal.returns
returns c =
    let all : length c.loop-i.part ≤ c.loop-i.i = omega arith in
    finish c.loop-i.invariant.compact all (λ s. nothing_left c.args.variables.now) c.zero_from.ensures
