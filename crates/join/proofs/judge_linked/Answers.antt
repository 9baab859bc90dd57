-- The tests as they come, and the numbers of both texts.
use Rattle.std.proofs.Common.{◌≡◌, sym, ◌∙◌, rules, arith}
use Rattle.join.specs.FunctionContracts.{LinksPut, both_in}
use Rattle.join.specs.Links.{pair_count, first_bad}
use Rattle.join.proofs.Numbering.{unnumbered}
use Rattle.join.proofs.Joining.{both_are, limits_are, renumberable, clauses_joined}
use Rattle.join.proofs.Judging.{over_refused, fit_accepted}
use Rattle.join.proofs.judge_linked.Goals as goal

pub link-requires : goal.link-requires
link-requires c = (c.requires.0.few, (c.requires.1.few, unnumbered))

pub returns-then-not-within_limits : goal.returns-then-not-within_limits
returns-then-not-within_limits c = let a = c.args in
    let told : (first_bad a.v a.w a.pairs.now ≡ pair_count a.pairs.now) × LinksPut a.pairs.now c.link.new.numbering = search rules in
    let B = both_are c.requires.0 c.requires.1 told c.number_rest-all.ensures c.size_in-end.ensures c.size_in-size.ensures in
    over_refused a.v a.n a.w a.m a.pairs.now (both_in a.v a.n a.pairs.now a.m a.numbers.now a.others.now) _ (omega (arith, told.0))
    (sym (limits_are B.0 B.1 c.within_limits.ensures) ∙ c.if-not-within_limits.true)

pub append-requires : goal.append-requires
append-requires c = let a = c.args in
    let told : (first_bad a.v a.w a.pairs.now ≡ pair_count a.pairs.now) × LinksPut a.pairs.now c.link.new.numbering = search rules in
    let B = both_are c.requires.0 c.requires.1 told c.number_rest-all.ensures c.size_in-end.ensures c.size_in-size.ensures in
    renumberable B.0 (sym (limits_are B.0 B.1 c.within_limits.ensures) ∙ c.if-not-within_limits.false)

pub returns : goal.returns
returns c = let a = c.args in
    let told : (first_bad a.v a.w a.pairs.now ≡ pair_count a.pairs.now) × LinksPut a.pairs.now c.link.new.numbering = search rules in
    let B = both_are c.requires.0 c.requires.1 told c.number_rest-all.ensures c.size_in-end.ensures c.size_in-size.ensures in
    let fits = sym (limits_are B.0 B.1 c.within_limits.ensures) ∙ c.if-not-within_limits.false in
    fit_accepted a.v a.n a.w a.m a.pairs.now (both_in a.v a.n a.pairs.now a.m a.numbers.now a.others.now) _ (omega (arith, told.0)) fits B.1 (clauses_joined B.0 fits c.append.ensures)
