-- `failed::fail_variable` meets its contract. Assumes nothing.
use mir.Syntax.{w32}
use mir.Val.{of_z, to_z}
use mir.Facts.{to_z-of_z}
use borrow.Author.Rules.{sfits_of}
use Rattle.std.proofs.Common.{◌≡◌, ◌*◌, ℤ, true, arith, sym, ap, ◌∙◌}
use Rattle.literal.specs.Literals.{lit_at, twin}
use Rattle.stamp_columns.specs.Columns.{columns}
use Rattle.hidden.specs.Failed.{same_start}
use Rattle.failed.specs.Failed.{assert}
use Rattle.failed.proofs.Failing.{able_rooted, able_twin, failed_small, complement_small, complement_known, at_apart, at_failed}
use Rattle.failed.proofs.fail_variable.Goals as goal

pub same_start-requires : goal.same_start-requires
same_start-requires c = (able_rooted c.requires.0, able_twin c.requires.0)

pub returns-then-not-same_start : goal.returns-then-not-same_start
returns-then-not-same_start c v S lt =
    let a = c.args in
    at_apart (columns a.times.now a.links.now) (2 * v) a.w a.variables.now a.n (sym (c.same_start.ensures a.times.now) ∙ c.if-not-same_start.true)

pub twin_of-t-requires : goal.twin_of-t-requires
twin_of-t-requires c =
    let same : same_start (columns c.args.times.now c.args.links.now) (2 * c.args.w) ≡ true = sym (c.same_start.ensures c.args.times.now) ∙ c.if-not-same_start.false in
    failed_small c.requires.0 same c.climb-failed.result c.climb-failed.ensures

-- both slots of the variable are small
pub lit_at-l-requires : goal.lit_at-l-requires
lit_at-l-requires c =
    let same : same_start (columns c.args.times.now c.args.links.now) (2 * c.args.w) ≡ true = sym (c.same_start.ensures c.args.times.now) ∙ c.if-not-same_start.false in
    omega (arith, failed_small c.requires.0 same c.climb-failed.result c.climb-failed.ensures, complement_small c.requires.0 same c.climb-failed.result c.climb-failed.ensures, c.twin_of-t.ensures)

pub assert_true-requires : goal.assert_true-requires
assert_true-requires c =
    let same : same_start (columns c.args.times.now c.args.links.now) (2 * c.args.w) ≡ true = sym (c.same_start.ensures c.args.times.now) ∙ c.if-not-same_start.false in
    let lit : to_z w32 (of_z w32 c.lit_at-l.result) ≡ lit_at (twin c.climb-failed.result) = to_z-of_z {w = w32} (sfits_of c.lit_at-l.type_inv) ∙ c.lit_at-l.ensures ∙ ap lit_at c.twin_of-t.ensures in
    (rw lit (complement_known c.requires.0 same c.climb-failed.result c.climb-failed.ensures), c.requires.1)

pub returns : goal.returns
returns c v S lt =
    let a = c.args in
    let same : same_start (columns a.times.now a.links.now) (2 * a.w) ≡ true = sym (c.same_start.ensures a.times.now) ∙ c.if-not-same_start.false in
    let lit : to_z w32 (of_z w32 c.lit_at-l.result) ≡ lit_at (twin c.climb-failed.result) = to_z-of_z {w = w32} (sfits_of c.lit_at-l.type_inv) ∙ c.lit_at-l.ensures ∙ ap lit_at c.twin_of-t.ensures in
    c.assert_true.ensures
    ∙ ap (λ (l : ℤ). assert l a.variables.now a.n) lit
    ∙ at_failed (columns a.times.now a.links.now) (2 * v) a.w a.variables.now a.n same c.climb-failed.result (c.climb-failed.ensures v S (omega arith))
