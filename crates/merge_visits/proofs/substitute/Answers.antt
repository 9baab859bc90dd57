use Rattle.std.proofs.Common.{arith, rules, ◌<◌, ◌∙◌, length, w32}
use mir.Facts.{to_z-of_z}
use borrow.Author.Rules.{sfits_of}
use Rattle.literal.proofs.Signed.{read}
use Rattle.merge_visits.proofs.Scanning.{putting_next}
use Rattle.merge_visits.proofs.substitute.Goals as goal

pub loop-l-preserved : goal.loop-l-preserved
loop-l-preserved c =
    let at = c.loop-l in
    let lt : at.l-index < length at.part = omega arith in
    let e = rw (read at.part at.l-index (search rules)) at c.class_literal.ensures in
    putting_next at.invariant lt _ (to_z-of_z {w = w32} (sfits_of c.class_literal.type_inv) ∙ e)
