-- No value gives nothing, a value one clause.
use Rattle.std.proofs.Common.{arith, ◌∙◌, w32, pos}
use Rattle.std.specs.Int.Signed.{non_neg}
use borrow.Author.Rules.{sfits_of}
use mir.Facts.{to_z-of_z}
use Rattle.literal.specs.Literals.{Small, lit_by}
use Rattle.literal.proofs.Signed.{is_lit, not_zero}
use Rattle.write.proofs.Records.{unit_none, unit_some, wrote_none, wrote_one, one_length, small_one}
use Rattle.write.proofs.Bounds.{abs_lit}
use Rattle.write.proofs.put_unit.Goals as goal

pub put_clause-requires : goal.put_clause-requires
put_clause-requires c =
    let a = c.args in
    let small : Small (lit_by (non_neg a.value) a.w) = record { small = omega (arith, abs_lit (non_neg a.value) a.w) } in
    let read = to_z-of_z {w = w32} {z = c.literal_of.result} (sfits_of c.literal_of.type_inv) ∙ (rw (to_z-of_z c.ranges.value) at c.literal_of.ensures) in
    let gives = unit_some a.w a.value (not_zero c.ranges.value c.if-value-ne0.true) in
    rw read (small_one small, omega (arith, one_length gives, c.requires.1))

pub returns-then-value-ne0 : goal.returns-then-value-ne0
returns-then-value-ne0 c =
    let a = c.args in
    let read = to_z-of_z {w = w32} {z = c.literal_of.result} (sfits_of c.literal_of.type_inv) ∙ (rw (to_z-of_z c.ranges.value) at c.literal_of.ensures) in
    let gives = unit_some a.w a.value (not_zero c.ranges.value c.if-value-ne0.true) in
    wrote_one gives (rw read at c.put_clause.ensures)

pub returns-else-value-ne0 : goal.returns-else-value-ne0
returns-else-value-ne0 c = let a = c.args in wrote_none (unit_none a.w a.value (is_lit c.ranges.value (pos 0) tt c.if-value-ne0.false))
