-- `compare::compare` meets its contract. Assumes nothing.
use Rattle.std.proofs.Common.{◌≡◌, true, sym, ◌∙◌}
use mir.Facts.{to_z-of_z}
use Rattle.literal.proofs.Signed.{back}
use Rattle.compare.specs.Compare.{has_record}
use Rattle.compare.proofs.Comparing.{refused_short, refused_first, refused_second, answered_by, record_known}
use Rattle.compare.proofs.compare.Goals as goal
use Rattle.compare.proofs.compare.Goals.{then-times-lt4096-via-then-times-lt4096, then-times-lt4096-via-else-times-lt4096+then-not-has_record, then-times-lt4096-via-else-times-lt4096+else-not-has_record+then-not-has_record-2}

pub returns-then-times-lt4096-clause-value : goal.returns-then-times-lt4096-clause-value
returns-then-times-lt4096-clause-value c = elim c.then-times-lt4096.branch [
  | then-times-lt4096-via-then-times-lt4096 w ↦ refused_short c.args.times.now c.args.v c.args.p c.args.q w.if-times-lt4096.true
  | then-times-lt4096-via-else-times-lt4096+then-not-has_record w ↦ refused_first c.args.times.now c.args.v c.args.p c.args.q (sym (rw (to_z-of_z c.ranges.p) at w.has_record.ensures) ∙ w.if-not-has_record.true)
  | then-times-lt4096-via-else-times-lt4096+else-not-has_record+then-not-has_record-2 w ↦ refused_second c.args.times.now c.args.v c.args.p c.args.q (sym (rw (to_z-of_z c.ranges.q) at w.has_record-else-not-has_record.ensures) ∙ w.if-not-has_record-2.true)
]

pub returns-clause-value : goal.returns-clause-value
returns-clause-value c =
    let e : has_record c.args.v c.args.p ≡ true = sym (rw (to_z-of_z c.ranges.p) at c.has_record.ensures) ∙ c.if-not-has_record.false in
    let f : has_record c.args.v c.args.q ≡ true = sym (rw (to_z-of_z c.ranges.q) at c.has_record-else-not-has_record.ensures) ∙ c.if-not-has_record-2.false in
    let P = record_known c.args.v c.args.p e in
    let Q = record_known c.args.v c.args.q f in
    answered_by c.args.times.now c.args.v c.args.p c.args.q c.if-times-lt4096.false e f (rw (back P.low) at c.slot_of-a.ensures) (rw (back Q.low) at c.slot_of-b.ensures) c.compare.ensures
