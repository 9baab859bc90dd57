-- A number within the limit.
use Rattle.std.proofs.Common.{sym, ◌∙◌}
use Rattle.dimacs.proofs.Head.{number_is}
use Rattle.dimacs.proofs.number_at.Goals as goal

pub returns : goal.returns
returns c = let a = c.args in
    let d = c.digits_at-digits in
    sym (number_is a.text.now a.at c.if-text-at.false a.limit d.result.next d.result.value c.if-text-at-eq48.false (sym c.is_digit.ensures ∙ c.if-not-is_digit.false) d.ensures.1 d.ensures.0 c.requires c.if-limit-digits.false)
