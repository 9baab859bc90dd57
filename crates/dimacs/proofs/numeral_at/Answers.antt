-- The returns that `search` leaves, each one case of the definition, by the laws of Numerals.
use Rattle.std.proofs.Common.{rules, sym, ◌∙◌}
use Rattle.dimacs.proofs.Numerals.{numeral_bare, numeral_longer, numeral_literal, numeral_minus, numeral_leading}
use Rattle.dimacs.proofs.numeral_at.Goals as goal
use Rattle.dimacs.proofs.numeral_at.Goals.{then-next-at-via-then-next-at, then-next-at-via-else-next-at+then-not-ends_word, then-negative-via-then-negative, then-negative-via-else-negative+then-next-at-2}

pub returns-then-next-at : goal.returns-then-next-at
returns-then-next-at c = let a = c.args in
    let d = c.digits_at-d in
    elim c.then-next-at.branch [
      | then-next-at-via-then-next-at w ↦ sym (numeral_bare a.text.now a.at a.negative a.start d.result.value d.result.next d.ensures.0 d.ensures.1 w.if-next-at.true)
      | then-next-at-via-else-next-at+then-not-ends_word w ↦ sym (numeral_longer a.text.now a.at a.negative a.start d.result.value d.result.next d.ensures.0 d.ensures.1 (sym w.ends_word.ensures ∙ w.if-not-ends_word.true))
    ]

pub returns-then-text-at-ne48 : goal.returns-then-text-at-ne48
returns-then-text-at-ne48 c = let a = c.args in
    let d = c.digits_at-d in
    sym (numeral_literal a.text.now a.at a.negative a.start d.result.value d.result.next d.ensures.0 d.ensures.1 c.if-next-at.false
    (sym c.ends_word.ensures ∙ c.if-not-ends_word.false) c.if-text-at-ne48.true)

pub returns-then-negative : goal.returns-then-negative
returns-then-negative c = let a = c.args in
    let d = c.digits_at-d in
    let ends = sym c.ends_word.ensures ∙ c.if-not-ends_word.false in
    elim c.then-negative.branch [
      | then-negative-via-then-negative w ↦ sym (numeral_minus a.text.now a.at a.negative a.start d.result.value d.result.next d.ensures.0 d.ensures.1 c.if-next-at.false ends w.if-negative.true (search rules))
      | then-negative-via-else-negative+then-next-at-2 w ↦ sym (numeral_leading a.text.now a.at a.negative a.start d.result.value d.result.next d.ensures.0 d.ensures.1 c.if-next-at.false ends w.if-negative.false (search rules) w.if-next-at-2.true)
    ]
