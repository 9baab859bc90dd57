-- The mark of one literal more is taken back: what is stored at its place is 0. Assumes nothing.
use Rattle.std.proofs.Common.{◌≡◌, ℕ, ◌+◌, ◌<◌, ℤ, pos, List, set, take, get_or, length, sym, ap, ◌∙◌, tests, rules}
use Rattle.std.proofs.lemmas.List.{take_more}
use Rattle.repeats.specs.Marks.{mark_of, with_mark}
use Rattle.repeats.proofs.Marks.{literal_read, with_mark_snoc}
use Rattle.repeats.proofs.unmark.Goals as goal

one_more : (part : List ℤ) (k : ℕ) (marks : List ℕ) {now : List ℕ} {mark stored : ℕ} → k < length part → now ≡ with_mark 0 (take k part) marks → mark ≡ mark_of (get_or part k (pos 0)) → stored ≡ 0 → set now mark stored ≡ with_mark 0 (take (k + 1) part) marks
one_more part k marks lt before place nought =
    (λ j. set (before j) (place j) (nought j)) ∙ sym (ap (λ (l : List ℤ). with_mark 0 l marks) (take_more part k (pos 0) lt) ∙ with_mark_snoc 0 (take k part) (get_or part k (pos 0)) marks)

pub loop-l-preserved : goal.loop-l-preserved
loop-l-preserved c =
    let k = c.loop-l.l-index in
    let literal = c.requires.literals k c.loop-l-test.true in
    one_more c.args.part.now k c.args.marks.now c.loop-l-test.true c.loop-l.invariant (c.mark_of-mark.ensures ∙ ap mark_of (literal_read literal)) (search (tests, rules))
