-- What is read is a literal as it stood at the start; its mark tells whether it was kept, and that of its complement whether the variable has both signs. Assumes nothing.
use Rattle.std.proofs.Common.{ℕ, ◌≡◌, ◌<◌, length, get_or, set, Bool, ◌||◌, List, ℤ, pos, arith, sym, ap, subst, ◌∙◌, to_z, of_z, w32}
use lib.IntN.{neg_ℤ}
use mathlib.Core.Bool.{or-true, or-false}
use borrow.Author.Tests.{eq-eqb, ne_eqb}
use Rattle.literal.specs.Literals.{Literal}
use Rattle.repeats.specs.Marks.{mark_of}
use Rattle.repeats.proofs.Marks.{mark_inside, literal_small, literal_turned, literal_read, other_read}
use Rattle.repeats.proofs.Keeping.{keeping_is, behind, same_size, unread, at_hand, marks_size, says_new, says_kept, says_either, keeping_repeat, keeping_new}
use Rattle.repeats.proofs.keep_first.Goals as goal
use Rattle.repeats.proofs.keep_first.Goals.{then-is_new, then-marks-other-eq1, else-marks-other-eq1, else-is_new}

-- a mark's place, from what the call of `mark_of` says
mark_has : {z : ℤ} {y : ℤ} {place : ℕ} (marks : List ℕ) → Literal 1024 z → y ≡ z → place ≡ mark_of y → length marks ≡ 2049 → place < length marks
mark_has marks Z e q size = subst (λ (k : ℕ). k < length marks) (sym (q ∙ ap mark_of e)) (mark_inside marks Z size)

pub mark_of-mark-requires : goal.mark_of-mark-requires
mark_of-mark-requires c = let Z = at_hand c.loop-i.invariant c.requires.literals c.loop-i-test.true in rw (literal_read Z) Z

pub complement-requires : goal.complement-requires
complement-requires c = let Z = at_hand c.loop-i.invariant c.requires.literals c.loop-i-test.true in rw (literal_read Z) (literal_small Z)

pub mark_of-other-requires : goal.mark_of-other-requires
mark_of-other-requires c = let Z = at_hand c.loop-i.invariant c.requires.literals c.loop-i-test.true in rw (other_read Z c.complement.ensures) (literal_turned Z)

pub bounds-marks-mark : goal.bounds-marks-mark
bounds-marks-mark c =
    let Z = at_hand c.loop-i.invariant c.requires.literals c.loop-i-test.true in
    mark_has c.loop-i.marks Z (literal_read Z) c.mark_of-mark.ensures (marks_size c.loop-i.invariant)

pub bounds-marks-other : goal.bounds-marks-other
bounds-marks-other c =
    let Z = at_hand c.loop-i.invariant c.requires.literals c.loop-i-test.true in
    mark_has c.loop-i.marks (literal_turned Z) (other_read Z c.complement.ensures) c.mark_of-other.ensures (marks_size c.loop-i.invariant)

pub bounds-marks-mark-then-is_new : goal.bounds-marks-mark-then-is_new
bounds-marks-mark-then-is_new c =
    let Z = at_hand c.loop-i.invariant c.requires.literals c.loop-i-test.true in
    mark_has c.loop-i.marks Z (literal_read Z) c.mark_of-mark.ensures (marks_size c.loop-i.invariant)

pub bounds-part-n : goal.bounds-part-n
bounds-part-n c = omega (arith, behind c.loop-i.invariant, same_size c.loop-i.invariant)

pub loop-i-preserved : goal.loop-i-preserved
loop-i-preserved c =
    let at = c.loop-i in
    let K = at.invariant in
    let x = get_or c.args.part.now at.i (pos 0) in
    let X : Literal 1024 x = c.requires.literals at.i c.loop-i-test.true in
    let Z = at_hand K c.requires.literals c.loop-i-test.true in
    let here : to_z w32 (of_z w32 (get_or at.part at.i (pos 0))) ≡ x = literal_read Z ∙ unread K in
    let mark_is : c.mark_of-mark.result ≡ mark_of x = c.mark_of-mark.ensures ∙ ap mark_of here in
    let other_is : c.mark_of-other.result ≡ mark_of (neg_ℤ x) = c.mark_of-other.ensures ∙ ap mark_of (other_read Z c.complement.ensures ∙ ap neg_ℤ (unread K)) in
    elim c.if-is_new.branch [
      | then-is_new w ↦ keeping_is
          (keeping_new K c.loop-i-test.true (says_new K c.requires.literals X mark_is w.if-is_new.true)
          (elim w.if-marks-other-eq1.branch [
            | then-marks-other-eq1 w' ↦ w'.both-is ∙ sym (or-true at.both) ∙ ap (λ (b : Bool). at.both || b) (sym (eq-eqb _ 1 w'.if-marks-other-eq1.true))
            | else-marks-other-eq1 w' ↦ w'.both-is ∙ sym (or-false at.both) ∙ ap (λ (b : Bool). at.both || b) (sym (ne_eqb _ 1 w'.if-marks-other-eq1.false))
          ]
          ∙ ap (λ (b : Bool). at.both || b) (says_either K c.requires.literals (literal_turned X) other_is)))
          (w.part-is ∙ ap (λ (l : ℤ). set at.part at.n l) here)
          (w.marks-is ∙ ap (λ (k : ℕ). set at.marks k 1) mark_is)
          w.n-is
          w.both-is
      | else-is_new w ↦ keeping_is
          (keeping_repeat K c.loop-i-test.true (says_kept K c.requires.literals X mark_is w.if-is_new.false))
          w.part-is
          w.marks-is
          w.n-is
          w.both-is
    ]
