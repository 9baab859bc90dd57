-- The next right variable, linked or not.
use Rattle.std.proofs.Common.{ℕ, ◌+◌, List, sym, subst₂}
use Rattle.join.proofs.Numbering.{Loop, loop_none, loop_linked, loop_numbered}
use Rattle.join.proofs.number_rest.Goals as goal
use Rattle.join.proofs.number_rest.Goals.{then-numbering-i-eq0, else-numbering-i-eq0}

pub loop-i-init : goal.loop-i-init
loop-i-init c = loop_none c.requires.0 c.requires.1.0 c.requires.1.1

pub loop-i-preserved : goal.loop-i-preserved
loop-i-preserved c = let a = c.args in let l = c.loop-i in
    elim c.if-numbering-i-eq0.branch [
      | then-numbering-i-eq0 w ↦ subst₂ (λ (ns : List ℕ) (k : ℕ). Loop a.v a.w a.numbering.now ns k (l.i + 1)) (sym w.numbering-is) (sym w.last-is) (loop_numbered l.invariant c.loop-i-test.true w.if-numbering-i-eq0.true)
      | else-numbering-i-eq0 w ↦ subst₂ (λ (ns : List ℕ) (k : ℕ). Loop a.v a.w a.numbering.now ns k (l.i + 1)) (sym w.numbering-is) (sym w.last-is) (loop_linked l.invariant c.loop-i-test.true w.if-numbering-i-eq0.false)
    ]
