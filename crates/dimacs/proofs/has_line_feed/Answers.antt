-- One byte more: an LF, or another byte, at which the run of other bytes does not end.
use Rattle.std.proofs.Common.{◌≡◌, ℕ, ◌+◌, true, false, Bool, not, List, ltb, refl, sym, ap, ◌∙◌, arith, eq-eqb, ne_eqb}
use borrow.Author.Tests.{lt-ltb, le-ltb, ltb-true, ltb-false}
use Rattle.dimacs.specs.Words.{is_line_byte, span}
use Rattle.dimacs.proofs.Runs.{span_before, span_not}
use Rattle.dimacs.proofs.has_line_feed.Goals as goal
use Rattle.dimacs.proofs.has_line_feed.Goals.{then-b-eq10, else-b-eq10}

later : (s : List ℕ) (i : ℕ) → (span is_line_byte s ≡ i → ⊥) → ltb (span is_line_byte s) i ≡ ltb (span is_line_byte s) (i + 1)
later s i n = go (ltb (span is_line_byte s) i) refl
  where
    go : (t : Bool) → ltb (span is_line_byte s) i ≡ t → t ≡ ltb (span is_line_byte s) (i + 1)
    go true e = sym (lt-ltb (span is_line_byte s) (i + 1) (omega (arith, ltb-true (span is_line_byte s) i e)))
    go false e = sym (le-ltb (span is_line_byte s) (i + 1) (omega (arith, n, ltb-false (span is_line_byte s) i e)))

pub loop-b-preserved : goal.loop-b-preserved
loop-b-preserved c = let s = c.args.block.now in
    let i = c.loop-b.b-index in
    elim c.if-b-eq10.branch [
      | then-b-eq10 w ↦ w.found-is ∙ sym (lt-ltb (span is_line_byte s) (i + 1) (omega (arith, span_before is_line_byte s i (omega arith) (ap not (eq-eqb _ _ w.if-b-eq10.true)))))
      | else-b-eq10 w ↦ w.found-is ∙ c.loop-b.invariant ∙ later s i (span_not is_line_byte s i (omega arith) (ap not (ne_eqb _ _ w.if-b-eq10.false)))
    ]
