-- A literal that stays is passed in both lists, and one that is left out gets its ends.
use Rattle.std.proofs.Common.{List, drop, sym, ap, ◌∙◌}
use lib.IntN.{ℤ}
use Rattle.stamp_columns.specs.Columns.{columns}
use Rattle.chains.specs.declared.Ends.{Ends}
use Rattle.explain.specs.Reasons.{begins, ends_in}
use Rattle.explain.proofs.Searching.{stored_is}
use Rattle.explain.proofs.Gathering.{gathering_stays, gathering_goes, gathering_done}
use Rattle.explain.proofs.gather_ends.Goals as goal
use Rattle.explain.proofs.gather_ends.Goals.{then-begins, else-begins}

pub loop-l-preserved : goal.loop-l-preserved
loop-l-preserved c =
    let at = c.loop-l in
    let lt = c.loop-l-test.true in
    let L = c.requires.0.lits.each at.l-index lt in
    let first = c.begins.ensures ∙ ap (λ (l : ℤ). begins l (drop at.j c.args.left.now)) (stored_is L) in
    let es : List ℤ → ℤ → Ends = λ links. ends_in (columns c.args.times.now links) c.args.part.now c.args.rest.now in
    elim c.if-begins.branch [
      | then-begins w ↦ rw (w.ends-is, w.n-is, w.j-is) (gathering_stays at.invariant lt (sym first ∙ w.if-begins.true))
      | else-begins w ↦
          rw (w.ends-is, w.n-is, w.j-is, w.put_ends.ensures)
          (gathering_goes at.invariant lt c.requires.2 (sym first ∙ w.if-begins.false) w.literal_ends.result (λ links. w.literal_ends.ensures links ∙ ap (es links) (stored_is L)))
    ]

pub returns : goal.returns
returns c = gathering_done c.loop-l.invariant c.loop-l-test.false
