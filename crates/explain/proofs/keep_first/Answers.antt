-- A literal stays if it holds no other.
use Rattle.std.proofs.Common.{sym, ap, ◌∙◌}
use Rattle.stamp_columns.specs.Columns.{columns}
use Rattle.explain.specs.Reasons.{first_held}
use Rattle.explain.proofs.Searching.{stored_is, none_told, some_told, keeping_none, keeping_stays, keeping_goes, keeping_done}
use Rattle.explain.proofs.keep_first.Goals as goal
use Rattle.explain.proofs.keep_first.Goals.{then-is_none, else-is_none}

pub loop-l-init : goal.loop-l-init
loop-l-init c = keeping_none c.args.times.now c.args.part.now c.args.rest.now c.requires.1

pub loop-l-preserved : goal.loop-l-preserved
loop-l-preserved c =
    let at = c.loop-l in
    let lt = c.loop-l-test.true in
    let L = c.requires.0.lits.each at.l-index lt in
    elim c.if-is_none.branch [
      | then-is_none w ↦
          let none = none_told c.first_held.result c.is_none.ensures w.if-is_none.true in
          rw (w.rest-is, w.n-is, stored_is L)
          (keeping_stays at.invariant lt (λ links. sym (c.first_held.ensures links ∙ ap (first_held (columns c.args.times.now links) c.args.part.now) (stored_is L)) ∙ none))
      | else-is_none w ↦
          let some = some_told c.first_held.result c.is_none.ensures w.if-is_none.false in
          rw (w.rest-is, w.n-is)
          (keeping_goes at.invariant lt (λ links. (some.0, sym (c.first_held.ensures links ∙ ap (first_held (columns c.args.times.now links) c.args.part.now) (stored_is L)) ∙ some.1)))
    ]

pub returns : goal.returns
returns c = keeping_done c.loop-l.invariant c.loop-l-test.false
