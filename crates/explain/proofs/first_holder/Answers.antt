-- A literal is passed if its complement does not hold that of l, and found if it does.
use Rattle.std.proofs.Common.{suc, Some, get_or, drop, sym, ap, ◌∙◌}
use lib.IntN.{pos, neg_ℤ}
use mir.Syntax.{w32}
use mir.Val.{of_z, to_z}
use Rattle.stamp_columns.specs.Columns.{columns}
use Rattle.explain.specs.Reasons.{holds_other, first_holder}
use Rattle.explain.proofs.Searching.{stored_is, turned_is, passing_at, passing_next, passing_done, find_here, find_next}
use Rattle.explain.proofs.first_holder.Goals as goal

pub returns-then-holds_other : goal.returns-then-holds_other
returns-then-holds_other c = λ links.
    let σ = columns c.args.times.now links in
    let i = c.loop-m.m-index in
    let L = c.requires.0.lits.each i c.loop-m-test.true in
    let q = stored_is c.requires.1 in
    let asked = c.holds_other.ensures links ∙ (λ j. holds_other σ (turned_is L j) ((turned_is c.requires.1 ∙ ap neg_ℤ (sym q)) j)) in
    ap Some (stored_is L)
    ∙ sym (passing_at c.loop-m.invariant c.loop-m-test.true links ∙ find_here (λ m. holds_other σ (neg_ℤ m) (neg_ℤ (to_z w32 (of_z w32 c.args.l)))) (get_or c.args.part.now i (pos 0)) (drop (suc i) c.args.part.now) (sym asked ∙ c.if-holds_other.true))
    ∙ ap (first_holder σ c.args.part.now) q

pub loop-m-preserved : goal.loop-m-preserved
loop-m-preserved c =
    let i = c.loop-m.m-index in
    let L = c.requires.0.lits.each i c.loop-m-test.true in
    let q = stored_is c.requires.1 in
    passing_next c.loop-m.invariant c.loop-m-test.true (λ links.
    let σ = columns c.args.times.now links in
    let asked = c.holds_other.ensures links ∙ (λ j. holds_other σ (turned_is L j) ((turned_is c.requires.1 ∙ ap neg_ℤ (sym q)) j)) in
    find_next (λ m. holds_other σ (neg_ℤ m) (neg_ℤ (to_z w32 (of_z w32 c.args.l)))) (get_or c.args.part.now i (pos 0)) (drop (suc i) c.args.part.now) (sym asked ∙ c.if-holds_other.false))

pub returns : goal.returns
returns c = λ links. sym (passing_done c.loop-m.invariant c.loop-m-test.false links) ∙ ap (first_holder (columns c.args.times.now links) c.args.part.now) (stored_is c.requires.1)
