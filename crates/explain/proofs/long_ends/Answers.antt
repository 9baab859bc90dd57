-- A literal is passed if its complement holds none of the part, and found if it holds one.
use Rattle.std.proofs.Common.{suc, Some, get_or, drop, sym, ap, ◌∙◌}
use borrow.Author.Rules.{rules}
use lib.IntN.{pos}
use mir.Facts.{to_z-of_z}
use mir.Syntax.{w32}
use mir.Val.{SFits}
use Rattle.stamp_columns.specs.Columns.{columns}
use Rattle.chains.specs.Chains.{ends}
use Rattle.explain.specs.Reasons.{first_held}
use Rattle.explain.proofs.Searching.{turned_is, passing_at, passing_next, passing_done, long_here, long_next, long_none}
use Rattle.explain.proofs.long_ends.Goals as goal

pub returns-in-Some : goal.returns-in-Some
returns-in-Some c = λ links.
    let σ = columns c.args.times.now links in
    let i = c.loop-a.a-index in
    let L = c.requires.lits.each i c.loop-a-test.true in
    let a = get_or c.args.part.now i (pos 0) in
    let f : SFits w32 c.in-Some.bottom = search rules in
    let held = sym (c.first_held.ensures links ∙ ap (first_held σ c.args.part.now) (turned_is L)) ∙ c.in-Some.is in
    (λ j. Some (ends (turned_is L j) (to_z-of_z f j)))
    ∙ sym (passing_at c.loop-a.invariant c.loop-a-test.true links ∙ long_here σ c.args.part.now a c.in-Some.bottom (drop (suc i) c.args.part.now) held)

pub loop-a-preserved : goal.loop-a-preserved
loop-a-preserved c =
    let i = c.loop-a.a-index in
    let L = c.requires.lits.each i c.loop-a-test.true in
    passing_next c.loop-a.invariant c.loop-a-test.true (λ links.
    let σ = columns c.args.times.now links in
    long_next σ c.args.part.now (get_or c.args.part.now i (pos 0)) (drop (suc i) c.args.part.now) (sym (c.first_held.ensures links ∙ ap (first_held σ c.args.part.now) (turned_is L)) ∙ c.in_default.is))

pub returns : goal.returns
returns c = λ links. sym (passing_done c.loop-a.invariant c.loop-a-test.false links ∙ long_none (columns c.args.times.now links) c.args.part.now)
