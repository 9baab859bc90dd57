-- `hidden_tautologies::hidden_tautology` meets its contract. Assumes nothing.
use mathlib.Core.Path.{sym, ◌∙◌}
use mathlib.Core.List.{[]}
use Rattle.hidden_tautologies.proofs.Judging.{judged_lits, judged_slots, judged_scanned, judged_two, verdict_long, verdict_pair}
use borrow.Author.Rules.{rules}
use Rattle.hidden_tautologies.proofs.hidden_tautology.Statement.{statement}
use Rattle.hidden_tautologies.proofs.hidden_tautology.Tie as tie

slots-of-requires : tie.Need-slots_of-requires
slots-of-requires c κs = (judged_lits c.requires.0, c.requires.2)

figure-6-requires : tie.Need-figure_6-requires
figure-6-requires c κs = let s = c.slots_of in (judged_scanned c.requires.0 s.new.out s.ensures, c.requires.3 ∙ sym c.requires.2 ∙ sym s.auto.out)

same_length : tie.Need-shape_of-slots-then-part-ne2
same_length c = search rules

same-length-2 : tie.Need-shape_of-twins-then-part-ne2
same-length-2 c = search rules

returns : tie.Need-returns-then-part-ne2
returns c = let a = c.args in verdict_long a.times.now a.links.now a.part.now c.slots_of.new.out c.slots_of.ensures c.figure_6.result c.figure_6.new.slots c.requires.1 c.if-part-ne2.true c.figure_6.ensures

slice-read-hidden-pair : tie.Need-bounds-slots-0
slice-read-hidden-pair c = search rules

slice-read-hidden-pair-2 : tie.Need-bounds-slots-1
slice-read-hidden-pair-2 c = search rules

hidden-pair-requires : tie.Need-hidden_pair-verdict-requires
hidden-pair-requires c κs = judged_two c.requires.0 c.slots_of.new.out c.slots_of.ensures c.if-part-ne2.false

sort-pair-requires : tie.Need-sort_pair-requires
sort-pair-requires c κs = let s = c.slots_of in (judged_slots c.requires.0 s.new.out s.ensures, s.auto.out ∙ c.requires.2 ∙ c.if-part-ne2.false)

same-length-3 : tie.Need-shape_of-slots
same-length-3 c = search rules

returns-2 : tie.Need-returns
returns-2 c = let a = c.args in verdict_pair a.times.now a.links.now a.part.now c.slots_of.new.out c.slots_of.ensures c.hidden_pair-verdict.result c.sort_pair.new.slots c.if-part-ne2.false c.hidden_pair-verdict.ensures (c.sort_pair.ensures [])

pub hidden_tautology_spec : {M : Type 1} → statement M
hidden_tautology_spec =
    tie.close
    (tie.spec
    slots-of-requires
    figure-6-requires
    same_length
    same-length-2
    returns
    slice-read-hidden-pair
    slice-read-hidden-pair-2
    hidden-pair-requires
    sort-pair-requires
    same-length-3
    returns-2)
