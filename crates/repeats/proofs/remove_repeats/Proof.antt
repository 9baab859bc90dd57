-- `repeats::remove_repeats` meets its contract. Assumes nothing.
use mathlib.Core.Path.{sym}
use lib.Seq.{length-take-le}
use Rattle.repeats.proofs.Removing.{front_within, front_unmarkable, marks_again, firsts_held}
use borrow.Author.Rules.{rules}
use Rattle.repeats.proofs.remove_repeats.Statement.{statement}
use Rattle.repeats.proofs.remove_repeats.Tie as tie

keep-first-requires : tie.Need-keep_first-kept-requires
keep-first-requires c κs = search rules

slice-reshare-prefix-unmark : tie.Need-slice_bounds-unmark-end
slice-reshare-prefix-unmark c = front_within c.requires c.keep_first-kept.ensures

slice-aggregate-unmark : tie.Need-slice_bounds-unmark-end-2
slice-aggregate-unmark c = sym (length-take-le c.keep_first-kept.result.count c.keep_first-kept.new.part (front_within c.requires c.keep_first-kept.ensures))

unmark-requires : tie.Need-unmark-requires
unmark-requires c κs = front_unmarkable c.requires c.keep_first-kept.ensures

zero-from-requires : tie.Need-zero_from-requires
zero-from-requires c κs = front_within c.requires c.keep_first-kept.ensures

same_length : tie.Need-shape_of-part
same_length c = search rules

same-length-2 : tie.Need-shape_of-marks
same-length-2 c = search rules

returns : tie.Need-returns
returns c = let M = c.requires in
    let F = c.keep_first-kept.ensures in
    (F.count, F.both, firsts_held M F c.zero_from.ensures, marks_again M F c.unmark.ensures)

pub remove_repeats_spec : {M : Type 1} → statement M
remove_repeats_spec =
    tie.close
    (tie.spec
    keep-first-requires
    slice-reshare-prefix-unmark
    slice-aggregate-unmark
    unmark-requires
    zero-from-requires
    same_length
    same-length-2
    returns)
