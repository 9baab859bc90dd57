-- `simplify::simplify_text` meets its contract: the tables that it owns hold 0. Assumes nothing.
use Rattle.simplify.specs.Texts.{simplify_text}
use borrow.Author.Rules.{rules}
use Rattle.simplify.proofs.simplify_text.Statement.{statement}
use Rattle.simplify.proofs.simplify_text.Tie as tie

slice-aggregate-simplify : tie.Need-slice_bounds-simplify-end
slice-aggregate-simplify c = search rules

slice-aggregate-simplify-2 : tie.Need-slice_bounds-simplify-end-2
slice-aggregate-simplify-2 c = search rules

slice-aggregate-simplify-3 : tie.Need-slice_bounds-simplify-end-3
slice-aggregate-simplify-3 c = search rules

slice-aggregate-simplify-4 : tie.Need-slice_bounds-simplify-end-4
slice-aggregate-simplify-4 c = search rules

slice-aggregate-simplify-5 : tie.Need-slice_bounds-simplify-end-5
slice-aggregate-simplify-5 c = search rules

simplify-requires : tie.Need-simplify-requires
simplify-requires c κs = search rules

same_length : tie.Need-shape_of-out
same_length c = search rules

returns : tie.Need-returns
unfolding simplify_text
returns c = c.simplify.ensures

pub simplify_text_spec : {M : Type 1} → statement M
simplify_text_spec =
    tie.close
    (tie.spec
    slice-aggregate-simplify
    slice-aggregate-simplify-2
    slice-aggregate-simplify-3
    slice-aggregate-simplify-4
    slice-aggregate-simplify-5
    simplify-requires
    same_length
    returns)
