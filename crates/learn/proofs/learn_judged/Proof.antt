-- `learn::learn_judged` meets its contract. Assumes nothing.
use mathlib.Core.Path.{refl, sym, subst}
use lib.ListN.{length}
use Rattle.stamp_columns.specs.Columns.{columns}
use Rattle.sweep_visits.specs.Clause.{sweep_clause}
use Rattle.learn.specs.Ready.{FewLeft}
use Rattle.learn.proofs.Judging.{sweep_within, few_left}
use borrow.Author.Rules.{rules}
use Rattle.learn.proofs.learn_judged.Statement.{statement}
use Rattle.learn.proofs.learn_judged.Tie as tie

slice-aggregate-judge : tie.Need-slice_bounds-judge-end
slice-aggregate-judge c = search rules

judge-requires : tie.Need-judge-seen-requires
judge-requires c κs = search rules

cast-before : tie.Need-overflow_cast-before
cast-before c = search rules

slice-aggregate-keep-left : tie.Need-slice_bounds-keep_left-end
slice-aggregate-keep-left c = search rules

keep-left-requires : tie.Need-keep_left-requires
keep-left-requires c κs = let C = c.args.newcomer.now in let σ = columns c.args.times.now c.args.links.now in let j = c.judge-seen in (c.requires.2, j.auto.row, c.requires.1, subst FewLeft (sym j.ensures.0) (few_left (length C) (sweep_clause σ C) c.requires.1 (sweep_within σ C)))

same_length : tie.Need-shape_of-sizes
same_length c = search rules

same-length-2 : tie.Need-shape_of-learnt
same-length-2 c = search rules

returns : tie.Need-returns
returns c = let C = c.args.newcomer.now in let j = c.judge-seen in λ t. c.keep_left.ensures t (sweep_clause (columns c.args.times.now c.args.links.now) C) C refl j.ensures.0 j.ensures.1

pub learn_judged_spec : {M : Type 1} → statement M
learn_judged_spec =
    tie.close
    (tie.spec
    slice-aggregate-judge
    judge-requires
    cast-before
    slice-aggregate-keep-left
    keep-left-requires
    same_length
    same-length-2
    returns)
