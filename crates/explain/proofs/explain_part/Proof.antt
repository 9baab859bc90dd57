-- `explain::explain_part` meets its contract. Assumes nothing.
use Rattle.stamp_columns.specs.Columns.{columns}
use Rattle.explain.specs.Reasons.{reasons_of}
use Rattle.explain.proofs.Writing.{found_chained}
use borrow.Author.Rules.{rules}
use Rattle.explain.proofs.explain_part.Statement.{statement}
use Rattle.explain.proofs.explain_part.Tie as tie

slice-aggregate-find : tie.Need-slice_bounds-find-end
slice-aggregate-find c = search rules

find-requires : tie.Need-find-found-requires
find-requires c κs = search rules

slice-aggregate-write-chains : tie.Need-slice_bounds-write_chains-end
slice-aggregate-write-chains c = search rules

write-chains-requires : tie.Need-write_chains-requires
write-chains-requires c κs = found_chained c.requires c.find-found.ensures (search rules)

same_length : tie.Need-shape_of-out
same_length c = search rules

returns : tie.Need-returns
returns c = c.write_chains.ensures (reasons_of (columns c.args.times.now c.args.links.now) c.args.part.now) c.find-found.ensures

pub explain_part_spec : {M : Type 1} → statement M
explain_part_spec =
    tie.close
    (tie.spec
    slice-aggregate-find
    find-requires
    slice-aggregate-write-chains
    write-chains-requires
    same_length
    returns)
