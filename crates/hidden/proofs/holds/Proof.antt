-- `hidden::holds` meets its contract. Assumes nothing.
use mathlib.Core.Path.{ap, ◌∙◌}
use Rattle.intervals.specs.Relations.{contains}
use Rattle.stamp_columns.specs.Columns.{columns}
use Rattle.hidden.proofs.Relations.{relation_holds}
use borrow.Author.Rules.{rules}
use Rattle.hidden.proofs.holds.Statement.{statement}
use Rattle.hidden.proofs.holds.Tie as tie
use Rattle.hidden.proofs.holds.Reads as reads
use Rattle.hidden.proofs.holds.Lts as lts
use Rattle.intervals.proofs.Relation.contains.Reads as contains-reads
use Rattle.stamp_columns.proofs.compare.Reads as compare-reads

compare-requires : tie.Need-compare-requires
compare-requires c κs = search rules

contains-requires : tie.Need-contains-requires
contains-requires c κs = search rules

returns : tie.Need-returns
returns c = λ links. c.contains.ensures ∙ ap contains c.compare.ensures ∙ relation_holds (columns c.args.times.now links) c.args.a c.args.b

pub holds_spec : {M : Type 1} → statement M
holds_spec = tie.close (tie.spec
    compare-requires
    contains-requires
    returns)
