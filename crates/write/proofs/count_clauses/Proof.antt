-- `write::count_clauses` meets its contract. The three counts are the length of the whole list. Assumes nothing.
use native.Mathlib.Omega.{arith}
use mathlib.Core.List.{[]}
use borrow.Author.Rules.{rules}
use Rattle.write.proofs.Bounds.{units_count, classes_count, standing_count}
use Rattle.write.proofs.Text.{formula_count}
use Rattle.write.proofs.count_clauses.Statement.{statement}
use Rattle.write.proofs.count_clauses.Tie as tie

count-units-requires : tie.Need-count_units-units-requires
count-units-requires c κs = search rules

count-classes-requires : tie.Need-count_classes-classes-requires
count-classes-requires c κs = search rules

add-result : tie.Need-overflow_add-result
add-result c = omega (arith, c.count_units-units.ensures, c.count_classes-classes.ensures, (units_count c.args.variables.now c.args.v).0, (classes_count c.args.variables.now c.args.v).0, c.requires.0)

count-standing-requires : tie.Need-count_standing-requires
count-standing-requires c κs = search rules

add-result-2 : tie.Need-overflow_add-result-2
add-result-2 c = omega (arith, c.count_units-units.ensures, c.count_classes-classes.ensures, c.count_standing.ensures [], (units_count c.args.variables.now c.args.v).0, (classes_count c.args.variables.now c.args.v).0, standing_count c.args.clauses.now [] c.args.n, c.requires.0, c.requires.2)

returns : tie.Need-returns
returns c = λ literals. let a = c.args in omega (arith, c.count_units-units.ensures, c.count_classes-classes.ensures, c.count_standing.ensures literals, formula_count a.clauses.now literals a.variables.now a.v a.n)

pub count_clauses_spec : {M : Type 1} → statement M
count_clauses_spec =
    tie.close
    (tie.spec
    count-units-requires
    count-classes-requires
    add-result
    count-standing-requires
    add-result-2
    returns)
