-- `merge::regroup_by` meets its contract. Assumes nothing.
use Rattle.merge.proofs.Opening.{clash_is, regroups, classes_are}
use Rattle.table_graph.proofs.Listing.{formed_listed}
use Rattle.merge.specs.Merge.{clashes, representative, regrouped}
use Rattle.merge.specs.Opening.{Regroups, through}
use Rattle.scc.specs.Groups.{clash}
use Rattle.implications.specs.Clauses.{implications}
use Rattle.tables.specs.Clauses.{slots_from}
use Prim.Native.Nat.{ℕ, ◌*◌}
use mathlib.Core.Path.{◌≡◌, refl, sym, ◌∙◌}
use mathlib.Core.List.{List}
use lib.ListN.{length}
use borrow.Author.Rules.{rules}
use Rattle.merge.proofs.regroup_by.Statement.{statement}
use Rattle.merge.proofs.regroup_by.Tie as tie

-- once the representatives are found
module _ (c : tie.After-representatives) where
  abbrev rep' : List ℕ
  rep' = c.representatives.new.rep

  abbrev adj : ℕ → List ℕ
  adj = implications (slots_from c.args.clauses.now c.args.literals.now c.args.n 0)

  long : length rep' ≡ 2 * c.args.v
  long = c.representatives.auto.rep ∙ c.requires.1

  same-clash : clash rep' ≡ clashes adj c.args.v
  same-clash = clash_is c.requires.0 rep' long c.representatives.ensures

  fit : Regroups c.args.v rep' c.args.variables.now
  fit = regroups c.requires.0 rep' long c.representatives.ensures

  same-classes : regrouped (through rep') c.args.v c.args.variables.now ≡ regrouped (representative adj c.args.v) c.args.v c.args.variables.now
  same-classes = classes_are c.requires.0 rep' long c.representatives.ensures

representatives-requires : tie.Need-representatives-requires
representatives-requires c κs = (formed_listed c.requires.0, c.requires.1)

has-clash-requires : tie.Need-has_clash-requires
has-clash-requires c κs = search rules

same_length : tie.Need-shape_of-rep-then-has_clash
same_length c = search rules

returns : tie.Need-returns-then-has_clash
returns c = (sym c.if-has_clash.true ∙ c.has_clash.ensures ∙ same-clash c.before.before.before.before, refl)

regroup-requires : tie.Need-regroup-requires
regroup-requires c κs = fit c.before.before.before.before.before

same-length-2 : tie.Need-shape_of-variables
same-length-2 c = search rules

same-length-3 : tie.Need-shape_of-rep
same-length-3 c = search rules

returns-2 : tie.Need-returns
returns-2 c = (sym c.if-has_clash.false ∙ c.has_clash.ensures ∙ same-clash c.before.before.before.before.before.before.before, c.regroup.ensures ∙ same-classes c.before.before.before.before.before.before.before)

pub regroup_by_spec : {M : Type 1} → statement M
regroup_by_spec =
    tie.close
    (tie.spec
    representatives-requires
    has-clash-requires
    same_length
    returns
    regroup-requires
    same-length-2
    same-length-3
    returns-2)
