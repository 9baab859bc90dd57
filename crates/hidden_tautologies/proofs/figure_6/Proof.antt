-- `hidden_tautologies::figure_6` meets its contract. Assumes nothing.
use mathlib.Core.Path.{◌≡◌, sym, ap, subst, ◌∙◌}
use mathlib.Core.List.{List, map}
use lib.IntN.{ℤ}
use Rattle.literal.specs.Literals.{twin}
use Rattle.stamp_columns.specs.Columns.{columns}
use Rattle.stamp_columns.specs.Slots.{Slots}
use Rattle.hidden.specs.Hidden.{by_discovery}
use Rattle.hidden_tautologies.proofs.Scanning.{scanned_one, scanned_other, slots_small, figure6_scanned, figure6_is}
use borrow.Author.Rules.{rules}
use Rattle.hidden_tautologies.proofs.figure_6.Statement.{statement}
use Rattle.hidden_tautologies.proofs.figure_6.Tie as tie

-- the complements as they are sorted
twins-sorted : (c : tie.After-sort_slots-2) (links : List ℤ) → c.sort_slots-2.new.slots ≡ by_discovery (columns c.args.times.now links) (map twin c.args.slots.now)
twins-sorted c links = c.sort_slots-2.ensures links ∙ ap (by_discovery (columns c.args.times.now links)) c.twins_of.ensures

twins-of-requires : tie.Need-twins_of-requires
twins-of-requires c κs = (slots_small (scanned_one c.requires.0), c.requires.1)

sort-slots-requires : tie.Need-sort_slots-requires
sort-slots-requires c κs = scanned_one c.requires.0

sort-slots-requires-2 : tie.Need-sort_slots-requires-2
sort-slots-requires-2 c κs = subst (Slots c.args.times.now) (sym c.twins_of.ensures) (scanned_other c.requires.0)

scan-requires : tie.Need-scan-requires
scan-requires c κs = figure6_scanned c.args.times.now c.args.slots.now _ _ c.sort_slots.ensures (twins-sorted c.before.before) c.requires.0

same_length : tie.Need-shape_of-slots
same_length c = search rules

same-length-2 : tie.Need-shape_of-twins
same-length-2 c = search rules

returns : tie.Need-returns
returns c = figure6_is c.args.times.now c.args.slots.now _ _ c.sort_slots.ensures (twins-sorted c.before.before.before) c.scan.result c.scan.ensures

pub figure_6_spec : {M : Type 1} → statement M
figure_6_spec =
    tie.close
    (tie.spec
    twins-of-requires
    sort-slots-requires
    sort-slots-requires-2
    scan-requires
    same_length
    same-length-2
    returns)
