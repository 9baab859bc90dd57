-- `failed::start_of` meets its contract. Assumes nothing.
use mir.Syntax.{w32}
use mir.Val.{of_z, to_z}
use Rattle.std.proofs.Common.{◌≡◌, [], ℤ, rules, sym, ◌∙◌}
use Rattle.stamps.specs.Fresh.{start_in}
use Rattle.stamp_columns.proofs.Columns.{column_starts}
use Rattle.failed.proofs.start_of.Goals as goal

pub returns : goal.returns
returns c =
    let start : ℤ = start_in c.args.links.now c.args.s in
    let read : to_z w32 (of_z w32 start) ≡ start = search rules in
    (rw read at c.slot_of.ensures) ∙ sym (column_starts [] c.args.links.now c.args.s)
