-- `visits::own_truth`: the value that is read is small, since the variable is known. Assumes nothing.
use mir.Facts.{to_z-of_z}
use Rattle.std.proofs.Common.{◌≡◌, ◌*◌, ◌-◌, get_or, pos, nat_abs}
use Rattle.literal.specs.Literals.{Small}
use Rattle.literal.proofs.Signed.{back}
use Rattle.visits.proofs.Known.{value_small}
use Rattle.visits.proofs.own_truth.Goals as goal

pub signed_by-requires : goal.signed_by-requires
signed_by-requires c =
    let var : c.var_of-w.result ≡ nat_abs c.args.c = rw (to_z-of_z c.ranges.c) at c.var_of-w.ensures in
    let small : Small (get_or c.args.variables.now (2 * c.var_of-w.result - 1) (pos 0)) = rw var (value_small c.requires) in
    rw (back small) small
