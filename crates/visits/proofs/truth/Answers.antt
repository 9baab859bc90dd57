-- `visits::truth`: the class literal of a known literal is known. Assumes nothing.
use mir.Facts.{to_z-of_z}
use mir.Syntax.{w32}
use borrow.Author.Rules.{sfits_of}
use Rattle.std.proofs.Common.{◌≡◌}
use Rattle.tables.specs.Values.{class_literal}
use Rattle.visits.proofs.Known.{known_class}
use Rattle.visits.proofs.truth.Goals as goal

pub own_truth-requires : goal.own_truth-requires
own_truth-requires c =
    let class : c.class_literal-c.result ≡ class_literal c.args.variables.now c.args.l = rw (to_z-of_z c.ranges.l) at c.class_literal-c.ensures in
    rw (to_z-of_z {w = w32} (sfits_of c.class_literal-c.type_inv)) (rw class (known_class c.requires))
