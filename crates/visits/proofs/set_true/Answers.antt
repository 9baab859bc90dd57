-- `visits::set_true` meets its contract: the goals that `search` leaves. The class literal is known, so its place lies in the table. Assumes nothing.
use mir.Syntax.{w32}
use mir.Facts.{to_z-of_z}
use lib.IntN.{nat_abs}
use borrow.Author.Rules.{sfits_of}
use Rattle.std.proofs.Common.{arith, ◌≡◌}
use Rattle.tables.specs.Values.{class_literal}
use Rattle.visits.specs.Formed.{Known}
use Rattle.visits.proofs.Known.{known_class, known_small, known_above, known_place}
use Rattle.visits.proofs.set_true.Goals as goal

pub var_of-w-requires : goal.var_of-w-requires
var_of-w-requires c =
    let class : c.class_literal-c.result ≡ class_literal c.args.variables.now c.args.l = rw (to_z-of_z c.ranges.l) at c.class_literal-c.ensures in
    let known : Known c.args.variables.now c.class_literal-c.result = rw class (known_class c.requires) in
    rw (to_z-of_z {w = w32} (sfits_of c.class_literal-c.type_inv)) (known_small known)

pub overflow_sub-w : goal.overflow_sub-w
overflow_sub-w c =
    let class : c.class_literal-c.result ≡ class_literal c.args.variables.now c.args.l = rw (to_z-of_z c.ranges.l) at c.class_literal-c.ensures in
    let known : Known c.args.variables.now c.class_literal-c.result = rw class (known_class c.requires) in
    let var : c.var_of-w.result ≡ nat_abs c.class_literal-c.result = rw (to_z-of_z {w = w32} (sfits_of c.class_literal-c.type_inv)) at c.var_of-w.ensures in
    omega (arith, var, known_above known)

pub bounds-variables-w : goal.bounds-variables-w
bounds-variables-w c =
    let class : c.class_literal-c.result ≡ class_literal c.args.variables.now c.args.l = rw (to_z-of_z c.ranges.l) at c.class_literal-c.ensures in
    let known : Known c.args.variables.now c.class_literal-c.result = rw class (known_class c.requires) in
    let var : c.var_of-w.result ≡ nat_abs c.class_literal-c.result = rw (to_z-of_z {w = w32} (sfits_of c.class_literal-c.type_inv)) at c.var_of-w.ensures in
    omega (arith, var, known_above known, known_place known)
