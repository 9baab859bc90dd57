-- `run::stamp_turned` meets its contract. Assumes nothing.
use Prim.Native.Nat.{◌*◌}
use native.Mathlib.Omega.{arith}
use mathlib.Core.Path.{◌≡◌, sym, ap, ◌∙◌}
use mathlib.Core.List.{List, ◌++◌}
use lib.ListN.{length, take, drop}
use lib.Seq.{length-take-le, take_at}
use lib.IntN.{ℤ}
use Rattle.tables.specs.Tables.{tables}
use Rattle.stamp.specs.Stamp.{stamp_ordered}
use Rattle.settle.specs.Settle.{between}
use Rattle.round_order.specs.Order.{order_of}
use Rattle.round_order.proofs.Orders.{order_length}
use borrow.Author.Rules.{rules}
use Rattle.run.proofs.stamp_turned.Statement.{statement}
use Rattle.run.proofs.stamp_turned.Tie as tie

-- what is lent of the place afterwards is the order
front : (c : tie.After-write_order) → take (2 * c.args.st.v) (c.write_order.new.order ++ drop (2 * c.args.st.v) c.args.place.now) ≡ order_of c.args.st.v c.args.k
front c = take_at c.write_order.new.order (drop (2 * c.args.st.v) c.args.place.now) (2 * c.args.st.v) (ap length c.write_order.ensures ∙ order_length c.args.st.v c.args.k) ∙ c.write_order.ensures

cast-size : tie.Need-overflow_cast-size
cast-size c = search rules

mul-size : tie.Need-overflow_mul-size
mul-size c = search rules

slice-relend-prefix-write-order : tie.Need-slice_bounds-write_order-end
slice-relend-prefix-write-order c = search rules

slice-aggregate-write-order : tie.Need-slice_bounds-write_order-end-2
slice-aggregate-write-order c = sym (length-take-le (2 * c.args.st.v) c.args.place.now (omega (arith, c.requires.0.shape.v_limit, c.requires.1)))

write-order-requires : tie.Need-write_order-requires
write-order-requires c κs = (length-take-le (2 * c.args.st.v) c.args.place.now (omega (arith, c.requires.0.shape.v_limit, c.requires.1)), c.requires.0.shape.v_limit)

slice-reshare-prefix-stamp-ordered : tie.Need-slice_bounds-stamp_ordered-end
slice-reshare-prefix-stamp-ordered c = search rules

slice-aggregate-stamp-ordered : tie.Need-slice_bounds-stamp_ordered-end-2
slice-aggregate-stamp-ordered c = sym (ap length (front c.before.before.before) ∙ order_length c.args.st.v c.args.k)

stamp-ordered-requires : tie.Need-stamp_ordered-requires
stamp-ordered-requires c κs = search rules

same_length : tie.Need-shape_of-times
same_length c = search rules

same-length-2 : tie.Need-shape_of-links
same-length-2 c = search rules

same-length-3 : tie.Need-shape_of-place
same-length-3 c = search rules

returns : tie.Need-returns
returns c = let a = c.args in c.stamp_ordered.ensures ∙ ap (λ (o : List ℤ). between (stamp_ordered o (tables a.clauses.now a.literals.now a.variables.now a.times.now a.links.now) a.st)) (front c.before.before.before.before.before.before.before)

pub stamp_turned_spec : {M : Type 1} → statement M
stamp_turned_spec =
    tie.close
    (tie.spec
    cast-size
    mul-size
    slice-relend-prefix-write-order
    slice-aggregate-write-order
    write-order-requires
    slice-reshare-prefix-stamp-ordered
    slice-aggregate-stamp-ordered
    stamp-ordered-requires
    same_length
    same-length-2
    same-length-3
    returns)
