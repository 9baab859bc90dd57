-- The variable and its class are small, so their complements fit.
use Rattle.std.proofs.Common.{arith, pos}
use Rattle.literal.specs.Literals.{Small}
use Rattle.literal.proofs.Signed.{neg_is, small_neg, small_fits, bits_eq, bits_ne, back}
use Rattle.write.proofs.Records.{class_none, class_some, wrote_none, wrote_two, two_length, small_two, literal_small}
use Rattle.write.proofs.put_class.Goals as goal

pub put_clause-requires : goal.put_clause-requires
put_clause-requires c =
    let var : Small (pos c.args.w) = record { small = omega arith } in
    let class = literal_small c.requires.0 c.requires.1 in
    let gives = class_some c.args.w c.args.class (bits_ne c.args.class (pos c.args.w) c.if-class-l.true) in
    rw (back var, neg_is class) (small_two var (small_neg class), omega (arith, two_length gives, c.requires.2))

pub put_clause-requires-then-class-l : goal.put_clause-requires-then-class-l
put_clause-requires-then-class-l c =
    let var : Small (pos c.args.w) = record { small = omega arith } in
    let class = literal_small c.requires.0 c.requires.1 in
    let gives = class_some c.args.w c.args.class (bits_ne c.args.class (pos c.args.w) c.if-class-l.true) in
    let first = rw (back var, neg_is class) at c.put_clause.ensures in
    rw (neg_is var, back class) (small_two (small_neg var) class, omega (arith, first.bytes_stored.next, two_length gives, c.requires.2))

pub returns-then-class-l : goal.returns-then-class-l
returns-then-class-l c =
    let var : Small (pos c.args.w) = record { small = omega arith } in
    let class = literal_small c.requires.0 c.requires.1 in
    let gives = class_some c.args.w c.args.class (bits_ne c.args.class (pos c.args.w) c.if-class-l.true) in
    wrote_two gives (rw (back var, neg_is class) at c.put_clause.ensures) (rw (neg_is var, back class) at c.put_clause-then-class-l.ensures)

pub returns-else-class-l : goal.returns-else-class-l
returns-else-class-l c =
    let var : Small (pos c.args.w) = record { small = omega arith } in
    wrote_none (class_none c.args.w c.args.class (bits_eq c.ranges.class (small_fits var) c.if-class-l.false))
