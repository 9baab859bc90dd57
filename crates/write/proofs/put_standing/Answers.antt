use Rattle.std.proofs.Common.{refl}
use Rattle.tables.specs.Tables.{start_of, length_of}
use Rattle.write.proofs.Records.{part_small}
use Rattle.write.proofs.Gathering.{putting_room, putting_step, putting_end}
use Rattle.write.proofs.put_standing.Goals as goal

pub put_if_standing-requires : goal.put_if_standing-requires
put_if_standing-requires c =
    let i = c.loop-i.i in
    let h = c.loop-i-test.true in
    let tables = c.requires.0 in (
      tables.parts.inside i h,
      tables.places,
      part_small c.args.literals.now (length_of c.args.clauses.now i) (start_of c.args.clauses.now i) (tables.ranged i h),
      putting_room c.loop-i.invariant h refl c.requires.1,
    )

pub loop-i-preserved : goal.loop-i-preserved
loop-i-preserved c = putting_step c.loop-i.invariant c.loop-i-test.true refl refl c.put_if_standing.ensures

pub returns : goal.returns
returns c = putting_end c.loop-i.invariant c.loop-i-test.false
