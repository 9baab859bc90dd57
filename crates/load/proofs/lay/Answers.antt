-- What the calls ensure, put together by `lay_done`.
use Rattle.std.proofs.Common.{arith, ◌*◌, rules, pos}
use Rattle.load.proofs.Fill.{cleared_part, lay_done}
use Rattle.load.proofs.lay.Goals as goal

pub returns : goal.returns
returns c =
    let p = c.lay_clauses-p in
    let laid = p.ensures in
    let rooms = c.requires.1.0 in
    let clauses = cleared_part 0 p.new.clauses (3 * p.result.clauses) 12288 laid.within.0 (omega (arith, rooms.clause_room, laid.sizes.0)) (c.fill.ensures.after (search rules)) in
    let literals = cleared_part (pos 0) p.new.literals p.result.start 16384 laid.within.1 (omega (arith, rooms.literal_room, laid.sizes.1)) (c.fill-2.ensures.after (search rules)) in
    λ times links. rw c.loaded.ensures (lay_done c.args.variables.now c.args.v c.args.n times links laid rooms.clause_room rooms.literal_room clauses literals c.lay_variables.ensures)
