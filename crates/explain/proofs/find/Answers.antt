-- `explain::find` meets its contract. Assumes nothing.
use Rattle.std.proofs.Common.{sym, subst}
use Rattle.stamp_columns.specs.Columns.{columns}
use Rattle.sweep_visits.specs.Clause.{sweep_clause}
use Rattle.explain.specs.Asking.{LeftOf, Says}
use Rattle.explain.proofs.Clauses.{clause_timed}
use Rattle.explain.proofs.Leaving.{sweep_leaves}
use Rattle.explain.proofs.Finding.{Leaves, seen_kept, seen_left, leaves_front}
use Rattle.explain.proofs.find.Goals as goal

-- m literals are left
pub find_out-requires : goal.find_out-requires
find_out-requires c =
    let σ = columns c.args.times.now c.args.links.now in
    let L : Leaves (sweep_clause σ c.args.part.now) c.in-Left.m c.judge.new.row c.args.part.now = seen_left (sweep_clause σ c.args.part.now) c.in-Left.m c.args.part.now c.judge.new.row c.in-Left.ensures in
    (clause_timed c.requires.0, c.requires.0.few, c.requires.1, subst (LeftOf c.args.part.now) (sym (leaves_front L _)) (sweep_leaves σ c.args.part.now L.stays L.fate))

pub returns-in-Kept : goal.returns-in-Kept
returns-in-Kept c =
    let σ = columns c.args.times.now c.args.links.now in
    subst (Says c.nothing.result c.args.ends.now) (sym (seen_kept (sweep_clause σ c.args.part.now) σ c.args.part.now c.judge.new.row c.in-Kept.ensures)) (c.nothing.ensures c.args.ends.now)
