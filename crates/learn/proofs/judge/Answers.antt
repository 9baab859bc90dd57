-- What Sweep's rule leaves of the newcomer that was copied is a record of the window. Assumes nothing.
use Rattle.std.proofs.Common.{List, ℤ, ap, ◌∙◌}
use Rattle.stamp_columns.specs.Columns.{columns}
use Rattle.visits.specs.Visited.{part_after}
use Rattle.sweep_visits.specs.Clause.{sweep_clause}
use Rattle.learn.proofs.Judging.{sweep_within, front_is, judged}
use Rattle.learn.proofs.judge.Goals as goal

pub returns : goal.returns
returns c =
    let C = c.args.newcomer.now in
    let row = c.args.row.now in
    let σ = columns c.args.times.now c.args.links.now in
    let k = c.copy_from_slice in
    let o = c.visit_part in
    judged C row c.requires.1 c.requires.2 k.new.self k.ensures.after (sweep_clause σ C) (sweep_within σ C) o.result o.new.part
    (o.ensures ∙ ap (λ (D : List ℤ). part_after (sweep_clause σ D) D) (front_is C row c.requires.1 c.requires.2 k.new.self k.ensures.after))
