-- The part is copied whole, and visited as it stands. Assumes nothing.
use Rattle.std.proofs.Common.{List, ℤ, ap, ◌∙◌}
use Rattle.stamp_columns.specs.Columns.{columns}
use Rattle.visits.specs.Visited.{part_after}
use Rattle.sweep_visits.specs.Clause.{sweep_clause}
use Rattle.explain.proofs.judge.Goals as goal

pub returns : goal.returns
returns c =
    c.visit_part.ensures
    ∙ ap (λ (C : List ℤ). part_after (sweep_clause (columns c.args.times.now c.args.links.now) C) C) c.copy_from_slice.ensures.after
