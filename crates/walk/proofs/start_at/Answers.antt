-- `walk::start_at` meets its contract. Assumes nothing.
use Rattle.std.proofs.Common.{sym, ◌∙◌}
use Rattle.walk.specs.Walk.{start_walk}
use Rattle.walk.specs.Compressed.{adj_of}
use Rattle.walk.specs.Slots.{stamps_of}
use Rattle.walk.proofs.Run.{edge_new, edge_old}
use Rattle.walk.proofs.Columns.{discovery_at}
use Rattle.walk.proofs.start_at.Goals as goal

pub returns-then-stamps-s-eq0 : goal.returns-then-stamps-s-eq0
unfolding start_walk
returns-then-stamps-s-eq0 c =
    let a = c.args in
    λ n le. c.enter.ensures n le
    ∙ sym (edge_new (start_walk n (adj_of a.graph.offsets.now a.graph.targets.now)) a.slot (stamps_of a.time a.stamps.now) (discovery_at a.stamps.now a.slot ∙ c.if-stamps-s-eq0.true))

pub returns-else-stamps-s-eq0 : goal.returns-else-stamps-s-eq0
returns-else-stamps-s-eq0 c =
    let a = c.args in
    λ n le. sym (edge_old (start_walk n (adj_of a.graph.offsets.now a.graph.targets.now)) a.slot (stamps_of a.time a.stamps.now) (λ e. c.if-stamps-s-eq0.false (sym (discovery_at a.stamps.now a.slot) ∙ e)))
