use Rattle.std.proofs.Common.{ℕ, false, length, get_or, take, sym, subst, ap, ◌∙◌, arith}
use Rattle.walk.specs.Walk.{stamp_all}
use Rattle.walk.specs.Compressed.{Graph, adj_of}
use Rattle.walk.specs.Slots.{finishes_of, parents_of, starts_of}
use Rattle.implications.proofs.EdgeLists.{many_froms}
use Rattle.scc.specs.Groups.{blank}
use Rattle.stamp_walk.proofs.Walking.{graph_fits, stamps_as, columns_of}
use Rattle.stamp_walk.proofs.stamp_edges.Goals as goal

pub stamp_order-requires-clause-graph : goal.stamp_order-requires-clause-graph
stamp_order-requires-clause-graph c =
    let es = c.args.edges.now in
    let O = c.build.new.offsets in
    let T = c.build.new.targets in
    let size = length c.args.stamps.now in
    subst (λ (k : ℕ). Graph O (take k T) size) (many_froms es) (graph_fits c.requires O T (omega arith) (c.build.ensures size c.requires.marks))

pub returns : goal.returns
returns c =
    let es = c.args.edges.now in
    let O = c.build.new.offsets in
    let T = c.build.new.targets in
    let l = c.args.stamps.now in
    let marks = c.mark_roots.new.root in
    columns_of _ _
    (c.stamp_order.ensures
    ∙ ap (λ (k : ℕ). stamp_all (adj_of O (take k T)) (λ q. get_or marks q false) c.args.order.now (blank (length l) (finishes_of l) (parents_of l) (starts_of l))) (sym (many_froms es))
    ∙ stamps_as c.requires O T (omega arith) (c.build.ensures (length l) c.requires.marks) marks (finishes_of l) (parents_of l) (starts_of l) (λ q lt. c.mark_roots.ensures q (omega arith)))
