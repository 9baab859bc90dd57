use Rattle.std.proofs.Common.{◌≡◌, ◌*◌, length, take, sym, subst, arith}
use Rattle.std.proofs.lemmas.List.{length-take-le}
use Rattle.implications.specs.Edges.{Edges, Built}
use Rattle.implications.specs.EdgeList.{froms_of, tos_of}
use Rattle.implications.proofs.EdgeLists.{many_froms}
use Rattle.table_graph.proofs.Listing.{listed_wider, fit_edges, listed_in, as_listed, as_clauses}
use Rattle.table_graph.proofs.build_graph.Goals as goal

pub list_pairs-k-requires : goal.list_pairs-k-requires
list_pairs-k-requires c = record { clauses_inside = listed_wider c.requires.listed; n_in_bounds = (c.requires.froms, c.requires.tos) }

pub slice_bounds-build-end : goal.slice_bounds-build-end
slice_bounds-build-end c = listed_in c.args.edges.now c.requires _ _ c.list_pairs-k.ensures

pub slice_bounds-build-end-2 : goal.slice_bounds-build-end-2
slice_bounds-build-end-2 c = sym (length-take-le _ _ (listed_in c.args.edges.now c.requires _ _ c.list_pairs-k.ensures))

pub build-requires : goal.build-requires
build-requires c = as_listed c.args.edges.now c.requires _ _ c.list_pairs-k.ensures (λ f t. Edges f t c.args.offsets.now c.args.targets.now) (fit_edges c.requires)

pub returns : goal.returns
returns c =
    let k = c.list_pairs-k.result in
    let es = c.list_pairs-k.new.edges in
    let size = 2 * c.args.v in
    let O = c.build.new.offsets in
    let T = c.build.new.targets in
    let is_k : length (froms_of (take k es)) ≡ k = omega (arith, many_froms (take k es), length-take-le k es (listed_in c.args.edges.now c.requires k es c.list_pairs-k.ensures)) in
    as_clauses c.args.edges.now c.requires k es c.list_pairs-k.ensures (λ f t. Built f t O T size k)
    (subst (Built (froms_of (take k es)) (tos_of (take k es)) O T size) is_k (c.build.ensures size c.requires.marks))
