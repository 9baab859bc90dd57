use Rattle.std.proofs.Common.{ℕ, ◌+◌, List, ap, ◌∙◌, add-one}
use Rattle.std.proofs.Math.ListN.{set}
use Rattle.implications.proofs.EdgeLists.{froms_set, tos_set}
use Rattle.table_graph.proofs.put_pair.Goals as goal

pub returns : goal.returns
returns c =
    let es = c.args.edges.now in
    let k = c.args.k in (
      froms_set _ (k + 1) _ ∙ ap (λ (l : List ℕ). set l (k + 1) c.twin_of-2.result) (froms_set es k _) ∙ rw (c.twin_of-2.ensures, c.twin_of.ensures, add-one k),
      tos_set _ (k + 1) _ ∙ ap (λ (l : List ℕ). set l (k + 1) c.args.a) (tos_set es k _) ∙ rw (add-one k),
    )
