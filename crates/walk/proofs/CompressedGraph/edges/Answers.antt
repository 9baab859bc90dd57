-- `walk::CompressedGraph::edges` meets its contract. Assumes nothing.
use Rattle.std.proofs.Common.{◌≡◌, ℕ, ◌+◌, ◌-◌, get_or, take, drop, sym, ◌∙◌, ap, arith}
use Rattle.std.proofs.lemmas.List.{drop-take}
use Rattle.walk.specs.Compressed.{adj_of}
use Rattle.walk.proofs.CompressedGraph.edges.Goals as goal

pub returns : goal.returns
unfolding adj_of
returns c =
    let begin = get_or c.args.self.offsets.now c.args.slot 0 in
    let end = get_or c.args.self.offsets.now (c.args.slot + 1) 0 in
    let whole : begin + (end - begin) ≡ end = omega (arith, c.requires.rising) in
    sym (drop-take begin (end - begin) c.args.self.targets.now) ∙ ap (λ (k : ℕ). drop begin (take k c.args.self.targets.now)) whole
