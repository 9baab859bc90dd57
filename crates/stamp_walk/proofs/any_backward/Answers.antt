use Rattle.std.proofs.Common.{◌≡◌, ◌<◌, length, get_or, subst, sym, ◌∙◌, rules, tests}
use Rattle.std.proofs.lemmas.Iterator.{YieldsList-from_slice}
use Rattle.std.proofs.lemmas.Iterator.Adapters.{serves_from_places}
use Rattle.std.proofs.lemmas.Iterator.Search.{any_from_yields_List}
use Rattle.std.proofs.lemmas.List.{get_or_default}
use Rattle.implications.specs.declared.Edge.{Edge}
use Rattle.stamp_walk.proofs.Backward.{tail_in, head_in, backward, any_backward_is}
use Rattle.stamp_walk.proofs.any_backward.Goals as goal

pub any-requires-clause-callable : goal.any-requires-clause-callable
any-requires-clause-callable c =
    let es = c.args.edges.now in
    let l = c.args.stamps.now in
    serves_from_places (YieldsList-from_slice es cc) (λ x q r. search (rules, tests)) (λ x k lt e.
    let is : x.now ≡ get_or es k (record { from = 0; to = 0 }) = e ∙ get_or_default es k x.now (record { from = 0; to = 0 }) lt in
    let tail : x.now.from < length l = subst (λ (y : Edge). y.from < length l) (sym is) (tail_in es l k c.requires lt) in
    let head : x.now.to < length l = subst (λ (y : Edge). y.to < length l) (sym is) (head_in es l k c.requires lt) in
    search (rules, tests))

pub returns : goal.returns
returns c = λ t d p s.
    let es = c.args.edges.now in
    let l = c.args.stamps.now in
    any_from_yields_List (backward l) _ _ c.any.result c.any.ensures.ran (YieldsList-from_slice es cc) (λ x b q k. search (rules, tests))
    ∙ any_backward_is l t d p s es
