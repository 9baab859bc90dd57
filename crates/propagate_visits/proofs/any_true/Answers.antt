use Rattle.std.proofs.Common.{rules, ◌≡◌, sym, ◌∙◌, subst, pos}
use Rattle.std.specs.List.{list_any}
use Rattle.std.proofs.lemmas.Iterator.{YieldsList-from_slice}
use Rattle.std.proofs.lemmas.Iterator.Search.{any_from_yields_List}
use Rattle.std.proofs.lemmas.Iterator.Adapters.{serves_from_places}
use Rattle.std.proofs.lemmas.List.{get_or_default}
use Rattle.base.proofs.Lists.{any_is}
use Rattle.visits.specs.Formed.{Known}
use Rattle.tables.specs.Values.{is_true}
use Rattle.propagate_visits.proofs.any_true.Goals as goal

pub any-requires-clause-callable : goal.any-requires-clause-callable
any-requires-clause-callable c =
    serves_from_places (YieldsList-from_slice c.args.part.now (search rules)) (λ x q h. search rules) (λ x k lt e.
    let known : Known c.args.variables.now x.now = subst (Known c.args.variables.now) (sym (e ∙ get_or_default c.args.part.now k x.now (pos 0) lt)) (c.requires.each k lt) in
    search rules)

pub returns : goal.returns
returns c =
    let test = is_true c.args.variables.now in
    let e : c.any.result ≡ list_any test c.args.part.now = any_from_yields_List test _ _ c.any.result c.any.ensures.ran (YieldsList-from_slice c.args.part.now (search rules)) (λ x b q h. search rules) in
    e ∙ sym (any_is test c.args.part.now)
