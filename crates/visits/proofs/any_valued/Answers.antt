-- `visits::any_valued` meets its contract. Assumes nothing.
use Rattle.std.proofs.Common.{rules, ◌≡◌, sym, ◌∙◌, subst, List, ℤ, pos}
use Rattle.std.specs.List.{list_any}
use Rattle.std.proofs.lemmas.Iterator.{YieldsList-from_slice}
use Rattle.std.proofs.lemmas.Iterator.Search.{any_from_yields_List}
use Rattle.std.proofs.lemmas.Iterator.Adapters.{serves_from_places}
use Rattle.base.proofs.Lists.{any_is, get_d_any}
use Rattle.visits.specs.Formed.{Known}
use Rattle.tables.specs.Passes.{valued}
use Rattle.visits.proofs.any_valued.Goals as goal

pub any-requires-clause-callable : goal.any-requires-clause-callable
any-requires-clause-callable c =
    serves_from_places (YieldsList-from_slice c.args.part.now (search rules)) (λ x q h. search rules)
    (λ x k lt e.
    let K : Known c.args.variables.now x.now = subst (Known c.args.variables.now) (sym (e ∙ get_d_any c.args.part.now k x.now (pos 0) lt)) (c.requires.each k lt) in
    search rules)

pub returns : goal.returns
returns c =
    let vs : List ℤ = c.args.variables.now in
    let e : c.any.result ≡ list_any (valued vs) c.args.part.now = any_from_yields_List (valued vs) _ _ c.any.result c.any.ensures.ran (YieldsList-from_slice c.args.part.now (search rules)) (λ x b q h. search rules) in
    e ∙ sym (any_is (valued vs) c.args.part.now)
