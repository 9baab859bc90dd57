-- Where l holds no other literal, its ends are by the first of the rest whose complement holds its own.
use Rattle.std.proofs.Common.{[], Option, unwrap_or, sym, ap, subst, ◌∙◌}
use lib.IntN.{ℤ, pos, neg_ℤ}
use mir.Syntax.{w32}
use mir.Val.{of_z, to_z}
use Rattle.literal.specs.Literals.{Small}
use Rattle.literal.proofs.Signed.{neg_is, neg_fits}
use Rattle.stamp_columns.specs.Columns.{columns}
use Rattle.chains.specs.Chains.{ends}
use Rattle.explain.specs.Reasons.{holds_other, first_held, first_holder}
use Rattle.explain.proofs.Searching.{stored_is, turned_is, found_small, lits_small, ends_free}
use Rattle.explain.proofs.literal_ends.Goals as goal

pub overflow_sub-result : goal.overflow_sub-result
overflow_sub-result c =
    let e = c.unwrap_or-holder.ensures ∙ ap (λ (o : Option ℤ). unwrap_or o (pos 0)) (c.first_holder.ensures []) in
    neg_fits (subst Small (sym e) (found_small (λ m. holds_other (columns c.args.times.now []) (neg_ℤ m) (neg_ℤ (to_z w32 (of_z w32 c.args.l)))) c.args.rest.now (lits_small c.requires.1.lits)))

pub returns-in-None : goal.returns-in-None
returns-in-None c = λ links.
    let σ = columns c.args.times.now links in
    let e = c.unwrap_or-holder.ensures ∙ ap (λ (o : Option ℤ). unwrap_or o (pos 0)) (c.first_holder.ensures links) in
    let small : Small c.unwrap_or-holder.result = subst Small (sym e) (found_small (λ m. holds_other σ (neg_ℤ m) (neg_ℤ (to_z w32 (of_z w32 c.args.l)))) c.args.rest.now (lits_small c.requires.1.lits)) in
    let holder = e ∙ ap (λ (z : ℤ). unwrap_or (first_holder σ c.args.rest.now z) (pos 0)) (stored_is c.requires.2) in
    (λ i. ends ((neg_is small ∙ ap neg_ℤ holder) i) (turned_is c.requires.2 i))
    ∙ sym (ends_free σ c.args.part.now c.args.rest.now c.args.l (sym (c.first_held.ensures links ∙ ap (first_held σ c.args.part.now) (stored_is c.requires.2)) ∙ c.in-None.is))
