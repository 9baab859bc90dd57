-- Behind a list of demand 3's calls, refused ones included, any parts of the tables lent: where stamps are fresh, they are those of a Stamp of the list that was accepted, or were fresh before the list (`last_stamp`). Assumes nothing.
use mathlib.Core.Path.{◌≡◌, refl, sym, ap, ◌∙◌}
use mathlib.Core.Bool.{true}
use mathlib.Core.Logic.{◌⊎◌, inl, inr}
use mathlib.Core.List.{List, [], ◌∷◌}
use Rattle.state.specs.declared.State.{State}
use Rattle.tables.specs.Tables.{Tables}
use Rattle.sound.specs.Formula.{Clause}
use Rattle.call_lists.specs.Lists.{lend, call_on, Step, step_on, steps_on}
use Rattle.refinement.proofs.Held.{Held}
use Rattle.refinement.proofs.Demand3.{steps_held}
use Rattle.reasons.specs.LastStamp.{stamp_step, LastStamp}
use Rattle.reasons.proofs.CallStamps.{Kept, Stamps, stamps_spent, step_stamps}

pub last_stamp : {f : List Clause} (ss : List Step) (t : Tables) (st : State) → Held f t st → (steps_on ss t st).state.fresh ≡ true
    → LastStamp ss t st (steps_on ss t st).tables (steps_on ss t st).state ⊎ Kept t st (steps_on ss t st).tables (steps_on ss t st).state
unfolding steps_on step_on
last_stamp [] t st H fresh = inr (record { fresh = fresh; times = refl; links = refl; variables = refl })
last_stamp (s ∷ ss) t st H fresh = later (last_stamp ss (step_on s t st).tables (step_on s t st).state (steps_held (s ∷ []) t st H) fresh)
  where
    now : Tables
    now = (steps_on ss (step_on s t st).tables (step_on s t st).state).tables

    state : State
    state = (steps_on ss (step_on s t st).tables (step_on s t st).state).state

    by_step : Kept (step_on s t st).tables (step_on s t st).state now state → Stamps s.call (lend s.lent t) st (call_on s.call (lend s.lent t) st) ⊎ Kept t st (step_on s t st).tables (step_on s t st).state
        → LastStamp (s ∷ ss) t st now state ⊎ Kept t st now state
    by_step K (inl S) =
        let same : s ≡ stamp_step S.order s.lent = λ i. record { call = S.call i; lent = s.lent } in
        inl (record {
          before = [];
          order = S.order;
          lent = s.lent;
          behind = ss;
          list = ap (λ (x : Step). x ∷ ss) same;
          accepted = ap (λ (x : Step). (step_on x t st).reply.number) (sym same) ∙ S.accepted;
          times = K.times ∙ ap (λ (x : Step). (step_on x t st).tables.times) same;
          links = K.links ∙ ap (λ (x : Step). (step_on x t st).tables.links) same;
          variables = K.variables ∙ S.variables;
        })
    by_step K (inr J) = inr (record { fresh = J.fresh; times = K.times ∙ J.times; links = K.links ∙ J.links; variables = K.variables ∙ J.variables })

    later : LastStamp ss (step_on s t st).tables (step_on s t st).state now state ⊎ Kept (step_on s t st).tables (step_on s t st).state now state → LastStamp (s ∷ ss) t st now state ⊎ Kept t st now state
    later (inl W) = inl (record {
      before = s ∷ W.before;
      order = W.order;
      lent = W.lent;
      behind = W.behind;
      list = ap (λ (xs : List Step). s ∷ xs) W.list;
      accepted = W.accepted;
      times = W.times;
      links = W.links;
      variables = W.variables;
    })
    later (inr K) = by_step K (step_stamps s t st (stamps_spent H.stamps) K.fresh)
