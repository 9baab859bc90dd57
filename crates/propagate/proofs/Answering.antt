-- The answer of a call, put together from its visits, its two counts and the values spread. Assumes nothing.
use Prim.Native.Nat.{ℕ, ◌<◌}
use mathlib.Core.Path.{◌≡◌, refl, sym, ap, subst, ◌∙◌}
use mathlib.Core.Bool.{Bool, false}
use mathlib.Core.List.{List, []}
use lib.IntN.{ℤ}
use Rattle.state.specs.declared.State.{State}
use Rattle.state.specs.declared.Counts.{Counts}
use Rattle.tables.specs.Tables.{Tables, tables}
use Rattle.tables.specs.Clauses.{gone}
use Rattle.tables.specs.Calls.{After}
use Rattle.visits.specs.Formed.{Variables, Formed, Counted}
use Rattle.visits.proofs.Counting.{formed_counted}
use Rattle.spread.specs.Spread.{spread_behind}
use Rattle.propagate.specs.Propagate.{propagate_from, replied}
use Rattle.propagate_visits.specs.Visits.{Progress, going, Reached, propagate_visits}
use Rattle.propagate.specs.Steps.{replied_with}
use Rattle.propagate_visits.specs.Steps.{progress_of, reached_as}
use Rattle.propagate_visits.specs.declared.Stand.{Stand}
use Rattle.propagate_visits.specs.declared.Stand.TheVariants.{Going, Settled, Contradicted}
use Rattle.propagate_visits.specs.declared.Reach.{Reach}
use Rattle.propagate_visits.proofs.Stepping.{Good, visits_good}

-- where the pass stands, with its tables, says what is replied
replied_stand : (fresh : Bool) (before : List ℕ) (st : State) (m : ℕ) (s : Stand) (t : Tables) → replied fresh before st m (progress_of s t) ≡ replied_with fresh (gone m st.n before t.clauses) st s t
replied_stand fresh before st m (Going k changed) t = refl
replied_stand fresh before st m Settled t = refl
replied_stand fresh before st m Contradicted t = refl

module _ (fresh : Bool) (steps : ℕ) (st : State) (r : Reach) (p : Progress) (t t' : Tables) (made : reached_as r t' ≡ propagate_visits st.n steps 0 p) where
  -- the call's answer, with the values spread
  pub replied_is : (c : Counts) → c ≡ gone r.visits st.n t.clauses t'.clauses → (a : After) → a ≡ replied_with fresh c st r.stand t' → spread_behind st.v a ≡ propagate_from fresh steps p t st
  unfolding propagate_from
  replied_is c e a h =
      ap (spread_behind st.v)
      (h ∙ ap (λ (x : Counts). replied_with fresh x st r.stand t') e ∙ sym (replied_stand fresh t.clauses st r.visits r.stand t')
      ∙ ap (λ (x : Reached). replied fresh t.clauses st x.visits x.progress) made)

-- the tables that the visits leave can be counted, and their variables' records are right but for values that are not spread
module _ (v n steps k : ℕ) (changed : Bool) (c : List ℕ) (l w : List ℤ) (r : Reach) (c' : List ℕ) (l' w' : List ℤ) (F : Formed v n n false c l w) (below : k < n)
    (made : (times : List ℕ) (links : List ℤ) → reached_as r (tables c' l' w' times links) ≡ propagate_visits n steps 0 (going k changed (tables c l w times links))) where
  reached_good : Good v n (progress_of r.stand (tables c' l' w' [] []))
  reached_good = subst (Good v n) (ap (λ (x : Reached). x.progress) (sym (made [] []))) (visits_good v n steps 0 (going k changed (tables c l w [] [])) (F, below))

  pub reach_counted : Counted n c'
  reach_counted = by r.stand reached_good
    where
      by : (s : Stand) → Good v n (progress_of s (tables c' l' w' [] [])) → Counted n c'
      by (Going j b) G = formed_counted G.0
      by Settled G = formed_counted G
      by Contradicted G = formed_counted G

  pub reach_rows : Variables v w'
  reach_rows = by r.stand reached_good
    where
      by : (s : Stand) → Good v n (progress_of s (tables c' l' w' [] [])) → Variables v w'
      by (Going j b) G = G.0.vars
      by Settled G = G.vars
      by Contradicted G = G.vars
