-- What a whole Propagate leaves, as Settle uses it: it has ended, with the mark or with no clause unsettled; the tables are formed; and the stamp records and the classes are as they were. Assumes nothing.
use Prim.Native.Nat.{ℕ}
use mathlib.Core.Path.{◌≡◌, refl, subst, ◌∙◌}
use mathlib.Core.Bool.{false}
use mathlib.Core.Logic.{◌⊎◌, inl, inr}
use mathlib.Core.List.{List}
use Rattle.state.specs.States.{closed, marked}
use Rattle.state.specs.declared.State.{State}
use Rattle.tables.specs.Tables.{Tables, class_of}
use Rattle.tables.specs.Passes.{first_unsettled}
use Rattle.shape.specs.Shape.{Spread}
use Rattle.visits.specs.Formed.{Formed}
use Rattle.visits.proofs.Visiting.{SameStamps}
use Rattle.visits.proofs.StoreKeeps.{FormedIn}
use Rattle.spread.specs.Spread.{spread_behind}
use Rattle.spread.proofs.Spreading.{spread_alike, spread_done, spread_formed}
use Rattle.spread.proofs.Settled.{unsettled_spread}
use Rattle.propagate.specs.Propagate.{replied, propagate_from}
use Rattle.propagate_visits.specs.Visits.{Progress, going, settled, contradicted, begin, Reached, propagate_visits}
use Rattle.propagate_visits.proofs.Stepping.{Good}
use Rattle.propagate.proofs.Shaped.{tables_at, visits_stamps, visits_classes, begin_tables, begin_good}
use Rattle.settle.specs.Settle.{Standing, between, enough, propagated}
use Rattle.settle.specs.Own.{owns}
use Rattle.settle.specs.Steps.{standing_in}
use Rattle.settle.proofs.Owning.{owns_same}
use Rattle.settle.proofs.Ending.{Final, begin_ends}

-- p is what a whole Propagate leaves of w
pub record Ended (w p : Standing) : Type 0 where
  -- under the mark only what the shape rule asks there
  pub formed : Formed w.state.v w.state.n w.state.n p.state.mark p.tables.clauses p.tables.literals p.tables.variables
  -- the mark, or no pass open and no clause unsettled
  pub ending : (p.state ≡ marked w.state) ⊎ ((p.state ≡ closed false w.state) × (first_unsettled p.tables w.state.n ≡ w.state.n))
  pub stamps : SameStamps w.tables p.tables
  pub classes : (j : ℕ) → class_of p.tables.variables j ≡ class_of w.tables.variables j
  pub values : Spread w.state.v p.tables.variables

replied_ended : (t : Tables) (st : State) (before : List ℕ) (m : ℕ) (q : Progress) → Final st.v st.n q → SameStamps t (tables_at q) → ((j : ℕ) → class_of (tables_at q).variables j ≡ class_of t.variables j)
    → Ended (record { tables = t; state = st }) (between (spread_behind st.v (replied false before st m q)))
replied_ended t st before m (going k changed u) G S C = absurd G
replied_ended t st before m (settled u) G S C = record {
  formed = spread_formed G.0;
  ending = inr (refl, unsettled_spread u G.0 ∙ G.1);
  stamps = record { times = S.times; links = S.links };
  classes = λ j. (spread_alike G.0.vars).classes j ∙ C j;
  values = spread_done G.0.vars;
}
replied_ended t st before m (contradicted u) G S C = record {
  formed = spread_formed G;
  ending = inl refl;
  stamps = record { times = S.times; links = S.links };
  classes = λ j. (spread_alike G.vars).classes j ∙ C j;
  values = spread_done G.vars;
}

-- THE THEOREM
pub whole : (t : Tables) (st : State) → FormedIn st.v st.n t → Ended (record { tables = t; state = st }) (propagated (record { tables = t; state = st }))
unfolding propagate_from
whole t st F =
    replied_ended t st t.clauses r.visits r.progress (begin_ends t st F) (subst (λ (u : Tables). SameStamps u (tables_at r.progress)) begins (visits_stamps st.v st.n (enough t st) 0 p G))
    (subst (λ (u : Tables). (j : ℕ) → class_of (tables_at r.progress).variables j ≡ class_of u.variables j) begins (visits_classes st.v st.n (enough t st) 0 p G))
  where
    p : Progress
    p = begin st.n t

    r : Reached
    r = propagate_visits st.n (enough t st) 0 p

    begins : tables_at p ≡ t
    begins = begin_tables st.n t

    G : Good st.v st.n p
    G = begin_good st.v st.n t F

-- as many variables are their own class after it
pub propagated_owns : (t : Tables) (st : State) → FormedIn st.v st.n t → owns st.v (propagated (standing_in t st)).tables.variables ≡ owns st.v t.variables
propagated_owns t st F = owns_same st.v t.variables (propagated (standing_in t st)).tables.variables (whole t st F).classes
