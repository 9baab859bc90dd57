-- A whole Propagate and a whole Merge: how they end, whether Settle repeats them, and that it does so only with fewer variables that are their own class. Assumes nothing.
use Prim.Native.Nat.{◌<◌}
use native.Mathlib.Omega.{arith}
use mathlib.Core.Path.{◌≡◌, refl, sym, ap, subst, ◌∙◌}
use mathlib.Core.Bool.{Bool, true, false, false≢true}
use mathlib.Core.Logic.{◌⊎◌, inl, inr}
use lib.Dec.{ltb}
use borrow.Author.Tests.{lt-ltb, le-ltb, ltb-true}
use Rattle.state.specs.States.{marked}
use Rattle.state.specs.declared.State.{State}
use Rattle.tables.specs.Tables.{Tables}
use Rattle.tables.specs.Passes.{first_unsettled}
use Rattle.visits.specs.Formed.{Formed}
use Rattle.merge.specs.Merge.{edges_of, clashes}
use Rattle.visits.proofs.StoreKeeps.{FormedTo}
use Rattle.settle.specs.Settle.{Standing, propagated, merged, grouped}
use Rattle.settle.specs.Steps.{standing_in, Passed, passed, after_merge, after_propagate, both_passes}
use Rattle.settle.specs.Own.{owns}
use Rattle.settle.proofs.Whole.{whole, propagated_owns}
use Rattle.settle.proofs.Merging.{ended, merged_clash, merged_visits, merged_keeps}
use Rattle.settle.proofs.Alone.{merged_alone}
use Rattle.settle.proofs.Fewer.{merged_fewer}

-- ---- the marks

pub propagated_stops : (p : Standing) → p.state.mark ≡ true → after_propagate p ≡ passed p false
propagated_stops p e = ap by e
  where
    by : Bool → Passed
    by b = elim b [ true ↦ passed p false | false ↦ after_merge (merged p) (grouped p) ]

pub propagated_goes : (p : Standing) → p.state.mark ≡ false → after_propagate p ≡ after_merge (merged p) (grouped p)
propagated_goes p e = ap by e
  where
    by : Bool → Passed
    by b = elim b [ true ↦ passed p false | false ↦ after_merge (merged p) (grouped p) ]

pub merged_stops : (m : Standing) (found : Bool) → m.state.mark ≡ true → after_merge m found ≡ passed m false
merged_stops m found e = ap by e
  where
    by : Bool → Passed
    by b = elim b [ true ↦ passed m false | false ↦ passed m found ]

pub merged_goes : (m : Standing) (found : Bool) → m.state.mark ≡ false → after_merge m found ≡ passed m found
merged_goes m found e = ap by e
  where
    by : Bool → Passed
    by b = elim b [ true ↦ passed m false | false ↦ passed m found ]

-- ---- the Propagate

-- without the mark the tables are those in which a Merge can open
pub record Settled (st : State) (p : Standing) : Type 0 where
  pub formed : FormedTo st.v st.n st.n p.tables
  pub state : p.state ≡ ended st
  pub settled : first_unsettled p.tables st.n ≡ st.n

pub propagated_settled : (t : Tables) (st : State) → FormedTo st.v st.n st.n t → (propagated (standing_in t st)).state.mark ≡ false → Settled st (propagated (standing_in t st))
propagated_settled t st F e = by (whole t st F).ending
  where
    by : ((propagated (standing_in t st)).state ≡ marked st) ⊎ (((propagated (standing_in t st)).state ≡ ended st) × (first_unsettled (propagated (standing_in t st)).tables st.n ≡ st.n)) → Settled st (propagated (standing_in t st))
    by (inl m) = absurd (false≢true (sym e ∙ ap (λ (s : State). s.mark) m))
    by (inr h) = record {
      formed =
          subst (λ (b : Bool). Formed st.v st.n st.n b (propagated (standing_in t st)).tables.clauses (propagated (standing_in t st)).tables.literals (propagated (standing_in t st)).tables.variables) e
          (whole t st F).formed;
      state = h.0;
      settled = h.1;
    }

-- ---- the Merge

-- what a Merge leaves without the mark
pub record Merged (t : Tables) (st : State) (m : Standing) : Type 0 where
  pub formed : FormedTo st.v st.n st.n m.tables
  pub state : m.state ≡ ended st
  -- there are fewer variables that are their own class exactly if it finds a group
  pub found : ltb (owns st.v m.tables.variables) (owns st.v t.variables) ≡ grouped (standing_in t st)

module _ (t : Tables) (st : State) (F : FormedTo st.v st.n st.n t) (unmarked : (merged (standing_in t st)).state.mark ≡ false) where
  fewer_if : ltb (owns st.v (merged (standing_in t st)).tables.variables) (owns st.v t.variables) ≡ grouped (standing_in t st)
  fewer_if = by (grouped (standing_in t st)) refl
    where
      by : (b : Bool) → grouped (standing_in t st) ≡ b → ltb (owns st.v (merged (standing_in t st)).tables.variables) (owns st.v t.variables) ≡ b
      by true e = lt-ltb (owns st.v (merged (standing_in t st)).tables.variables) (owns st.v t.variables) (merged_fewer t st F e unmarked)
      by false e =
          le-ltb (owns st.v (merged (standing_in t st)).tables.variables) (owns st.v t.variables)
          (let same = ap (λ (x : Standing). owns st.v x.tables.variables) (merged_alone t st F e) in omega arith)

  pub merged_unmarked : first_unsettled t st.n ≡ st.n → Merged t st (merged (standing_in t st))
  merged_unmarked settled = by (clashes (edges_of t st.n) st.v) refl
    where
      by : (b : Bool) → clashes (edges_of t st.n) st.v ≡ b → Merged t st (merged (standing_in t st))
      by true e = absurd (false≢true (sym unmarked ∙ ap (λ (x : Standing). x.state.mark) (merged_clash t st e)))
      by false e =
          let is = merged_visits t st e in
          record {
            formed = subst (λ (x : Standing). FormedTo st.v st.n st.n x.tables) (sym is) (merged_keeps t st F e settled);
            state = ap (λ (x : Standing). x.state) is;
            found = fewer_if;
          }

-- ---- both

-- what stands where both are repeated
pub record Next (t : Tables) (st : State) (m : Standing) : Type 0 where
  pub formed : FormedTo st.v st.n st.n m.tables
  pub state : m.state ≡ ended st
  pub fewer : owns st.v m.tables.variables < owns st.v t.variables

-- after a Propagate that has not set the mark
settled_again : (t u : Tables) (st : State) → FormedTo st.v st.n st.n u → first_unsettled u st.n ≡ st.n → owns st.v u.variables ≡ owns st.v t.variables
    → (after_merge (merged (standing_in u st)) (grouped (standing_in u st))).again ≡ true → Next t st (after_merge (merged (standing_in u st)) (grouped (standing_in u st))).standing
settled_again t u st F settled same e = by (merged (standing_in u st)).state.mark refl
  where
    by : (b : Bool) → (merged (standing_in u st)).state.mark ≡ b → Next t st (after_merge (merged (standing_in u st)) (grouped (standing_in u st))).standing
    by true h = absurd (false≢true (sym (ap (λ (x : Passed). x.again) (merged_stops (merged (standing_in u st)) (grouped (standing_in u st)) h)) ∙ e))
    by false h =
        let M = merged_unmarked u st F h settled in
        let goes = merged_goes (merged (standing_in u st)) (grouped (standing_in u st)) h in
        let less = ltb-true (owns st.v (merged (standing_in u st)).tables.variables) (owns st.v u.variables) (M.found ∙ sym (ap (λ (x : Passed). x.again) goes) ∙ e) in
        subst (λ (x : Passed). Next t st x.standing) (sym goes) (record { formed = M.formed; state = M.state; fewer = omega (arith, less, same) })

-- THE LAW
pub passes_again : (t : Tables) (st : State) → FormedTo st.v st.n st.n t → (both_passes (standing_in t st)).again ≡ true → Next t st (both_passes (standing_in t st)).standing
unfolding both_passes
passes_again t st F e = by (propagated (standing_in t st)).state.mark refl
  where
    by : (b : Bool) → (propagated (standing_in t st)).state.mark ≡ b → Next t st (after_propagate (propagated (standing_in t st))).standing
    by true h = absurd (false≢true (sym (ap (λ (x : Passed). x.again) (propagated_stops (propagated (standing_in t st)) h)) ∙ e))
    by false h =
        let S = propagated_settled t st F h in
        let u : Tables = (propagated (standing_in t st)).tables in
        let goes : after_propagate (propagated (standing_in t st)) ≡ after_merge (merged (standing_in u (ended st))) (grouped (standing_in u (ended st))) =
        propagated_goes (propagated (standing_in t st)) h ∙ ap (λ (s : State). after_merge (merged (standing_in u s)) (grouped (standing_in u s))) S.state in
        let N = settled_again t u (ended st) S.formed S.settled (propagated_owns t st F) (sym (ap (λ (x : Passed). x.again) goes) ∙ e) in
        subst (λ (x : Passed). Next t st x.standing) (sym goes) (record { formed = N.formed; state = N.state; fewer = N.fewer })
