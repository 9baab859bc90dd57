-- What Settle leaves without the mark: tables that a Stamp takes. No clause is unsettled, and no two different literals reach each other. Assumes nothing.
use Prim.Native.Nat.{ℕ, zero, suc, ◌+◌, ◌<◌}
use native.Mathlib.Omega.{arith}
use mathlib.Core.Path.{◌≡◌, refl, sym, ap, subst, ◌∙◌}
use mathlib.Core.Bool.{Bool, true, false, false≢true}
use Rattle.state.specs.declared.State.{State}
use Rattle.tables.specs.Tables.{Tables}
use Rattle.tables.specs.Passes.{first_unsettled}
use Rattle.visits.proofs.StoreKeeps.{FormedTo}
use Rattle.settle.specs.Settle.{Standing, propagated, merged, grouped, settle_for, settle}
use Rattle.settle.specs.Steps.{standing_in, Passed, after_merge, after_propagate, both_passes}
use Rattle.settle.specs.Own.{owns}
use Rattle.settle.proofs.Owning.{owns_within}
use Rattle.settle.proofs.Merging.{ended}
use Rattle.settle.proofs.Alone.{merged_alone}
use Rattle.settle.proofs.Passing.{propagated_stops, propagated_goes, merged_stops, merged_goes, propagated_settled, passes_again}
use Rattle.settle.proofs.Fuel.{settle_ends, settle_goes}

-- w is what Settle leaves of tables with the state st
pub record Quiet (st : State) (w : Standing) : Type 0 where
  pub formed : FormedTo st.v st.n st.n w.tables
  pub state : w.state ≡ ended st
  pub settled : first_unsettled w.tables st.n ≡ st.n
  pub acyclic : grouped w ≡ false

-- a Merge that finds only groups of one leaves what stood
settled_last : (u : Tables) (st : State) → FormedTo st.v st.n st.n u → first_unsettled u st.n ≡ st.n → (after_merge (merged (standing_in u st)) (grouped (standing_in u st))).again ≡ false
    → (after_merge (merged (standing_in u st)) (grouped (standing_in u st))).standing.state.mark ≡ false → Quiet st (after_merge (merged (standing_in u st)) (grouped (standing_in u st))).standing
settled_last u st F settled e clear = by (merged (standing_in u st)).state.mark refl
  where
    by : (b : Bool) → (merged (standing_in u st)).state.mark ≡ b → Quiet st (after_merge (merged (standing_in u st)) (grouped (standing_in u st))).standing
    by true h = absurd (false≢true (sym clear ∙ ap (λ (x : Passed). x.standing.state.mark) (merged_stops (merged (standing_in u st)) (grouped (standing_in u st)) h) ∙ h))
    by false h =
        let goes = merged_goes (merged (standing_in u st)) (grouped (standing_in u st)) h in
        let alone : grouped (standing_in u st) ≡ false = sym (ap (λ (x : Passed). x.again) goes) ∙ e in
        subst (λ (x : Passed). Quiet st x.standing) (sym goes) (subst (Quiet st) (sym (merged_alone u st F alone)) (record { formed = F; state = refl; settled = settled; acyclic = alone }))

last_quiet : (t : Tables) (st : State) → FormedTo st.v st.n st.n t → (both_passes (standing_in t st)).again ≡ false → (both_passes (standing_in t st)).standing.state.mark ≡ false → Quiet st (both_passes (standing_in t st)).standing
unfolding both_passes
last_quiet t st F e clear = by (propagated (standing_in t st)).state.mark refl
  where
    by : (b : Bool) → (propagated (standing_in t st)).state.mark ≡ b → Quiet st (after_propagate (propagated (standing_in t st))).standing
    by true h = absurd (false≢true (sym clear ∙ ap (λ (x : Passed). x.standing.state.mark) (propagated_stops (propagated (standing_in t st)) h) ∙ h))
    by false h =
        let S = propagated_settled t st F h in
        let u : Tables = (propagated (standing_in t st)).tables in
        let goes : after_propagate (propagated (standing_in t st)) ≡ after_merge (merged (standing_in u (ended st))) (grouped (standing_in u (ended st))) =
        propagated_goes (propagated (standing_in t st)) h ∙ ap (λ (s : State). after_merge (merged (standing_in u s)) (grouped (standing_in u s))) S.state in
        let Q = settled_last u (ended st) S.formed S.settled (sym (ap (λ (x : Passed). x.again) goes) ∙ e) (sym (ap (λ (x : Passed). x.standing.state.mark) goes) ∙ clear) in
        subst (λ (x : Passed). Quiet st x.standing) (sym goes) (record { formed = Q.formed; state = Q.state; settled = Q.settled; acyclic = Q.acyclic })

fuel_quiet : (f : ℕ) (t : Tables) (st : State) → FormedTo st.v st.n st.n t → owns st.v t.variables < f → (settle_for f (standing_in t st)).state.mark ≡ false → Quiet st (settle_for f (standing_in t st))
fuel_quiet zero t st F a clear = absurd (omega arith)
fuel_quiet (suc f) t st F a clear = by (λ u s G b c. fuel_quiet f u s G b c) (both_passes (standing_in t st)).again refl
  where
    by : ((u : Tables) (s : State) → FormedTo s.v s.n s.n u → owns s.v u.variables < f → (settle_for f (standing_in u s)).state.mark ≡ false → Quiet s (settle_for f (standing_in u s)))
        → (x : Bool) → (both_passes (standing_in t st)).again ≡ x → Quiet st (settle_for (suc f) (standing_in t st))
    by rest false e =
        let is = settle_ends f (standing_in t st) e in
        subst (Quiet st) (sym is) (last_quiet t st F e (sym (ap (λ (x : Standing). x.state.mark) is) ∙ clear))
    by rest true e =
        let N = passes_again t st F e in
        let u : Tables = (both_passes (standing_in t st)).standing.tables in
        let is : settle_for (suc f) (standing_in t st) ≡ settle_for f (standing_in u (ended st)) = settle_goes f (standing_in t st) e ∙ ap (λ (s : State). settle_for f (standing_in u s)) N.state in
        let Q = rest u (ended st) N.formed (omega (arith, N.fewer, a)) (sym (ap (λ (x : Standing). x.state.mark) is) ∙ clear) in
        subst (Quiet st) (sym is) (record { formed = Q.formed; state = Q.state; settled = Q.settled; acyclic = Q.acyclic })

-- THE THEOREM
pub settle_quiet : (t : Tables) (st : State) → FormedTo st.v st.n st.n t → (settle (standing_in t st)).state.mark ≡ false → Quiet st (settle (standing_in t st))
unfolding settle
settle_quiet t st F clear = fuel_quiet (st.v + 1) t st F (omega (arith, owns_within st.v t.variables)) clear
