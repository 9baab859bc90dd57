-- Settle as both passes repeated, and that its fuel is enough: any number above that of the variables that are their own class gives the same. Assumes nothing.
use Prim.Native.Nat.{ℕ, zero, suc, ◌+◌, ◌<◌}
use native.Mathlib.Omega.{arith}
use mathlib.Core.Path.{◌≡◌, refl, sym, ap, ◌∙◌}
use mathlib.Core.Bool.{Bool, true, false}
use Rattle.state.specs.declared.State.{State}
use Rattle.tables.specs.Tables.{Tables}
use Rattle.visits.proofs.StoreKeeps.{FormedTo}
use Rattle.settle.specs.Settle.{Standing, propagated, merged, grouped, settle_for, settle}
use Rattle.settle.specs.Steps.{standing_in, Passed, passed, both_passes}
use Rattle.settle.specs.Own.{owns}
use Rattle.settle.proofs.Owning.{owns_within}
use Rattle.settle.proofs.Merging.{ended}
use Rattle.settle.proofs.Passing.{passes_again}

-- ---- both passes, and then the rest

abbrev onward : ℕ → Passed → Standing
onward fuel x = elim x.again [ true ↦ settle_for fuel x.standing | false ↦ x.standing ]

settle_passes : (fuel : ℕ) (w : Standing) → settle_for (suc fuel) w ≡ onward fuel (both_passes w)
unfolding settle_for both_passes
settle_passes fuel w = by (propagated w).state.mark (merged (propagated w)).state.mark (grouped (propagated w)) (propagated w) (merged (propagated w))
  where
    by : (b c g : Bool) (p m : Standing)
        → elim b as (λ x. Standing) [ true ↦ p | false ↦ elim c as (λ x. Standing) [ true ↦ m | false ↦ elim g as (λ x. Standing) [ true ↦ settle_for fuel m | false ↦ m ] ] ]
        ≡ onward fuel (elim b as (λ x. Passed) [ true ↦ passed p false | false ↦ elim c as (λ x. Passed) [ true ↦ passed m false | false ↦ passed m g ] ])
    by true c g p m = refl
    by false true g p m = refl
    by false false true p m = refl
    by false false false p m = refl

pub settle_ends : (fuel : ℕ) (w : Standing) → (both_passes w).again ≡ false → settle_for (suc fuel) w ≡ (both_passes w).standing
settle_ends fuel w e = settle_passes fuel w ∙ ap by e
  where
    by : Bool → Standing
    by b = elim b [ true ↦ settle_for fuel (both_passes w).standing | false ↦ (both_passes w).standing ]

pub settle_goes : (fuel : ℕ) (w : Standing) → (both_passes w).again ≡ true → settle_for (suc fuel) w ≡ settle_for fuel (both_passes w).standing
settle_goes fuel w e = settle_passes fuel w ∙ ap by e
  where
    by : Bool → Standing
    by b = elim b [ true ↦ settle_for fuel (both_passes w).standing | false ↦ (both_passes w).standing ]

-- ---- enough

pub same_fuel : (f g : ℕ) (t : Tables) (st : State) → FormedTo st.v st.n st.n t → owns st.v t.variables < f → owns st.v t.variables < g → settle_for f (standing_in t st) ≡ settle_for g (standing_in t st)
same_fuel zero g t st F a b = absurd (omega arith)
same_fuel (suc f) zero t st F a b = absurd (omega arith)
same_fuel (suc f) (suc g) t st F a b = by (λ u s G c d. same_fuel f g u s G c d) (both_passes (standing_in t st)).again refl
  where
    by : ((u : Tables) (s : State) → FormedTo s.v s.n s.n u → owns s.v u.variables < f → owns s.v u.variables < g → settle_for f (standing_in u s) ≡ settle_for g (standing_in u s))
        → (x : Bool) → (both_passes (standing_in t st)).again ≡ x → settle_for (suc f) (standing_in t st) ≡ settle_for (suc g) (standing_in t st)
    by rest false e = settle_ends f (standing_in t st) e ∙ sym (settle_ends g (standing_in t st) e)
    by rest true e =
        let N = passes_again t st F e in
        let u : Tables = (both_passes (standing_in t st)).standing.tables in
        let is : (both_passes (standing_in t st)).standing ≡ standing_in u (ended st) = ap (standing_in u) N.state in
        settle_goes f (standing_in t st) e
        ∙ ap (settle_for f) is
        ∙ rest u (ended st) N.formed (omega (arith, N.fewer, a)) (omega (arith, N.fewer, b))
        ∙ ap (settle_for g) (sym is)
        ∙ sym (settle_goes g (standing_in t st) e)

-- THE LAW: the fuel of the definition is enough
pub settle_enough : (f : ℕ) (t : Tables) (st : State) → FormedTo st.v st.n st.n t → owns st.v t.variables < f → settle_for f (standing_in t st) ≡ settle (standing_in t st)
unfolding settle
settle_enough f t st F a = same_fuel f (st.v + 1) t st F a (omega (arith, owns_within st.v t.variables))
