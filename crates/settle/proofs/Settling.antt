-- The loop of Settle: what is left, from here, gives what Settle gives; and each time but the last leaves fewer variables their own class. Assumes nothing.
use Prim.Native.Nat.{ℕ, suc, ◌<◌}
use native.Mathlib.Omega.{arith}
use mathlib.Core.Path.{◌≡◌, refl, sym, ap, subst, ◌∙◌}
use mathlib.Core.Bool.{Bool, true, false}
use mathlib.Core.List.{List, []}
use lib.ListN.{length}
use lib.IntN.{ℤ}
use Rattle.state.specs.declared.State.{State}
use Rattle.tables.specs.Tables.{tables}
use Rattle.visits.specs.Formed.{Formed}
use Rattle.settle.specs.Settle.{settle_for, settle}
use Rattle.settle.specs.Steps.{standing_in, Passed, passed, both_passes}
use Rattle.settle.specs.Own.{owns}
use Rattle.settle.proofs.Passing.{Next, passes_again}
use Rattle.settle.proofs.Fuel.{settle_ends, settle_goes, same_fuel, settle_enough}

-- the fuel that is left: one more than the variables that are their own class
pub record Settling (st₀ : State) (c₀ : List ℕ) (l₀ w₀ : List ℤ) (st : State) (c : List ℕ) (l w : List ℤ) : Type 0 where
  pub formed : Formed st.v st.n st.n false c l w
  pub sizes : (length c ≡ length c₀) × ((length l ≡ length l₀) × (length w ≡ length w₀))
  pub left : (times : List ℕ) (links : List ℤ) → settle_for (suc (owns st.v w)) (standing_in (tables c l w times links) st) ≡ settle (standing_in (tables c₀ l₀ w₀ times links) st₀)

pub settling_none : {st : State} {c : List ℕ} {l w : List ℤ} → Formed st.v st.n st.n false c l w → Settling st c l w st c l w
settling_none {st} {c} {l} {w} F = record {
  formed = F;
  sizes = (refl, (refl, refl));
  left = λ times links. settle_enough (suc (owns st.v w)) (tables c l w times links) st F (omega arith);
}

module _ {st₀ : State} {c₀ : List ℕ} {l₀ w₀ : List ℤ} {st : State} {c : List ℕ} {l w : List ℤ} (S : Settling st₀ c₀ l₀ w₀ st c l w) (st' : State) (again : Bool) (c' : List ℕ) (l' w' : List ℤ)
    (one : (times : List ℕ) (links : List ℤ) → passed (standing_in (tables c' l' w' times links) st') again ≡ both_passes (standing_in (tables c l w times links) st)) where
  is_again : (times : List ℕ) (links : List ℤ) → again ≡ (both_passes (standing_in (tables c l w times links) st)).again
  is_again times links = ap (λ (x : Passed). x.again) (one times links)

  is_standing : (times : List ℕ) (links : List ℤ) → standing_in (tables c' l' w' times links) st' ≡ (both_passes (standing_in (tables c l w times links) st)).standing
  is_standing times links = ap (λ (x : Passed). x.standing) (one times links)

  -- both passes are not repeated
  pub settling_done : again ≡ false → (times : List ℕ) (links : List ℤ) → standing_in (tables c' l' w' times links) st' ≡ settle (standing_in (tables c₀ l₀ w₀ times links) st₀)
  settling_done e times links =
      is_standing times links ∙ sym (settle_ends (owns st.v w) (standing_in (tables c l w times links) st) (sym (is_again times links) ∙ e)) ∙ S.left times links

  module _ (e : again ≡ true) where
    next : Next (tables c l w [] []) st (standing_in (tables c' l' w' [] []) st')
    next = subst (Next (tables c l w [] []) st) (sym (is_standing [] [])) (passes_again (tables c l w [] []) st S.formed (sym (is_again [] []) ∙ e))

    formed' : Formed st'.v st'.n st'.n false c' l' w'
    formed' = subst (λ (s : State). Formed s.v s.n s.n false c' l' w') (sym next.state) next.formed

    pub settling_less : owns st'.v w' < owns st.v w
    settling_less = subst (λ (s : State). owns s.v w' < owns st.v w) (sym next.state) next.fewer

    pub settling_next : length c' ≡ length c → length l' ≡ length l → length w' ≡ length w → Settling st₀ c₀ l₀ w₀ st' c' l' w'
    settling_next lc ll lw = record {
      formed = formed';
      sizes = (lc ∙ S.sizes.0, (ll ∙ S.sizes.1.0, lw ∙ S.sizes.1.1));
      left = λ times links.
          same_fuel (suc (owns st'.v w')) (owns st.v w) (tables c' l' w' times links) st' formed' (omega arith) settling_less
          ∙ ap (settle_for (owns st.v w)) (is_standing times links)
          ∙ sym (settle_goes (owns st.v w) (standing_in (tables c l w times links) st) (sym (is_again times links) ∙ e))
          ∙ S.left times links;
    }
