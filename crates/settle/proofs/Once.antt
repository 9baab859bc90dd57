-- A Propagate and a Merge, put together from what the calls have shown. Assumes nothing.
use Prim.Native.Nat.{ℕ}
use mathlib.Core.Path.{◌≡◌, sym, ap, subst, ◌∙◌}
use mathlib.Core.Bool.{Bool, true, false}
use mathlib.Core.List.{List, []}
use lib.Dec.{ltb}
use lib.IntN.{ℤ}
use Rattle.state.specs.declared.State.{State}
use Rattle.tables.specs.Tables.{tables}
use Rattle.visits.specs.Formed.{Formed, Variables}
use Rattle.merge.specs.Steps.{Openable}
use Rattle.settle.specs.Settle.{Standing, propagated, merged, grouped}
use Rattle.settle.specs.Steps.{standing_in, passed, after_merge, after_propagate, both_passes}
use Rattle.settle.specs.Own.{owns}
use Rattle.settle.proofs.Passing.{propagated_stops, propagated_goes, merged_stops, merged_goes, Settled, propagated_settled, Merged, merged_unmarked}

module _ (st : State) {c : List ℕ} {l w : List ℤ} (F : Formed st.v st.n st.n false c l w) (p : State) (c₁ : List ℕ) (l₁ w₁ : List ℤ)
    (P : (times : List ℕ) (links : List ℤ) → standing_in (tables c₁ l₁ w₁ times links) p ≡ propagated (standing_in (tables c l w times links) st)) where
  pub once_contradicted : p.mark ≡ true → (times : List ℕ) (links : List ℤ) → passed (standing_in (tables c₁ l₁ w₁ times links) p) false ≡ both_passes (standing_in (tables c l w times links) st)
  unfolding both_passes
  once_contradicted e times links = sym (propagated_stops (standing_in (tables c₁ l₁ w₁ times links) p) e) ∙ ap after_propagate (P times links)

  module _ (e : p.mark ≡ false) where
    after : (times : List ℕ) (links : List ℤ) → Settled st (standing_in (tables c₁ l₁ w₁ times links) p)
    after times links =
        subst (Settled st) (sym (P times links)) (propagated_settled (tables c l w times links) st F (sym (ap (λ (x : Standing). x.state.mark) (P times links)) ∙ e))

    pub once_variables : Variables st.v w₁
    once_variables = (after [] []).formed.vars

    pub once_openable : Openable p c₁ l₁ w₁
    once_openable = subst (λ (s : State). Openable s c₁ l₁ w₁) (sym (after [] []).state) (record { formed = (after [] []).formed; settled = λ times links. (after times links).settled })

    module _ (m : State) (c₂ : List ℕ) (l₂ w₂ : List ℤ) (M : (times : List ℕ) (links : List ℤ) → standing_in (tables c₂ l₂ w₂ times links) m ≡ merged (standing_in (tables c₁ l₁ w₁ times links) p)) where
      -- without the mark the Merge follows
      goes : (times : List ℕ) (links : List ℤ) → after_merge (standing_in (tables c₂ l₂ w₂ times links) m) (grouped (standing_in (tables c₁ l₁ w₁ times links) p)) ≡ both_passes (standing_in (tables c l w times links) st)
      unfolding both_passes
      goes times links =
          ap (λ (x : Standing). after_merge x (grouped (standing_in (tables c₁ l₁ w₁ times links) p))) (M times links)
          ∙ sym (propagated_goes (standing_in (tables c₁ l₁ w₁ times links) p) e)
          ∙ ap after_propagate (P times links)

      pub once_clash : m.mark ≡ true → (times : List ℕ) (links : List ℤ) → passed (standing_in (tables c₂ l₂ w₂ times links) m) false ≡ both_passes (standing_in (tables c l w times links) st)
      once_clash h times links = sym (merged_stops (standing_in (tables c₂ l₂ w₂ times links) m) (grouped (standing_in (tables c₁ l₁ w₁ times links) p)) h) ∙ goes times links

      module _ (h : m.mark ≡ false) where
        then : (times : List ℕ) (links : List ℤ) → Merged (tables c₁ l₁ w₁ times links) p (standing_in (tables c₂ l₂ w₂ times links) m)
        then times links =
            subst (Merged (tables c₁ l₁ w₁ times links) p) (sym (M times links))
            (merged_unmarked (tables c₁ l₁ w₁ times links) p once_openable.formed (sym (ap (λ (x : Standing). x.state.mark) (M times links)) ∙ h) (once_openable.settled times links))

        -- the number of variables stays
        same : p.v ≡ st.v
        same = ap (λ (s : State). s.v) (after [] []).state

        pub once_variables_again : Variables st.v w₂
        once_variables_again = subst (λ (v : ℕ). Variables v w₂) same (then [] []).formed.vars

        pub once_counted : (before left : ℕ) → before ≡ owns st.v w₁ → left ≡ owns st.v w₂ → {again : Bool} → ltb left before ≡ again → (times : List ℕ) (links : List ℤ)
            → passed (standing_in (tables c₂ l₂ w₂ times links) m) again ≡ both_passes (standing_in (tables c l w times links) st)
        once_counted before left b a less times links =
            ap (passed (standing_in (tables c₂ l₂ w₂ times links) m))
            (sym less ∙ ap (λ (x : ℕ). ltb x before) a ∙ ap (ltb (owns st.v w₂)) b ∙ ap (λ (v : ℕ). ltb (owns v w₂) (owns v w₁)) (sym same) ∙ (then times links).found)
            ∙ sym (merged_goes (standing_in (tables c₂ l₂ w₂ times links) m) (grouped (standing_in (tables c₁ l₁ w₁ times links) p)) h)
            ∙ goes times links
