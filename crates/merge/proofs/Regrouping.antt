-- The loop that puts the new classes in, as laws of lists.
-- Assumes nothing.
use Prim.Native.Nat.{ℕ, ◌+◌, ◌*◌, ◌≤◌, ◌<◌}
use native.Mathlib.Nat.{le_refl}
use native.Mathlib.Numerals.{add-one}
use native.Mathlib.Omega.{arith}
use mathlib.Core.Path.{◌≡◌, refl, sym, ap, subst, ◌∙◌}
use mathlib.Core.List.{List}
use lib.ListN.{length, get_or, set, length-set}
use lib.IntN.{ℤ, pos}
use Rattle.literal.specs.Literals.{Literal, slot_of}
use Rattle.literal.proofs.Laws.{slot_below}
use Rattle.merge.specs.Merge.{regrouped}
use Rattle.merge.specs.Opening.{through, Regroups}
use Rattle.merge.proofs.Regrouped.{class_at_lem, regrouped_past, regrouped_step}

-- w variables have their new class
pub record Regrouping (rep : List ℕ) (v : ℕ) (rs₀ rs : List ℤ) (w : ℕ) : Type 0 where
  pub within : w ≤ v
  pub size : length rs ≡ length rs₀
  pub done : rs ≡ regrouped (through rep) w rs₀

pub regrouping_none : (rep : List ℕ) (v : ℕ) (rs : List ℤ) → Regrouping rep v rs rs 0
unfolding regrouped
regrouping_none rep v rs = record { within = omega arith; size = refl; done = refl }

pub regrouping_all : {rep : List ℕ} {v : ℕ} {rs₀ rs : List ℤ} {w : ℕ} → v ≤ w → Regrouping rep v rs₀ rs w → rs ≡ regrouped (through rep) v rs₀
regrouping_all {rep} {v} {rs₀} {rs} {w} over G = G.done ∙ ap (λ (k : ℕ). regrouped (through rep) k rs₀) (let e : w ≡ v = omega (arith, G.within) in e)

module _ {rep : List ℕ} {v : ℕ} {rs₀ rs : List ℤ} {w : ℕ} (R : Regroups v rep rs₀) (G : Regrouping rep v rs₀ rs w) (lt : w < v) where
  abbrev class : ℤ
  class = get_or rs (2 * w) (pos 0)

  class_same : class ≡ get_or rs₀ (2 * w) (pos 0)
  class_same = ap (λ (l : List ℤ). get_or l (2 * w) (pos 0)) G.done ∙ regrouped_past (through rep) w rs₀ (2 * w) (le_refl _)

  pub class_ranged : Literal v class
  class_ranged = subst (Literal v) (class_at_lem rs₀ w ∙ sym class_same) (R.classes w lt)

  pub slot_in : slot_of class < 2 * v
  slot_in = slot_below class v class_ranged.above class_ranged.within

  pub regrouping_step : Regrouping rep v rs₀ (set rs (2 * w) (through rep class)) (w + 1)
  regrouping_step = record {
    within = omega arith;
    size = simp length-set G.size;
    done =
        ap (λ (z : ℤ). set rs (2 * w) (through rep z)) class_same
        ∙ ap (λ (l : List ℤ). set l (2 * w) (through rep (get_or rs₀ (2 * w) (pos 0)))) G.done
        ∙ regrouped_step (through rep) w rs₀ (omega (arith, R.room))
        ∙ ap (λ (k : ℕ). regrouped (through rep) k rs₀) (sym (add-one w));
  }
