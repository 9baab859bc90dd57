-- One variable, by the code's tests; and the loop over the variables: what is left from here gives what the whole gives. Assumes nothing.
use Prim.Native.Nat.{ℕ, zero, suc, ◌+◌, ◌*◌, ◌-◌, ◌≤◌, ◌<◌}
use native.Mathlib.Numerals.{add-one}
use native.Mathlib.Omega.{arith}
use mathlib.Core.Path.{◌≡◌, refl, sym, ap, subst, ◌∙◌}
use mathlib.Core.Bool.{Bool, true, false}
use mathlib.Core.List.{List}
use lib.ListN.{length}
use lib.IntN.{ℤ}
use Rattle.literal.specs.Literals.{lit_at, twin}
use Rattle.literal.proofs.Twins.{twin_below}
use Rattle.walk.specs.Walk.{Stamps}
use Rattle.stamp_columns.specs.Columns.{columns}
use Rattle.hidden.specs.Failed.{same_start, failed_slot}
use Rattle.visits.specs.Formed.{Variables, Known}
use Rattle.failed.specs.Failed.{Found, found, assert, failed_at, failed_from}
use Rattle.failed.specs.Steps.{found_of, Rooted, FullStamps, Failable}
use Rattle.failed.specs.declared.Tally.{Tally}
use Rattle.failed.proofs.Climbing.{stamped_rooted, failed_below, slot_ranged}
use Rattle.failed.proofs.Valuing.{Kept, kept_at, at_most}

-- ---- one variable

-- what variable w + 1 gives the functions on its slots
module _ {vs : List ℤ} {times : List ℕ} {links : List ℤ} {w : ℕ} (F : Failable vs times links w) where
  first_below : 2 * w < 2 * F.count
  first_below = omega (arith, F.below)

  pub able_rooted : Rooted links (2 * w)
  able_rooted = stamped_rooted F.stamped (2 * w) first_below

  pub able_twin : Rooted links (twin (2 * w))
  able_twin = stamped_rooted F.stamped (twin (2 * w)) (twin_below F.count (2 * w) first_below)

  module _ (same : same_start (columns times links) (2 * w) ≡ true) where
    module _ (x : ℕ) (ensured : (v : ℕ) → FullStamps v times links → 2 * w < 2 * v → x ≡ failed_slot (columns times links) (2 * v) (2 * w)) where
      failed_within : x < 2 * F.count
      failed_within = subst (λ (k : ℕ). k < 2 * F.count) (sym (ensured F.count F.stamped first_below)) (failed_below F.stamped (2 * w) first_below same)

      complement_within : twin x < 2 * F.count
      complement_within = twin_below F.count x failed_within

      pub failed_small : x < 65536
      failed_small = omega (arith, failed_within, F.stamped.few)

      pub complement_small : twin x < 4294967294
      complement_small = omega (arith, complement_within, F.stamped.few)

      pub complement_known : Known vs (lit_at (twin x))
      complement_known = record { count = F.count; rows = F.rows; ranged = slot_ranged F.stamped (twin x) complement_within }

module _ (σ : Stamps) (size w : ℕ) (vs : List ℤ) (n : ℕ) where
  pub at_apart : same_start σ (2 * w) ≡ false → found vs n false ≡ failed_at σ size w vs n
  unfolding failed_at
  at_apart e = ap (λ (b : Bool). elim b as (λ x. Found) [ true ↦ assert (lit_at (twin (failed_slot σ size (2 * w)))) vs n | false ↦ found vs n false ]) (sym e)

  pub at_failed : same_start σ (2 * w) ≡ true → (x : ℕ) → x ≡ failed_slot σ size (2 * w) → assert (lit_at (twin x)) vs n ≡ failed_at σ size w vs n
  unfolding failed_at
  at_failed e x is =
      ap (λ (y : ℕ). assert (lit_at (twin y)) vs n) is
      ∙ ap (λ (b : Bool). elim b as (λ x. Found) [ true ↦ assert (lit_at (twin (failed_slot σ size (2 * w)))) vs n | false ↦ found vs n false ]) (sym e)

-- ---- the loop

from_opposite : (σ : Stamps) (size m w : ℕ) (f : Found) → f.opposite ≡ true → failed_from σ size m w f ≡ f
unfolding failed_from
from_opposite σ size zero w f e = refl
from_opposite σ size (suc m) w f e = ap (λ (b : Bool). elim b as (λ x. Found) [ true ↦ f | false ↦ failed_from σ size m (suc w) (failed_at σ size w f.variables f.set) ]) e

from_step : (σ : Stamps) (size v w : ℕ) (vs : List ℤ) (n : ℕ) → w < v → failed_from σ size (v - w) w (found vs n false) ≡ failed_from σ size (v - (w + 1)) (w + 1) (failed_at σ size w vs n)
unfolding failed_from
from_step σ size v w vs n lt =
    let e : v - w ≡ suc (v - (w + 1)) = omega arith in
    ap (λ (m : ℕ). failed_from σ size m w (found vs n false)) e ∙ ap (λ (k : ℕ). failed_from σ size (v - (w + 1)) k (failed_at σ size w vs n)) (sym (add-one w))

from_none : (σ : Stamps) (size v w : ℕ) (f : Found) → v ≤ w → failed_from σ size (v - w) w f ≡ f
unfolding failed_from
from_none σ size v w f le = let e : v - w ≡ 0 = omega arith in ap (λ (m : ℕ). failed_from σ size m w f) e

-- before variable w + 1, with n values set
pub record Failing (v : ℕ) (times : List ℕ) (links : List ℤ) (vs₀ vs : List ℤ) (w n : ℕ) : Type 0 where
  pub stamped : FullStamps v times links
  pub rows : Variables v vs
  pub size : length vs ≡ length vs₀
  pub set : n ≤ w
  pub left : failed_from (columns times links) (2 * v) v 0 (found vs₀ 0 false) ≡ failed_from (columns times links) (2 * v) (v - w) w (found vs n false)

module _ {v : ℕ} {times : List ℕ} {links vs₀ vs : List ℤ} {w n : ℕ} (F : Failing v times links vs₀ vs w n) where
  pub failing_done : v ≤ w → found vs n false ≡ failed_from (columns times links) (2 * v) v 0 (found vs₀ 0 false)
  failing_done le = sym (F.left ∙ from_none (columns times links) (2 * v) v w (found vs n false) le)

  module _ (lt : w < v) where
    module _ (r : Tally) (vs' : List ℤ) (ensured : (u : ℕ) → FullStamps u times links → w < u → found_of r vs' ≡ failed_at (columns times links) (2 * u) w vs n) where
      at_is : found_of r vs' ≡ failed_at (columns times links) (2 * v) w vs n
      at_is = ensured v F.stamped lt

      onward : failed_from (columns times links) (2 * v) v 0 (found vs₀ 0 false) ≡ failed_from (columns times links) (2 * v) (v - (w + 1)) (w + 1) (found_of r vs')
      onward = F.left ∙ from_step (columns times links) (2 * v) v w vs n lt ∙ ap (failed_from (columns times links) (2 * v) (v - (w + 1)) (w + 1)) (sym at_is)

      -- the opposite value ends it
      pub failing_ends : r.opposite ≡ true → found_of r vs' ≡ failed_from (columns times links) (2 * v) v 0 (found vs₀ 0 false)
      failing_ends o = sym (onward ∙ from_opposite (columns times links) (2 * v) (v - (w + 1)) (w + 1) (found_of r vs') o)

      pub failing_goes : r.opposite ≡ false → Failing v times links vs₀ vs' (w + 1) r.set
      failing_goes o = record {
        stamped = F.stamped;
        rows = subst (λ (f : Found). Variables v f.variables) (sym at_is) K.rows;
        size = subst (λ (f : Found). length f.variables ≡ length vs) (sym at_is) K.size ∙ F.size;
        set = let h = at_most times links (2 * v) w vs n in let e : r.set ≡ (failed_at (columns times links) (2 * v) w vs n).set = ap (λ (f : Found). f.set) at_is in omega (arith, F.set);
        left = onward ∙ ap (λ (b : Bool). failed_from (columns times links) (2 * v) (v - (w + 1)) (w + 1) (found vs' r.set b)) o;
      }
        where
          K : Kept v vs (failed_at (columns times links) (2 * v) w vs n).variables
          K = kept_at F.stamped F.rows w lt n
