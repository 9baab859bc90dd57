-- Failed keeps the records of the variables: it sets values, and only where a variable is its own class.
--     kept_at, failed_kept     after one variable, after m of them, the classes are as before and the records are those of the shape rule
--     at_most                  one variable sets at most one value
-- Assumes nothing.
use Prim.Native.Nat.{ℕ, zero, suc, ◌+◌, ◌*◌, ◌≤◌, ◌<◌}
use native.Mathlib.Nat.{le_refl}
use native.Mathlib.Omega.{arith}
use mathlib.Core.Path.{◌≡◌, refl, ◌∙◌}
use mathlib.Core.Bool.{Bool, true, false}
use mathlib.Core.List.{List}
use lib.ListN.{length, length-set}
use lib.IntN.{ℤ}
use Rattle.literal.specs.Literals.{Literal, lit_at, twin}
use Rattle.literal.proofs.Twins.{twin_below}
use Rattle.stamp_columns.specs.Columns.{columns}
use Rattle.hidden.specs.Failed.{same_start, failed_slot}
use Rattle.tables.specs.Tables.{class_of}
use Rattle.tables.specs.Values.{is_true, is_false, set_true}
use Rattle.visits.specs.Formed.{Variables}
use Rattle.visits.proofs.MadeTrue.{true_classes, true_variables}
use Rattle.failed.specs.Failed.{Found, found, assert, failed_at, failed_from}
use Rattle.failed.specs.Steps.{FullStamps}
use Rattle.failed.proofs.Climbing.{slot_ranged, failed_below}

-- w' has the classes of w, and is as long; the values may differ
pub record Kept (v : ℕ) (w w' : List ℤ) : Type 0 where
  pub rows : Variables v w'
  pub classes : (u : ℕ) → class_of w' u ≡ class_of w u
  pub size : length w' ≡ length w

kept_none : {v : ℕ} {w : List ℤ} → Variables v w → Kept v w w
kept_none R = record { rows = R; classes = λ u. refl; size = refl }

kept_more : {v : ℕ} {w w' w'' : List ℤ} → Kept v w w' → Kept v w' w'' → Kept v w w''
kept_more K L = record { rows = L.rows; classes = λ u. L.classes u ∙ K.classes u; size = L.size ∙ K.size }

module _ {v : ℕ} {w : List ℤ} (R : Variables v w) where
  pub kept_true : (l : ℤ) → Literal v l → Kept v w (set_true w l)
  kept_true l L = record { rows = true_variables R l L; classes = true_classes R l L; size = simp length-set }

  kept_assert : (l : ℤ) → Literal v l → (n : ℕ) → Kept v w (assert l w n).variables
  kept_assert l L n = go (is_true w l) (is_false w l)
    where
      go : (a b : Bool) → Kept v w (elim a as (λ x. Found) [ true ↦ found w n false | false ↦ elim b as (λ x. Found) [ true ↦ found w n true | false ↦ found (set_true w l) (suc n) false ] ]).variables
      go true b = kept_none R
      go false true = kept_none R
      go false false = kept_true l L

-- at most one value is set
assert_most : (l : ℤ) (w : List ℤ) (n : ℕ) → (assert l w n).set ≤ suc n
assert_most l w n = go (is_true w l) (is_false w l)
  where
    go : (a b : Bool) → (elim a as (λ x. Found) [ true ↦ found w n false | false ↦ elim b as (λ x. Found) [ true ↦ found w n true | false ↦ found (set_true w l) (suc n) false ] ]).set ≤ suc n
    go true b = omega arith
    go false true = omega arith
    go false false = le_refl _

module _ {v : ℕ} {times : List ℕ} {links : List ℤ} (S : FullStamps v times links) where
  module _ {w : List ℤ} (R : Variables v w) (k : ℕ) (lt : k < v) (n : ℕ) where
    -- one variable
    pub kept_at : Kept v w (failed_at (columns times links) (2 * v) k w n).variables
    unfolding failed_at
    kept_at = go (same_start (columns times links) (2 * k)) refl
      where
        x : ℕ
        x = failed_slot (columns times links) (2 * v) (2 * k)

        go : (b : Bool) → same_start (columns times links) (2 * k) ≡ b → Kept v w (elim b as (λ y. Found) [ true ↦ assert (lit_at (twin x)) w n | false ↦ found w n false ]).variables
        go true e = kept_assert R (lit_at (twin x)) (slot_ranged S (twin x) (twin_below v x (failed_below S (2 * k) (omega arith) e))) n
        go false e = kept_none R

  -- m variables from k on
  pub failed_kept : (m k : ℕ) → k + m ≤ v → (f : Found) → Variables v f.variables → Kept v f.variables (failed_from (columns times links) (2 * v) m k f).variables
  unfolding failed_from
  failed_kept zero k le f R = kept_none R
  failed_kept (suc m) k le f R = go (failed_kept m (suc k) (omega arith)) f.opposite
    where
      next : Found
      next = failed_at (columns times links) (2 * v) k f.variables f.set

      one : Kept v f.variables next.variables
      one = kept_at R k (omega arith) f.set

      go : ((g : Found) → Variables v g.variables → Kept v g.variables (failed_from (columns times links) (2 * v) m (suc k) g).variables) → (b : Bool)
          → Kept v f.variables (elim b as (λ x. Found) [ true ↦ f | false ↦ failed_from (columns times links) (2 * v) m (suc k) next ]).variables
      go rest true = kept_none R
      go rest false = kept_more one (rest next one.rows)

pub at_most : (times : List ℕ) (links : List ℤ) (size k : ℕ) (w : List ℤ) (n : ℕ) → (failed_at (columns times links) size k w n).set ≤ suc n
unfolding failed_at
at_most times links size k w n = go (same_start (columns times links) (2 * k))
  where
    x : ℕ
    x = failed_slot (columns times links) size (2 * k)

    go : (b : Bool) → (elim b as (λ y. Found) [ true ↦ assert (lit_at (twin x)) w n | false ↦ found w n false ]).set ≤ suc n
    go true = assert_most (lit_at (twin x)) w n
    go false = omega arith
