-- What fresh stamps give the functions on slots; and the climb along the parents: each step leaves what the whole climb finds, and goes to an earlier discovery.
-- Assumes nothing.
use Prim.Native.Nat.{ℕ, zero, suc, ◌+◌, ◌*◌, ◌≤◌, ◌<◌}
use native.Mathlib.Nat.{le_refl}
use native.Mathlib.Omega.{arith}
use mathlib.Core.Path.{◌≡◌, refl, sym, ap, subst, ◌∙◌}
use mathlib.Core.Bool.{Bool, true, false, false≢true}
use mathlib.Core.Logic.{⊎_elim}
use mathlib.Core.List.{List}
use lib.ListN.{length}
use lib.IntN.{ℤ}
use borrow.Author.Tests.{eqb-true}
use Rattle.literal.specs.Literals.{Literal, lit_at, twin}
use Rattle.literal.proofs.Laws.{lit_var}
use Rattle.literal.proofs.Twins.{twin_below}
use Rattle.walk.specs.Walk.{Stamps}
use Rattle.walk.specs.Forest.{discovery_at, parent_at, start_at, Holds}
use Rattle.stamp_columns.specs.Columns.{columns}
use Rattle.hidden.specs.Hidden.{holds}
use Rattle.hidden.specs.Failed.{same_start, failed_slot}
use Rattle.hidden.proofs.Intervals.{true_holds, inside}
use Rattle.hidden.proofs.Failed.{Linked, climb, failed_slot_lem, failed_climb}
use Rattle.hidden.proofs.FreshColumns.{fresh_linked}
use Rattle.stamp_columns.specs.Slots.{Child}
use Rattle.failed.specs.Steps.{Rooted, FullStamps, Shared}

-- ---- fresh stamps

module _ {v : ℕ} {times : List ℕ} {links : List ℤ} (S : FullStamps v times links) where
  pub stamped_linked : Linked (2 * v) (columns times links)
  stamped_linked = fresh_linked times links v S.fresh

  module _ (s : ℕ) (lt : s < 2 * v) where
    pub stamped_rooted : Rooted links s
    stamped_rooted = record {
      few = omega (arith, S.few);
      room = omega (arith, S.few, S.links_room);
      start = let L = S.fresh.start_literal s lt in record { above = L.above; within = omega (arith, L.within, S.few) };
    }

    pub stamped_child : Child links s
    stamped_child = record { room = omega (arith, S.few, S.links_room); parent = let L = S.fresh.parent_literal s lt in record { above = L.above; within = omega (arith, L.within, S.few) } }

    pub stamped_timed : 2 * s + 1 < length times
    stamped_timed = omega (arith, S.few, S.times_room)

    -- the slot that has failed is one of the variables'
    pub failed_below : same_start (columns times links) s ≡ true → failed_slot (columns times links) (2 * v) s < 2 * v
    failed_below same = (failed_slot_lem (2 * v) (columns times links) stamped_linked s lt (twin_below v s lt) same).below

    -- and its complement is a literal of theirs
    pub slot_ranged : Literal v (lit_at s)
    slot_ranged = record { above = omega (arith, lit_var s); within = omega (arith, lit_var s) }

-- ---- the climb

climb_on : (σ : Stamps) (m a b : ℕ) → holds σ a b ≡ false → climb σ (suc m) a b ≡ climb σ m (parent_at σ a) b
unfolding climb
climb_on σ m a b e = ap (λ (v : Bool). elim v as (λ x. ℕ) [ true ↦ a | false ↦ climb σ m (parent_at σ a) b ]) e

climb_ends : (σ : Stamps) (m a b : ℕ) → holds σ a b ≡ true → climb σ m a b ≡ a
unfolding climb
climb_ends σ zero a b e = refl
climb_ends σ (suc m) a b e = ap (λ (v : Bool). elim v as (λ x. ℕ) [ true ↦ a | false ↦ climb σ m (parent_at σ a) b ]) e

-- the climb from s stands at x, which the start of s holds, and what is left of it finds what the whole finds
pub record Climbing (times : List ℕ) (links : List ℤ) (s t x : ℕ) : Type 0 where
  pub shared : Shared times links s
  pub other : t ≡ twin s
  pub below : x < 2 * shared.count
  pub start : Holds (columns times links) (start_at (columns times links) s) x
  pub steps : ℕ
  pub enough : discovery_at (columns times links) x ≤ steps
  pub left : climb (columns times links) steps x (twin s) ≡ climb (columns times links) (discovery_at (columns times links) s) s (twin s)

pub climbing_none : {times : List ℕ} {links : List ℤ} {s t : ℕ} → Shared times links s → t ≡ twin s → Climbing times links s t s
climbing_none {times} {links} {s} {t} C e = record {
  shared = C;
  other = e;
  below = C.below;
  start = (stamped_linked C.stamped).start s C.below;
  steps = discovery_at (columns times links) s;
  enough = le_refl _;
  left = refl;
}

module _ {times : List ℕ} {links : List ℤ} {s t x : ℕ} (C : Climbing times links s t x) where
  abbrev σ : Stamps
  σ = columns times links

  abbrev size : ℕ
  size = 2 * C.shared.count

  linked : Linked size σ
  linked = stamped_linked C.shared.stamped

  pub climbing_timed : 2 * x + 1 < length times
  climbing_timed = stamped_timed C.shared.stamped x C.below

  twin_within : twin s < size
  twin_within = twin_below C.shared.count s C.shared.below

  pub climbing_twin : 2 * t + 1 < length times
  climbing_twin = subst (λ (k : ℕ). 2 * k + 1 < length times) (sym C.other) (stamped_timed C.shared.stamped (twin s) twin_within)

  -- the start of s holds its twin too
  start_both : Holds σ (start_at σ s) (twin s)
  unfolding same_start
  start_both = subst (λ (k : ℕ). Holds σ k (twin s)) (sym (eqb-true _ _ C.shared.same)) (linked.start (twin s) twin_within)

  pub record Onward : Type 0 where
    pub again : Climbing times links s t (parent_at σ x)
    pub earlier : discovery_at σ (parent_at σ x) < discovery_at σ x

  pub climbing_on : holds σ x t ≡ false → Onward
  climbing_on e =
      ⊎_elim
      (λ outermost. absurd (other (outermost.1 z lz C.start)))
      (λ k.
      let lower = (inside size σ linked.nested p x lp C.below (λ i. k.0 (sym i)) k.1).0 in
      let rest = step lower C.steps C.enough C.left in
      record {
        again = record { shared = C.shared; other = C.other; below = lp; start = k.2 z lz other C.start; steps = rest.0; enough = rest.1; left = rest.2 };
        earlier = lower;
      })
      (linked.parent x C.below)
    where
      z : ℕ
      z = start_at σ s

      lz : z < size
      lz = linked.start_below s C.shared.below

      p : ℕ
      p = parent_at σ x

      lp : p < size
      lp = linked.parent_below x C.below

      short : holds σ x (twin s) ≡ false
      short = subst (λ (k : ℕ). holds σ x k ≡ false) C.other e

      -- the start holds the twin, which x does not
      other : z ≡ x → ⊥
      other i = false≢true (sym short ∙ true_holds σ x (twin s) (subst (λ (k : ℕ). Holds σ k (twin s)) i start_both))

      step : discovery_at σ p < discovery_at σ x → (n : ℕ) → discovery_at σ x ≤ n → climb σ n x (twin s) ≡ climb σ (discovery_at σ s) s (twin s) → (m : ℕ) × (discovery_at σ p ≤ m) × (climb σ m p (twin s) ≡ climb σ (discovery_at σ s) s (twin s))
      step lower zero le eq = absurd (omega arith)
      step lower (suc m) le eq = (m, omega arith, sym (climb_on σ m x (twin s) short) ∙ eq)

  pub climbing_ends : holds σ x t ≡ true → (v : ℕ) → FullStamps v times links → s < 2 * v → x ≡ failed_slot σ (2 * v) s
  climbing_ends e v S lt =
      sym (climb_ends σ C.steps x (twin s) (subst (λ (k : ℕ). holds σ x k ≡ true) C.other e))
      ∙ C.left
      ∙ sym (failed_climb (2 * v) σ (stamped_linked S) s lt (twin_below v s lt) C.shared.same)
