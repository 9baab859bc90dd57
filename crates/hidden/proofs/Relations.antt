-- What the answer of the comparison says of two slots.
--     relation_holds      the first holds the second, for any numbers
--     relation_wider      under nested intervals: it holds it and is another
--     relation_begins_first    under nested intervals: it is discovered before it
-- Assumes nothing.
use Prim.Native.Nat.{ℕ, ◌<◌}
use native.Mathlib.Omega.{arith}
use mathlib.Core.Path.{◌≡◌, sym, ap, ◌∙◌}
use mathlib.Core.Bool.{Bool, not, ◌&&◌}
use mathlib.Core.Logic.{inl, inr, ⊎_elim}
use lib.Dec.{ltb, eqb}
use borrow.Author.Tests.{eqb-true, eq-eqb}
use Rattle.base.specs.Decide.{same_or}
use Rattle.base.proofs.Booleans.{both_ways}
use Rattle.intervals.specs.declared.Relation.{Relation}
use Rattle.intervals.specs.Intervals.{same, One}
use Rattle.intervals.specs.Relations.{contains, wider, begins_first}
use Rattle.intervals.proofs.Comparing.{same_true, true_same, compare_contains, compare_wider, compare_begins_first}
use Rattle.walk.specs.Walk.{Stamps}
use Rattle.walk.specs.Forest.{discovery_at, finish_at, Parted}
use Rattle.stamp_columns.specs.Intervals.{interval_at, relation}
use Rattle.hidden.specs.Hidden.{holds}
use Rattle.hidden.proofs.Intervals.{Nested, encloses_holds}

pub relation_holds : (σ : Stamps) (a b : ℕ) → contains (relation σ a b) ≡ holds σ a b
relation_holds σ a b = compare_contains (interval_at σ a) (interval_at σ b) ∙ encloses_holds σ a b

module _ (size : ℕ) (σ : Stamps) (N : Nested size σ) (a b : ℕ) (la : a < size) (lb : b < size) where
  -- slots that are discovered together are one
  pub same_discovery : discovery_at σ a ≡ discovery_at σ b → a ≡ b
  same_discovery e = ⊎_elim (λ q. q) (λ d. absurd (go (N.parted a b la lb d))) (same_or a b)
    where
      go : Parted σ a b → ⊥
      go (inl h) = omega (arith, h, e, N.spans a la)
      go (inr (inl h)) = omega (arith, h, e, N.spans b lb)
      go (inr (inr (inl h))) = omega (arith, h.0, e)
      go (inr (inr (inr h))) = omega (arith, h.0, e)

  one : a ≡ b → One (interval_at σ a) (interval_at σ b)
  one e = (ap (discovery_at σ) e, ap (finish_at σ) e)

  -- the intervals are one exactly if the slots are
  same_slots : same (interval_at σ a) (interval_at σ b) ≡ eqb a b
  same_slots = both_ways _ _ (λ h. eq-eqb a b (same_discovery (same_true (interval_at σ a) (interval_at σ b) h).0)) (λ h. true_same (interval_at σ a) (interval_at σ b) (one (eqb-true a b h)))

  pub relation_wider : wider (relation σ a b) ≡ (not (eqb a b) && holds σ a b)
  relation_wider = compare_wider (interval_at σ a) (interval_at σ b) ∙ (λ i. not (same_slots i) && encloses_holds σ a b i)

  pub relation_begins_first : begins_first (relation σ a b) ≡ ltb (discovery_at σ a) (discovery_at σ b)
  relation_begins_first = compare_begins_first (interval_at σ a) (interval_at σ b) (λ e. one (same_discovery e))

-- ---- what the code has read

pub read_holds : (σ : Stamps) (a b : ℕ) {r : Relation} {h : Bool} → r ≡ relation σ a b → h ≡ contains r → holds σ a b ≡ h
read_holds σ a b e k = sym (k ∙ ap contains e ∙ relation_holds σ a b)

pub read_begins_first : (size : ℕ) (σ : Stamps) (N : Nested size σ) (a b : ℕ) → a < size → b < size → {r : Relation} {h : Bool} → r ≡ relation σ a b → h ≡ begins_first r → ltb (discovery_at σ a) (discovery_at σ b) ≡ h
read_begins_first size σ N a b la lb e k = sym (k ∙ ap begins_first e ∙ relation_begins_first size σ N a b la lb)
