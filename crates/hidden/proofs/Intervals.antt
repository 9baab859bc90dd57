-- Intervals of slots below a number: what the shape rule says of fresh stamps, and how two of them lie. Assumes nothing.
use Prim.Native.Nat.{ℕ, ◌≤◌, ◌<◌}
use native.Mathlib.Omega.{arith}
use mathlib.Core.Path.{◌≡◌, refl, sym, ap, ◌∙◌}
use mathlib.Core.Bool.{true}
use mathlib.Core.Logic.{◌⊎◌, inl, inr, ⊎_elim}
use mathlib.Core.List.{List, Memᴰ}
use Rattle.base.specs.Decide.{same_or}
use Rattle.literal.specs.Literals.{twin}
use Rattle.intervals.specs.Intervals.{encloses}
use Rattle.intervals.proofs.Comparing.{encloses_true, true_encloses}
use Rattle.walk.specs.Walk.{Stamps}
use Rattle.walk.specs.Forest.{discovery_at, finish_at, Holds, Parted}
use Rattle.stamp_columns.specs.Intervals.{interval_at}
use Rattle.hidden.specs.Hidden.{holds}

-- the slots below size have intervals: each spans some time, and two are nested or apart
pub record Nested (size : ℕ) (σ : Stamps) : Type 0 where
  pub spans : (q : ℕ) → q < size → discovery_at σ q < finish_at σ q
  pub parted : (q u : ℕ) → q < size → u < size → (q ≡ u → ⊥) → Parted σ q u

-- the literals of a clause and their complements are among those slots
abbrev pub Within : ℕ → List ℕ → Type 0
Within size C = (l : ℕ) → Memᴰ l C → (l < size) × (twin l < size)

-- slots with stamps
abbrev pub Below : ℕ → List ℕ → Type 0
Below size xs = (x : ℕ) → Memᴰ x xs → x < size

-- ---- the test on intervals is the relation

pub encloses_holds : (σ : Stamps) (a b : ℕ) → encloses (interval_at σ a) (interval_at σ b) ≡ holds σ a b
unfolding encloses holds
encloses_holds σ a b = refl

pub holds_true : (σ : Stamps) (a b : ℕ) → holds σ a b ≡ true → Holds σ a b
holds_true σ a b h = encloses_true (interval_at σ a) (interval_at σ b) (encloses_holds σ a b ∙ h)

pub true_holds : (σ : Stamps) (a b : ℕ) → Holds σ a b → holds σ a b ≡ true
true_holds σ a b h = sym (encloses_holds σ a b) ∙ true_encloses (interval_at σ a) (interval_at σ b) h

-- ---- two intervals

module _ (size : ℕ) (σ : Stamps) (N : Nested size σ) where
  -- an interval within another begins later and ends earlier
  pub inside : (a b : ℕ) → a < size → b < size → (b ≡ a → ⊥) → Holds σ a b → (discovery_at σ a < discovery_at σ b) × (finish_at σ b < finish_at σ a)
  inside a b la lb d h = go (N.parted a b la lb (λ e. d (sym e)))
    where
      go : Parted σ a b → (discovery_at σ a < discovery_at σ b) × (finish_at σ b < finish_at σ a)
      go (inl k) = absurd (omega (arith, N.spans b lb))
      go (inr (inl k)) = absurd (omega (arith, N.spans b lb))
      go (inr (inr (inl k))) = k
      go (inr (inr (inr k))) = absurd (omega arith)

  -- n begins no later than p and ends before p ends: it ends before p begins
  pub before : (n p : ℕ) → n < size → p < size → discovery_at σ n ≤ discovery_at σ p → finish_at σ n < finish_at σ p → finish_at σ n < discovery_at σ p
  before n p ln lp le lt = go (N.parted n p ln lp (λ e. omega (arith, lt, ap (finish_at σ) e)))
    where
      go : Parted σ n p → finish_at σ n < discovery_at σ p
      go (inl h) = h
      go (inr (inl h)) = absurd (omega (arith, N.spans p lp))
      go (inr (inr (inl h))) = absurd (omega arith)
      go (inr (inr (inr h))) = absurd (omega arith)

  -- two intervals that hold each other are one
  pub holds_both_lem : (a b : ℕ) → a < size → b < size → Holds σ a b → Holds σ b a → a ≡ b
  holds_both_lem a b la lb h k = ⊎_elim (λ e. e) (λ d. absurd (omega (arith, (inside a b la lb (λ e. d (sym e)) h).0, k.0))) (same_or a b)

  -- of two intervals that hold a third, one holds the other
  pub nested_both : (a b c : ℕ) → a < size → b < size → c < size → Holds σ a c → Holds σ b c → Holds σ a b ⊎ Holds σ b a
  nested_both a b c la lb lc h k = ⊎_elim (λ (e : a ≡ b). inl (omega (arith, ap (discovery_at σ) e), omega (arith, ap (finish_at σ) e))) (λ d. go (N.parted a b la lb d)) (same_or a b)
    where
      go : Parted σ a b → Holds σ a b ⊎ Holds σ b a
      go (inl p) = absurd (omega (arith, p, h, k, N.spans c lc))
      go (inr (inl p)) = absurd (omega (arith, p, h, k, N.spans c lc))
      go (inr (inr (inl p))) = inl (omega arith, omega arith)
      go (inr (inr (inr p))) = inr (omega arith, omega arith)
