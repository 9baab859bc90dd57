-- Document 02, CR 11: "a link table of pairs, left variable and right variable. Unlinked right variables take the numbers after the left's, in their order." Assumes nothing: these are definitions.
use Rattle.std.specs.Prelude.{ℕ, ◌≤◌, ◌<◌, ◌≡◌, List}
use Rattle.join.specs.Links.{pair_count, left_of, right_of}

-- no pair has the right variable x
abbrev pub Unlinked : List ℕ → ℕ → Type 0
Unlinked links x = (i : ℕ) → i < pair_count links → right_of links i ≡ x → ⊥

-- the numbers of the right variables 1 to w in a join of u variables, 1 to v of them the left's
pub record RightNumbers (v w u : ℕ) (links : List ℕ) (number : ℕ → ℕ) : Type 0 where
  -- a linked one has the number of its left variable
  pub linked : (i : ℕ) → i < pair_count links → number (right_of links i) ≡ left_of links i
  -- an unlinked one has a number after the left's
  pub after : (x : ℕ) → 0 < x → x ≤ w → Unlinked links x → (v < number x) × (number x ≤ u)
  -- in their order, and so no number twice
  pub ordered : (x y : ℕ) → 0 < x → x < y → y ≤ w → Unlinked links x → Unlinked links y → number x < number y
  -- and none is left out
  pub each : (k : ℕ) → v < k → k ≤ u → (x : ℕ) × (0 < x) × (x ≤ w) × Unlinked links x × (number x ≡ k)
