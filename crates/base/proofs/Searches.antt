-- Laws of searches among numbers: whether some number below n passes a test (`any_below`), and the first that does (`first`). Assumes nothing.
use Prim.Native.Nat.{ℕ, zero, suc, ◌+◌, ◌≤◌, ◌<◌}
use native.Mathlib.Omega.{arith}
use mathlib.Core.Path.{◌≡◌, refl, sym, ap, ◌∙◌}
use mathlib.Core.Bool.{Bool, true, false}
use mathlib.Core.Logic.{◌⊎◌, inl, inr, ⊎_elim}
use Rattle.base.specs.Decide.{same_or}
use Rattle.base.specs.Lists.{first, any_below}
use Rattle.base.proofs.Booleans.{clash}

-- ---- some number below n passes the test

pub any_below_out : (n : ℕ) (p : ℕ → Bool) → any_below n p ≡ true → (i : ℕ) × (i < n) × (p i ≡ true)
unfolding any_below
any_below_out zero p h = clash h refl
any_below_out (suc n) p h = go (λ t. any_below_out n p t) (p n) refl h
  where
    go : (any_below n p ≡ true → (i : ℕ) × (i < n) × (p i ≡ true)) → (b : Bool) → p n ≡ b → ◌≡◌ {A = Bool} (elim b [ true ↦ true | false ↦ any_below n p ]) true → (i : ℕ) × (i < suc n) × (p i ≡ true)
    go rest true e k = (n, omega arith, e)
    go rest false e k = let r = rest k in (r.0, omega (arith, r.1), r.2)

pub any_below_in : (n : ℕ) (p : ℕ → Bool) (i : ℕ) → i < n → p i ≡ true → any_below n p ≡ true
unfolding any_below
any_below_in zero p i lt h = absurd (omega arith)
any_below_in (suc n) p i lt h = go (λ t. any_below_in n p i t h) (p n) refl (same_or i n)
  where
    go : (i < n → any_below n p ≡ true) → (b : Bool) → p n ≡ b → (i ≡ n) ⊎ (i ≡ n → ⊥) → ◌≡◌ {A = Bool} (elim b [ true ↦ true | false ↦ any_below n p ]) true
    go rest true e k = refl
    go rest false e (inl k) = clash (sym (ap p k) ∙ h) e
    go rest false e (inr d) = rest (omega (arith, lt, d))

-- tests that agree below n
pub any_below_same : (p q : ℕ → Bool) (n : ℕ) → ((i : ℕ) → i < n → p i ≡ q i) → any_below n p ≡ any_below n q
unfolding any_below
any_below_same p q zero h = refl
any_below_same p q (suc n) h = λ i. elim (h n (omega arith) i) [ true ↦ true | false ↦ any_below_same p q n (λ j lt. h j (omega arith)) i ]

-- ---- the first number that passes the test

pub first_hit : (test : ℕ → Bool) (n k : ℕ) → 0 < n → test k ≡ true → first test n k ≡ k
unfolding first
first_hit test zero k lt e = refl
first_hit test (suc n) k lt e = rw (e, first)

pub first_next : (test : ℕ → Bool) (n k : ℕ) → test k ≡ false → first test (suc n) k ≡ first test n (suc k)
unfolding first
first_next test n k e = rw (e, first)

-- where j passes, so does the first that is found, and it is no later
pub first_found : (p : ℕ → Bool) (n k j : ℕ) → k ≤ j → j < k + n → p j ≡ true → (p (first p n k) ≡ true) × (first p n k ≤ j)
unfolding first
first_found p zero k j le lt h = absurd (omega arith)
first_found p (suc n) k j le lt h = go (λ t. first_found p n (suc k) j t (omega arith) h) (p k) refl (same_or k j)
  where
    go : (suc k ≤ j → (p (first p n (suc k)) ≡ true) × (first p n (suc k) ≤ j)) → (b : Bool) → p k ≡ b → (k ≡ j) ⊎ (k ≡ j → ⊥)
        → (p (elim b [ true ↦ k | false ↦ first p n (suc k) ]) ≡ true) × (elim b [ true ↦ k | false ↦ first p n (suc k) ] ≤ j)
    go rest true e d = (e, le)
    go rest false e (inl i) = clash (ap p i ∙ h) e
    go rest false e (inr d) = rest (omega (arith, le, d))

-- what stands before it does not pass
pub first_passed : (test : ℕ → Bool) (n k i : ℕ) → k ≤ i → i < first test n k → test i ≡ false
unfolding first
first_passed test zero k i le lt = absurd (omega arith)
first_passed test (suc n) k i le lt = go (λ a b. first_passed test n (suc k) i a b) (test k) refl lt
  where
    go : (suc k ≤ i → i < first test n (suc k) → test i ≡ false) → (b : Bool) → test k ≡ b → i < elim b as (λ x. ℕ) [ true ↦ k | false ↦ first test n (suc k) ] → test i ≡ false
    go rest true e h = absurd (omega arith)
    go rest false e h = ⊎_elim (λ (same : i ≡ k). ap test same ∙ e) (λ (other : i ≡ k → ⊥). rest (omega arith) h) (same_or i k)

-- one that is found passes
pub first_passes : (test : ℕ → Bool) (n k : ℕ) → first test n k < k + n → test (first test n k) ≡ true
unfolding first
first_passes test zero k lt = absurd (omega arith)
first_passes test (suc n) k lt = go (first_passes test n (suc k)) (test k) refl lt
  where
    go : (first test n (suc k) < suc k + n → test (first test n (suc k)) ≡ true) → (b : Bool) → test k ≡ b
        → elim b as (λ x. ℕ) [ true ↦ k | false ↦ first test n (suc k) ] < k + suc n → test (elim b as (λ x. ℕ) [ true ↦ k | false ↦ first test n (suc k) ]) ≡ true
    go rest true e h = e
    go rest false e h = rest (omega (arith, h))

-- where none passes, the search ends behind the last
pub first_none : (test : ℕ → Bool) (n k : ℕ) → ((j : ℕ) → k ≤ j → j < k + n → test j ≡ false) → first test n k ≡ k + n
unfolding first
first_none test zero k h = let q : k ≡ k + 0 = omega arith in q
first_none test (suc n) k h =
    (let e : test k ≡ false = h k (omega arith) (omega arith) in rw (e, first)) ∙ first_none test n (suc k) (λ j a b. h j (omega arith) (omega arith)) ∙ (let q : suc k + n ≡ k + suc n = omega arith in q)

-- tests that agree from k on
pub first_same : (p q : ℕ → Bool) (n k : ℕ) → ((i : ℕ) → k ≤ i → i < k + n → p i ≡ q i) → first p n k ≡ first q n k
unfolding first
first_same p q zero k h = refl
first_same p q (suc n) k h = λ i. elim (h k (omega arith) (omega arith) i) [ true ↦ k | false ↦ first_same p q n (suc k) (λ j le lt. h j (omega arith) (omega arith)) i ]
