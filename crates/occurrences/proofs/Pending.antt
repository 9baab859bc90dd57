-- Which clauses are pending, and walking a chain. Assumes nothing.
use Prim.Native.Nat.{ℕ, zero, suc, ◌+◌, ◌*◌, ◌-◌, ◌/◌, ◌≤◌, ◌<◌}
use native.Mathlib.Omega.{arith}
use mathlib.Core.Path.{◌≡◌, refl, sym, ap, ◌∙◌}
use mathlib.Core.Bool.{Bool, true, false, false≢true}
use mathlib.Core.List.{List}
use mathlib.Core.Logic.{◌⊎◌, inl, inr, ⊎_elim}
use lib.ListN.{length, get_or, set, length-set}
use lib.Seq.{get_or-set_same, get_or-set_other}
use Rattle.base.specs.Decide.{same_or, le_or}
use Rattle.occurrences.specs.Chains.{next_of, owner_of}
use Rattle.occurrences.specs.Pending.{Covered, WalkableChains, HasChain}

-- ---- one clause

-- what is set stays or becomes set
pub set_true : (pending : List Bool) (i : ℕ) → i < length pending → (j : ℕ) → (j ≡ i) ⊎ (get_or pending j false ≡ true) → get_or (set pending i true) j false ≡ true
set_true pending i h j c =
    ⊎_elim
    (λ (s : j ≡ i). ap (λ (x : ℕ). get_or (set pending i true) x false) s ∙ get_or-set_same pending i true false h)
    (λ (d : j ≡ i → ⊥). get_or-set_other pending i j true false d ∙ ⊎_elim (λ (s : j ≡ i). absurd (d s)) (λ (e : get_or pending j false ≡ true). e) c)
    (same_or j i)

pub covered_set : {pending blocks : List Bool} → Covered pending blocks → (i : ℕ) → i < 4096 → 64 ≤ length blocks → Covered (set pending i true) (set blocks (i / 64) true)
covered_set {pending} {blocks} T i h room = record { block = λ j lt e. ⊎_elim (λ (s : j ≡ i). set_true blocks (i / 64) (omega arith) (j / 64) (inl (ap (λ (x : ℕ). x / 64) s))) (λ (d : j ≡ i → ⊥). set_true blocks (i / 64) (omega arith) (j / 64) (inr (T.block j lt (sym (get_or-set_other pending i j true false d) ∙ e)))) (same_or j i) }

-- a clause is no longer pending
pub covered_clear : {pending blocks : List Bool} → Covered pending blocks → (i : ℕ) → i < length pending → Covered (set pending i false) blocks
covered_clear {pending} {blocks} T i h = record {
  block = λ j lt e.
      ⊎_elim
      (λ (s : j ≡ i). absurd (false≢true (sym (ap (λ (x : ℕ). get_or (set pending i false) x false) s ∙ get_or-set_same pending i false false h) ∙ e)))
      (λ (d : j ≡ i → ⊥). T.block j lt (sym (get_or-set_other pending i j false false d) ∙ e))
      (same_or j i);
}

-- ---- the walk of a chain

-- the walk of the chain of w stands at p: what is behind is pending
pub record Walking (w p : ℕ) (heads places : List ℕ) (pending₀ : List Bool) (pending blocks : List Bool) : Type 0 where
  pub sizes : (length pending ≡ length pending₀) × (64 ≤ length blocks)
  pub covered : Covered pending blocks
  pub still : (i : ℕ) → get_or pending₀ i false ≡ true → get_or pending i false ≡ true
  pub here : (vs : List ℕ) → WalkableChains vs heads places → (q : ℕ) → p ≡ q + 1 → get_or vs q 0 ≡ w
  pub behind : (vs : List ℕ) → WalkableChains vs heads places → (q : ℕ) → get_or vs q 0 ≡ w → p ≤ q → get_or pending (owner_of places q) false ≡ true

module _ {w p : ℕ} {heads places : List ℕ} {pending₀ pending blocks blocks₀ : List Bool} (A : HasChain w heads places pending₀ blocks₀) (W : Walking w p heads places pending₀ pending blocks) (more : 0 < p) where
  at : p ≡ p - 1 + 1
  at = omega arith

  is : get_or A.vs (p - 1) 0 ≡ w
  is = W.here A.vs A.walkable (p - 1) at

  pub walk_inside : (2 * (p - 1) + 1 < length places) × (owner_of places (p - 1) < 4096)
  walk_inside = A.walkable.inside (p - 1) (omega (arith, is, A.variable.0))

  pub walk_pending : (owner_of places (p - 1) < length pending) × (owner_of places (p - 1) / 64 < length blocks)
  walk_pending = let o = walk_inside.1 in (omega (arith, o, W.sizes.0, A.room.0), omega (arith, o, W.sizes.1))

  pub walk_less : next_of places (p - 1) < p
  walk_less = by (next_of places (p - 1)) refl
    where
      by : (x : ℕ) → next_of places (p - 1) ≡ x → x < p
      by zero e = more
      by (suc x) e = omega (arith, (A.walkable.chained.next (p - 1) x (omega (arith, is, A.variable.0)) (e ∙ (let z : suc x ≡ x + 1 = omega arith in z))).1, more)

  pub walking_next : Walking w (next_of places (p - 1)) heads places pending₀ (set pending (owner_of places (p - 1)) true) (set blocks (owner_of places (p - 1) / 64) true)
  walking_next = record {
    sizes = (simp length-set W.sizes.0, simp length-set W.sizes.1);
    covered = covered_set W.covered (owner_of places (p - 1)) walk_inside.1 W.sizes.1;
    still = λ i e. set_true pending (owner_of places (p - 1)) walk_pending.0 i (inr (W.still i e));
    here = λ vs X q e. (X.chained.next (p - 1) q (omega (arith, W.here vs X (p - 1) at, A.variable.0)) e).0 ∙ W.here vs X (p - 1) at;
    behind = λ vs X q e h.
        ⊎_elim
        (λ (s : q ≡ p - 1). set_true pending (owner_of places (p - 1)) walk_pending.0 (owner_of places q) (inl (ap (owner_of places) s)))
        (λ (d : q ≡ p - 1 → ⊥).
        set_true pending (owner_of places (p - 1)) walk_pending.0 (owner_of places q)
        (inr (W.behind vs X q e (farther vs X q e h d))))
        (same_or q (p - 1));
  }
    where
      -- no place of w lies between this one and the next
      farther : (vs : List ℕ) → WalkableChains vs heads places → (q : ℕ) → get_or vs q 0 ≡ w → next_of places (p - 1) ≤ q → (q ≡ p - 1 → ⊥) → p ≤ q
      farther vs X q e h d =
          let y = W.here vs X (p - 1) at in
          ⊎_elim
          (λ (z : p ≤ q). z)
          (λ (z : q < p). absurd (omega (arith, h, X.chained.before (p - 1) q (omega (arith, y, A.variable.0)) (e ∙ sym y) (omega (arith, z, d)))))
          (le_or p q)
