-- Laws of the number of variables that are their own class. Assumes nothing.
use Prim.Native.Nat.{ℕ, zero, suc, ◌+◌, ◌*◌, ◌≤◌, ◌<◌}
use native.Mathlib.Numerals.{add-one}
use native.Mathlib.Omega.{arith}
use mathlib.Core.Path.{◌≡◌, refl, sym, ap, subst, ◌∙◌}
use mathlib.Core.Logic.{◌⊎◌, inl, inr, ⊎_elim}
use mathlib.Core.List.{List}
use lib.ListN.{get_or}
use lib.IntN.{ℤ, pos, nat_abs}
use Rattle.base.specs.Decide.{eqℤ?, same_or}
use Rattle.literal.specs.Literals.{Literal, Small, slot_of, lit_at}
use Rattle.literal.proofs.Signed.{eq_eq_z, ne_eq_z}
use Rattle.literal.proofs.Laws.{lit_slot}
use Rattle.tables.specs.Tables.{class_of}
use Rattle.visits.specs.Formed.{Variables}
use Rattle.merge.proofs.Regrouped.{class_at_lem}
use Rattle.settle.specs.Own.{owns}

-- variable u + 1 is its own class
abbrev pub Own : List ℤ → ℕ → Type 0
Own w u = class_of w (u + 1) ≡ pos (u + 1)

pub own_or : (w : List ℤ) (u : ℕ) → (Own w u) ⊎ (Own w u → ⊥)
own_or w u = elim (eqℤ? (class_of w (u + 1)) (pos (u + 1))) [ yes e ↦ inl e | no d ↦ inr d ]

pub owns_in : (w : List ℤ) (v : ℕ) → Own w v → owns (suc v) w ≡ suc (owns v w)
unfolding owns
owns_in w v e = rw (eq_eq_z (class_of w (v + 1)) (pos (v + 1)) e, owns)

pub owns_out : (w : List ℤ) (v : ℕ) → (Own w v → ⊥) → owns (suc v) w ≡ owns v w
unfolding owns
owns_out w v d = rw (ne_eq_z (class_of w (v + 1)) (pos (v + 1)) d, owns)

-- the next variable adds one at most
owns_next : (w : List ℤ) (v : ℕ) → (owns v w ≤ owns (suc v) w) × (owns (suc v) w ≤ suc (owns v w))
owns_next w v = ⊎_elim (λ e. (omega (arith, owns_in w v e), omega (arith, owns_in w v e))) (λ d. (omega (arith, owns_out w v d), omega (arith, owns_out w v d))) (own_or w v)

pub owns_within : (v : ℕ) (w : List ℤ) → owns v w ≤ v
unfolding owns
owns_within zero w = omega arith
owns_within (suc v) w = omega (arith, (owns_next w v).1, owns_within v w)

-- ---- two variable tables

module _ (w w' : List ℤ) where
  -- none becomes its own class
  pub owns_most : (v : ℕ) → ((u : ℕ) → u < v → Own w' u → Own w u) → owns v w' ≤ owns v w
  unfolding owns
  owns_most zero h = omega arith
  owns_most (suc v) h =
      let rest = owns_most v (λ u l. h u (omega arith)) in
      ⊎_elim
      (λ (e : Own w' v). omega (arith, owns_in w' v e, owns_in w v (h v (omega arith) e), rest))
      (λ (d : Own w' v → ⊥). omega (arith, owns_out w' v d, (owns_next w v).0, rest))
      (own_or w' v)

  -- and one is no longer
  pub owns_fewer : (v : ℕ) → ((u : ℕ) → u < v → Own w' u → Own w u) → (u : ℕ) → u < v → Own w u → (Own w' u → ⊥) → owns v w' < owns v w
  owns_fewer zero h u lt e d = absurd (omega arith)
  owns_fewer (suc v) h u lt e d =
      ⊎_elim
      (λ (s : u ≡ v).
      omega (arith, owns_in w v (subst (Own w) s e), owns_out w' v (λ o. d (subst (Own w') (sym s) o)), owns_most v (λ x l. h x (omega arith))))
      (λ (n : u ≡ v → ⊥).
      let rest = owns_fewer v (λ x l. h x (omega arith)) u (omega arith) e d in
      ⊎_elim
      (λ (o : Own w' v). omega (arith, owns_in w' v o, owns_in w v (h v (omega arith) o), rest))
      (λ (o : Own w' v → ⊥). omega (arith, owns_out w' v o, (owns_next w v).0, rest))
      (own_or w' v))
      (same_or u v)

-- the same classes
pub owns_same : (v : ℕ) (w w' : List ℤ) → ((u : ℕ) → class_of w' u ≡ class_of w u) → owns v w' ≡ owns v w
owns_same v w w' same =
    let a = owns_most w w' v (λ u l e. sym (same (u + 1)) ∙ e) in
    let b = owns_most w' w v (λ u l e. same (u + 1) ∙ e) in
    omega arith

-- ---- the loop that counts

-- u variables are counted
pub record Counting (v : ℕ) (w : List ℤ) (count u : ℕ) : Type 0 where
  pub within : u ≤ v
  pub is : count ≡ owns u w

pub counting_none : (v : ℕ) (w : List ℤ) → Counting v w 0 0
unfolding owns
counting_none v w = record { within = omega arith; is = refl }

module _ {v : ℕ} {w : List ℤ} (R : Variables v w) {count u : ℕ} (K : Counting v w count u) (lt : u < v) where
  abbrev class : ℤ
  class = get_or w (2 * u) (pos 0)

  class_literal : Literal v class
  class_literal = subst (Literal v) (class_at_lem w u) (record { above = (R.each u lt).class.above; within = omega (arith, (R.each u lt).class.within, lt) })

  pub counting_class : (0 < nat_abs class) × Small class
  counting_class = (class_literal.above, record { small = omega (arith, class_literal.within, R.few) })

  pub counting_few : count ≤ u
  counting_few = omega (arith, K.is, owns_within u w)

  -- the variable's first slot is that of the variable itself
  pub counting_in : slot_of class ≡ 2 * u → Counting v w (count + 1) (u + 1)
  counting_in e =
      let own : Own w u = class_at_lem w u ∙ sym (lit_slot class class_literal.above) ∙ ap lit_at (e ∙ (let q : 2 * u ≡ slot_of (pos (u + 1)) = omega arith in q)) ∙ lit_slot (pos (u + 1)) (omega arith) in
      record { within = omega arith; is = omega (arith, K.is, owns_in w u own, ap (λ (x : ℕ). owns x w) (add-one u)) }

  pub counting_out : (slot_of class ≡ 2 * u → ⊥) → Counting v w count (u + 1)
  counting_out d =
      let other : Own w u → ⊥ = λ own. d (ap slot_of (sym (class_at_lem w u) ∙ own) ∙ omega arith) in
      record { within = omega arith; is = omega (arith, K.is, owns_out w u other, ap (λ (x : ℕ). owns x w) (add-one u)) }

pub counting_done : {v : ℕ} {w : List ℤ} {count u : ℕ} → Counting v w count u → v ≤ u → count ≡ owns v w
counting_done {v} {w} {count} {u} K h = K.is ∙ ap (λ (x : ℕ). owns x w) (let e : u ≡ v = omega (arith, K.within, h) in e)
