-- The laws of literals and slots. Assumes nothing.
use Prim.Native.Nat.{ℕ, zero, suc, ◌+◌, ◌*◌, ◌-◌, ◌/◌, ◌%◌, ◌<◌, ◌≤◌}
use mathlib.Core.Path.{◌≡◌, refl, sym, ap, ◌∙◌}
use mathlib.Core.Bool.{Bool, true, false}
use native.Mathlib.Omega.{arith}
use native.Mathlib.Numerals.{add-one}
use lib.Dec.{eqb}
use lib.IntN.{ℤ, pos, negsuc, neg_ℤ, nat_abs}
use borrow.Author.Tests.{eq-eqb, ne_eqb, eqb-true, eqb-false, lt-ltb, le-leb}
use Rattle.literal.specs.Literals.{Literal, in_range, slot_of, lit_at, lit_by, twin}
use mir.Syntax.{w32}
use mir.Val.{to_z, of_z}
use Rattle.literal.proofs.Signed.{abs_neg, back}

pub slot_lit : (s : ℕ) → slot_of (lit_at s) ≡ s
slot_lit s = go (eqb (s % 2) 0) refl
  where
    go : (b : Bool) → eqb (s % 2) 0 ≡ b → slot_of (lit_by b (s / 2 + 1)) ≡ s
    go true e = let h : s % 2 ≡ 0 = eqb-true _ _ e in omega arith
    go false e = let h : s % 2 ≡ 0 → ⊥ = eqb-false _ _ e in rw add-one (omega arith)

pub lit_slot : (l : ℤ) → 0 < nat_abs l → lit_at (slot_of l) ≡ l
lit_slot (pos zero) h = absurd (omega arith)
lit_slot (pos (suc n)) h = rw (eq-eqb ((2 * suc n - 2) % 2) 0 (omega arith)) (ap pos (omega arith))
lit_slot (negsuc n) h =
    let e : (2 * suc n - 1) / 2 ≡ n = omega arith in
    rw (ne_eqb ((2 * suc n - 1) % 2) 0 (omega arith), e, add-one)

pub slot_twin : (l : ℤ) → 0 < nat_abs l → slot_of (neg_ℤ l) ≡ twin (slot_of l)
unfolding twin
slot_twin (pos zero) h = absurd (omega arith)
slot_twin (pos (suc n)) h = rw (eq-eqb ((2 * suc n - 2) % 2) 0 (omega arith)) (omega arith)
slot_twin (negsuc n) h = rw (ne_eqb ((2 * suc n - 1) % 2) 0 (omega arith)) (omega arith)

pub slot_below : (l : ℤ) (v : ℕ) → 0 < nat_abs l → nat_abs l ≤ v → slot_of l < 2 * v
slot_below (pos n) v g h = omega arith
slot_below (negsuc n) v g h = omega arith

-- slots 2w and 2w + 1 are those of variable w + 1
pub lit_var : (s : ℕ) → nat_abs (lit_at s) ≡ s / 2 + 1
lit_var s = go (eqb (s % 2) 0)
  where
    go : (b : Bool) → nat_abs (lit_by b (s / 2 + 1)) ≡ s / 2 + 1
    go true = refl
    go false = abs_neg (pos (s / 2 + 1))

-- the literal of a slot comes back as it was stored
pub lit_stored : (s : ℕ) (z : ℤ) → s < 2048 → z ≡ lit_at s → to_z w32 (of_z w32 z) ≡ lit_at s
lit_stored s z lt e = ap (λ (y : ℤ). to_z w32 (of_z w32 y)) e ∙ back (record { small = omega (arith, lit_var s) })

pub slot_variable : (l : ℤ) → 0 < nat_abs l → nat_abs l ≡ slot_of l / 2 + 1
slot_variable l above = ap nat_abs (sym (lit_slot l above)) ∙ lit_var (slot_of l)

-- a slot is that of a literal
pub lit_above : (s : ℕ) → 0 < nat_abs (lit_at s)
lit_above s = omega (arith, lit_var s)

pub lit_twin : (s : ℕ) → lit_at (twin s) ≡ neg_ℤ (lit_at s)
lit_twin s =
    ap (λ (k : ℕ). lit_at (twin k)) (sym (slot_lit s))
    ∙ ap lit_at (sym (slot_twin (lit_at s) (lit_above s)))
    ∙ lit_slot (neg_ℤ (lit_at s)) (omega (arith, abs_neg (lit_at s), lit_above s))

-- the slots of two literals are the same exactly if the literals are
pub slot_same : (x y : ℤ) → 0 < nat_abs x → 0 < nat_abs y → slot_of x ≡ slot_of y → x ≡ y
slot_same x y g h e = sym (lit_slot x g) ∙ ap lit_at e ∙ lit_slot y h

-- a literal is not its own complement
pub not_own_complement : (x : ℤ) → 0 < nat_abs x → x ≡ neg_ℤ x → ⊥
not_own_complement (pos zero) h e = absurd (omega arith)
not_own_complement (pos (suc n)) h e = absurd (let z : ◌≡◌ {A = ℕ} 0 1 = cc in omega arith)
not_own_complement (negsuc n) h e = absurd (let z : ◌≡◌ {A = ℕ} 0 1 = cc in omega arith)

-- the test of a literal's range says just that
pub literal_tested : {l : ℤ} {v : ℕ} → v < 2147483648 → Literal v l → in_range l v ≡ true
literal_tested {l} {v} h L = rw (lt-ltb 0 (nat_abs l) L.above, lt-ltb (nat_abs l) 2147483648 (omega (arith, L.within)), le-leb (nat_abs l) v L.within)
