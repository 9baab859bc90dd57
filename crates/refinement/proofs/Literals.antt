-- A literal of the tables and its slot: class, truth and falsehood are the same on both sides. Assumes nothing.
use Prim.Native.Nat.{ℕ, zero, suc, ◌*◌, ◌-◌, ◌≤◌, ◌<◌}
use native.Mathlib.Omega.{arith}
use mathlib.Core.Path.{◌≡◌, refl, sym, ap, subst, ◌∙◌}
use mathlib.Core.Bool.{Bool, false, ◌||◌}
use mathlib.Core.Logic.{◌⊎◌, inl, inr, ⊎_elim}
use mathlib.Core.List.{List}
use lib.ListN.{length}
use lib.Seq.{get_or-set_same, get_or-set_other}
use lib.Dec.{eqb}
use borrow.Author.Tests.{eq-eqb, ne_eqb}
use lib.IntN.{ℤ, pos, negsuc, neg_ℤ, nat_abs, neg_ℤ-neg_ℤ}
use lib.Signed.{non_neg}
use Rattle.base.specs.Decide.{same_or}
use Rattle.literal.specs.Literals.{Literal, slot_of, lit_at, twin, eq_z, sign_by}
use Rattle.literal.proofs.Laws.{lit_slot, slot_lit, slot_below, slot_twin, lit_var}
use Rattle.literal.proofs.Signed.{abs_neg}
use Rattle.tables.specs.Tables.{Tables, class_of, value_of}
use Rattle.tables.specs.Values.{class_literal, own_truth, is_true, is_false, set_own}
use Rattle.visits.specs.Formed.{Variables, Known}
use Rattle.visits.proofs.Known.{class_ranged, class_own}
use Rattle.spread.specs.Spread.{spread_tables}
use Rattle.spread.proofs.Alike.{class_same, truth_same}
use Rattle.spread.proofs.Spreading.{spread_alike}
use Rattle.moves.specs.Core as core
use Rattle.refinement.specs.Represented.{Represented}

-- a slot below 2v is that of a literal
pub slot_literal : (v s : ℕ) → s < 2 * v → Literal v (lit_at s)
slot_literal v s h = record { above = omega (arith, lit_var s); within = omega (arith, lit_var s, h) }

-- the complement of a value
eq_z_neg : (x : ℤ) → eq_z (neg_ℤ x) (pos 1) ≡ eq_z x (negsuc 0)
eq_z_neg (pos zero) = refl
eq_z_neg (pos (suc n)) = refl
eq_z_neg (negsuc zero) = refl
eq_z_neg (negsuc (suc n)) = ne_eqb (suc (suc n)) 1 (λ e. omega (arith, e)) ∙ sym (ne_eqb (suc n) 0 (λ e. omega (arith, e)))

-- the value of a complement is the complement of the value
pub own_neg : (w : List ℤ) (c : ℤ) → 0 < nat_abs c → own_truth w (neg_ℤ c) ≡ neg_ℤ (own_truth w c)
own_neg w (pos zero) h = absurd (omega arith)
own_neg w (pos (suc n)) h = refl
own_neg w (negsuc n) h = sym (neg_ℤ-neg_ℤ (value_of w (suc n)))

-- a complement is true where the literal is false
pub complement_true : (w : List ℤ) (c : ℤ) → 0 < nat_abs c → eq_z (own_truth w (neg_ℤ c)) (pos 1) ≡ eq_z (own_truth w c) (negsuc 0)
complement_true w c h = ap (λ (x : ℤ). eq_z x (pos 1)) (own_neg w c h) ∙ eq_z_neg (own_truth w c)

-- a class literal of a literal whose variable is its own class is that literal
pub own_literal : (w : List ℤ) (l : ℤ) → 0 < nat_abs l → class_of w (nat_abs l) ≡ pos (nat_abs l) → class_literal w l ≡ l
own_literal w (pos zero) h e = absurd (omega arith)
own_literal w (pos (suc n)) h e = e
own_literal w (negsuc n) h e = ap neg_ℤ e

module _ {v n : ℕ} {mark : Bool} {t : Tables} {k : core.Core} (R : Represented v n mark t k) (rows : Variables v t.variables) (l : ℤ) (L : Literal v l) where
  known : Known t.variables l
  known = record { count = v; rows = rows; ranged = L }

  pub slot_in : slot_of l < 2 * v
  slot_in = slot_below l v L.above L.within

  pub class_is : k.class (slot_of l) ≡ slot_of (class_literal t.variables l)
  class_is = R.classes (slot_of l) slot_in ∙ ap (λ (x : ℤ). slot_of (class_literal t.variables x)) (lit_slot l L.above)

  pub class_lit : Literal v (class_literal t.variables l)
  unfolding known
  class_lit = class_ranged known

  -- a literal that is its own class literal
  fact_is : (c : ℤ) → Literal v c → class_of t.variables (nat_abs c) ≡ pos (nat_abs c) → k.facts (slot_of c) ≡ eq_z (own_truth t.variables c) (pos 1)
  fact_is c C own =
      R.facts (slot_of c) (slot_below c v C.above C.within) ∙ ap (is_true t.variables) (lit_slot c C.above)
      ∙ ap (λ (x : ℤ). eq_z (own_truth t.variables x) (pos 1)) (own_literal t.variables c C.above own)

  pub true_is : core.core_true k (slot_of l) ≡ is_true t.variables l
  unfolding known
  true_is = ap k.facts class_is ∙ fact_is (class_literal t.variables l) class_lit (class_own known)

  pub false_is : core.core_false k (slot_of l) ≡ is_false t.variables l
  unfolding known
  false_is =
      let c = class_literal t.variables l in
      ap (λ (x : ℕ). k.facts (twin x)) class_is
      ∙ ap k.facts (sym (slot_twin c class_lit.above))
      ∙ fact_is (neg_ℤ c) (record { above = omega (arith, abs_neg c, class_lit.above); within = omega (arith, abs_neg c, class_lit.within) })
      (subst (λ (x : ℕ). class_of t.variables x ≡ pos x) (sym (abs_neg c)) (class_own known))
      ∙ complement_true t.variables c class_lit.above

-- ---- a value set

-- two literals of one variable are the same or complements
same_variable : (z c : ℤ) → nat_abs z ≡ nat_abs c → 0 < nat_abs c → (z ≡ c) ⊎ (z ≡ neg_ℤ c)
same_variable (pos a) (pos b) e h = inl (ap pos e)
same_variable (pos zero) (negsuc b) e h = absurd (omega (arith, e))
same_variable (pos (suc a)) (negsuc b) e h = inr (ap pos e)
same_variable (negsuc a) (pos zero) e h = absurd (omega (arith, e))
same_variable (negsuc a) (pos (suc b)) e h = inr (ap negsuc (let q : a ≡ b = omega (arith, e) in q))
same_variable (negsuc a) (negsuc b) e h = inl (ap negsuc (let q : a ≡ b = omega (arith, e) in q))

-- a sign taken twice
signed_twice : (c : ℤ) → sign_by (non_neg c) (sign_by (non_neg c) (pos 1)) ≡ pos 1
signed_twice (pos n) = refl
signed_twice (negsuc n) = refl

module _ (w : List ℤ) (c : ℤ) (above : 0 < nat_abs c) (room : 2 * nat_abs c ≤ length w) where
  set_own_lem : value_of (set_own w c) (nat_abs c) ≡ sign_by (non_neg c) (pos 1)
  set_own_lem = get_or-set_same w (2 * nat_abs c - 1) (sign_by (non_neg c) (pos 1)) (pos 0) (omega (arith, above, room))

  -- the literal that was made true, its complement, and the others
  pub own_true : own_truth (set_own w c) c ≡ pos 1
  own_true = ap (sign_by (non_neg c)) set_own_lem ∙ signed_twice c

  pub own_other : (z : ℤ) → 0 < nat_abs z → (nat_abs z ≡ nat_abs c → ⊥) → own_truth (set_own w c) z ≡ own_truth w z
  own_other z pz d = ap (sign_by (non_neg z)) (get_or-set_other w (2 * nat_abs c - 1) (2 * nat_abs z - 1) (sign_by (non_neg c) (pos 1)) (pos 0) (λ e. d (omega (arith, e, above, pz))))

  -- the slots whose own value is true: those before, and c's, if its complement was not one
  pub facts_set : (s : ℕ) (b : Bool) → eq_z (own_truth w (lit_at s)) (pos 1) ≡ b → eq_z (own_truth w (neg_ℤ c)) (pos 1) ≡ false → (eqb s (slot_of c) || b) ≡ eq_z (own_truth (set_own w c) (lit_at s)) (pos 1)
  facts_set s b e unopposed =
      ⊎_elim
      (λ (q : nat_abs (lit_at s) ≡ nat_abs c).
      ⊎_elim
      (λ (z : lit_at s ≡ c).
      ap (λ (x : Bool). x || b) (eq-eqb s (slot_of c) (sym (slot_lit s) ∙ ap slot_of z)) ∙ sym (ap (λ (x : ℤ). eq_z (own_truth (set_own w c) x) (pos 1)) z ∙ ap (λ (x : ℤ). eq_z x (pos 1)) own_true))
      (λ (z : lit_at s ≡ neg_ℤ c).
      ap (λ (x : Bool). x || b) (ne_eqb s (slot_of c) (λ h. apart (sym (ap lit_at h ∙ lit_slot c above) ∙ z)))
      ∙ sym e ∙ ap (λ (x : ℤ). eq_z (own_truth w x) (pos 1)) z ∙ unopposed
      ∙ sym (ap (λ (x : ℤ). eq_z (own_truth (set_own w c) x) (pos 1)) z ∙ ap (λ (x : ℤ). eq_z x (pos 1)) (own_neg (set_own w c) c above ∙ ap neg_ℤ own_true)))
      (same_variable (lit_at s) c q above))
      (λ (d : nat_abs (lit_at s) ≡ nat_abs c → ⊥).
      ap (λ (x : Bool). x || b) (ne_eqb s (slot_of c) (λ h. d (ap (λ (y : ℕ). nat_abs (lit_at y)) h ∙ ap nat_abs (lit_slot c above))))
      ∙ sym e ∙ ap (λ (x : ℤ). eq_z x (pos 1)) (sym (own_other (lit_at s) (omega (arith, lit_var s)) d)))
      (same_or (nat_abs (lit_at s)) (nat_abs c))
    where
      apart : c ≡ neg_ℤ c → ⊥
      apart h = differ c above h
        where
          differ : (c : ℤ) → 0 < nat_abs c → c ≡ neg_ℤ c → ⊥
          differ (pos zero) a h = omega arith
          differ (pos (suc n)) a h = let z : ◌≡◌ {A = ℕ} 0 1 = cc in omega arith
          differ (negsuc n) a h = let z : ◌≡◌ {A = ℕ} 0 1 = cc in omega arith

-- ---- values spread

-- the values of class literals stay, so that what stands over slots does
pub spread_represented : {v n : ℕ} {mark : Bool} {t : Tables} {k : core.Core} → Variables v t.variables → Represented v n mark t k → Represented v n mark (spread_tables v t) k
spread_represented {v} {t = t} {k = k} rows R = record {
  number = R.number;
  clauses = R.clauses;
  classes = λ s h. R.classes s h ∙ ap slot_of (sym (class_same rows (spread_alike rows) (lit_at s) (slot_literal v s h)));
  facts = λ s h. R.facts s h ∙ ap (λ (x : ℤ). eq_z x (pos 1)) (sym (truth_same rows (spread_alike rows) (lit_at s) (slot_literal v s h)));
  beyond = R.beyond;
  marks = R.marks;
}
