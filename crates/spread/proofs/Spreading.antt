-- What spreading makes of the variables' records: nothing changes but the values of variables that are not their own class, and then the value of each variable is that of its class literal.
-- So records that differ only there are the same once they are spread.
-- Assumes nothing.
use Prim.Native.Nat.{ℕ, zero, suc, ◌+◌, ◌*◌, ◌-◌, ◌/◌, ◌%◌, ◌≤◌, ◌<◌}
use native.Mathlib.Omega.{arith}
use native.Mathlib.Numerals.{add-one}
use mathlib.Core.Path.{◌≡◌, refl, sym, ap, subst, ◌∙◌}
use mathlib.Core.Bool.{Bool}
use mathlib.Core.List.{List}
use mathlib.Core.Logic.{⊎_elim}
use lib.ListN.{length, get_or, length-set}
use lib.Seq.{get_or-set_other}
use lib.IntN.{ℤ, pos, nat_abs}
use lib.Signed.{non_neg}
use Rattle.base.specs.Decide.{same_or, le_or}
use Rattle.base.proofs.Lists.{list_same}
use Rattle.tables.specs.Tables.{class_of, value_of}
use Rattle.tables.specs.Values.{own_truth, class_value}
use Rattle.shape.specs.Shape.{Spread}
use Rattle.shape.specs.Row.{Classed}
use Rattle.visits.specs.Formed.{Variables, Formed, Known}
use Rattle.visits.proofs.Forming.{formed_values, set_classes, set_value, set_others, set_variables}
use Rattle.visits.proofs.Known.{abs_signed, known_place, known_row, known_class}
use Rattle.spread.specs.Spread.{spread_at, spread_from, spread}
use Rattle.spread.proofs.Alike.{Alike, alike_same, alike_join, value_same}

-- ---- one variable

module _ {v : ℕ} {w : List ℤ} (R : Variables v w) (u : ℕ) (above : 0 < u) (within : u ≤ v) where
  known : Known w (pos u)
  known = record { count = v; rows = R; ranged = record { above = above; within = within } }

  tri : nat_abs (class_value w u) ≤ 1
  unfolding known
  tri = omega (arith, abs_signed (non_neg (class_of w u)) (value_of w (nat_abs (class_of w u))), (known_row (known_class known)).value)

  at_value : value_of (spread_at u w) u ≡ class_value w u
  at_value = set_value R u above within (class_value w u) tri

  at_others : (k : ℕ) → 0 < k → (k ≡ u → ⊥) → value_of (spread_at u w) k ≡ value_of w k
  at_others = set_others R u above within (class_value w u) tri

  at_alike : Alike v w (spread_at u w)
  at_alike = record {
    rows = set_variables R u above within (class_value w u) tri;
    size = length-set w (2 * u - 1) (class_value w u);
    classes = set_classes R u above within (class_value w u) tri;
    owns = λ k a own.
        ⊎_elim
        (λ (e : k ≡ u). ap (value_of (spread_at u w)) e ∙ at_value ∙ ap (own_truth w) (subst (λ (x : ℕ). class_of w x ≡ pos x) e own) ∙ ap (value_of w) (sym e))
        (at_others k a)
        (same_or k u);
    behind = λ k h. get_or-set_other w (2 * u - 1) k (class_value w u) (pos 0) (λ e. omega (arith, e, h, above, within));
  }

-- the record of a variable and that of its class, as the code asks them
pub known_classed : {w : List ℤ} {u : ℕ} → Known w (pos u) → Classed w u
known_classed K = record { few = omega (arith, K.ranged.within, K.rows.few); room = known_place K; class = (known_row K).class; value = (known_row (known_class K)).value }

-- ---- m variables from u on

module _ {v : ℕ} where
  from_alike : (m u : ℕ) {w : List ℤ} → Variables v w → 0 < u → u + m ≤ v + 1 → Alike v w (spread_from m u w)
  unfolding spread_from
  from_alike zero u R above within = alike_same R
  from_alike (suc m) u {w} R above within =
      let A = at_alike R u above (omega arith) in
      alike_join A (from_alike m (suc u) A.rows (omega arith) (omega arith))

  -- those before keep their values
  from_before : (m u : ℕ) {w : List ℤ} → Variables v w → 0 < u → u + m ≤ v + 1 → (k : ℕ) → 0 < k → k < u → value_of (spread_from m u w) k ≡ value_of w k
  unfolding spread_from
  from_before zero u R above within k a lt = refl
  from_before (suc m) u {w} R above within k a lt =
      from_before m (suc u) (at_alike R u above (omega arith)).rows (omega arith) (omega arith) k a (omega arith)
      ∙ at_others R u above (omega arith) k a (λ e. omega (arith, e, lt))

  from_value : (m u : ℕ) {w : List ℤ} → Variables v w → 0 < u → u + m ≤ v + 1 → (k : ℕ) → u ≤ k → k < u + m → value_of (spread_from m u w) k ≡ class_value w k
  unfolding spread_from
  from_value zero u R above within k le lt = absurd (omega arith)
  from_value (suc m) u {w} R above within k le lt =
      let A = at_alike R u above (omega arith) in
      ⊎_elim
      (λ (e : k ≡ u).
      ap (value_of (spread_from m (suc u) (spread_at u w))) e
      ∙ from_before m (suc u) A.rows (omega arith) (omega arith) u above (omega arith)
      ∙ at_value R u above (omega arith) ∙ ap (class_value w) (sym e))
      (λ (d : k ≡ u → ⊥). from_value m (suc u) A.rows (omega arith) (omega arith) k (omega (arith, d)) (omega arith) ∙ value_same R A k (omega arith) (omega arith))
      (same_or k u)

-- ---- the loop: what is still to be spread makes the whole

pub record Spreading (v : ℕ) (w₀ w : List ℤ) (u : ℕ) : Type 0 where
  pub above : 0 < u
  pub within : u ≤ v + 1
  pub rows : Variables v w
  pub size : length w ≡ length w₀
  pub rest : spread_from (v + 1 - u) u w ≡ spread v w₀

pub spreading_begin : {v : ℕ} {w : List ℤ} → Variables v w → Spreading v w w 1
unfolding spread
spreading_begin {v} {w} R = record { above = omega arith; within = omega arith; rows = R; size = refl; rest = ap (λ (m : ℕ). spread_from m 1 w) (let e : v + 1 - 1 ≡ v = omega arith in e) }

pub spreading_next : {v : ℕ} {w₀ w : List ℤ} {u : ℕ} → Spreading v w₀ w u → u ≤ v → Spreading v w₀ (spread_at u w) (u + 1)
unfolding spread_from
spreading_next {v} {w₀} {w} {u} S le = let A = at_alike S.rows u S.above le in record {
  above = omega arith;
  within = omega arith;
  rows = A.rows;
  size = A.size ∙ S.size;
  rest = ap (λ (x : ℕ). spread_from (v + 1 - (u + 1)) x (spread_at u w)) (add-one u) ∙ sym (ap (λ (m : ℕ). spread_from m u w) (let e : v + 1 - u ≡ suc (v + 1 - (u + 1)) = omega arith in e)) ∙ S.rest;
}

pub spreading_end : {v : ℕ} {w₀ w : List ℤ} {u : ℕ} → Spreading v w₀ w u → v < u → w ≡ spread v w₀
unfolding spread_from
spreading_end {v} {w₀} {w} {u} S lt = sym (ap (λ (m : ℕ). spread_from m u w) (let e : v + 1 - u ≡ 0 = omega arith in e)) ∙ S.rest

-- ---- THE LAWS

module _ {v : ℕ} {w : List ℤ} (R : Variables v w) where
  pub spread_alike : Alike v w (spread v w)
  unfolding spread
  spread_alike = from_alike v 1 R (omega arith) (omega arith)

  spread_value : (k : ℕ) → 0 < k → k ≤ v → value_of (spread v w) k ≡ class_value w k
  unfolding spread
  spread_value k a le = from_value v 1 R (omega arith) (omega arith) k (omega arith) (omega arith)

  pub spread_done : Spread v (spread v w)
  spread_done k lt = spread_value (k + 1) (omega arith) (omega arith) ∙ sym (value_same R spread_alike (k + 1) (omega arith) (omega arith))

-- what was unlike is spread over
pub spread_same : {v : ℕ} {w w' : List ℤ} → Variables v w → Alike v w w' → spread v w' ≡ spread v w
spread_same {v} {w} {w'} R A =
    let S = spread_alike R in
    let S' = spread_alike A.rows in
    list_same (pos 0) (spread v w') (spread v w) (S'.size ∙ A.size ∙ sym S.size) (λ k lt. ⊎_elim (λ (h : 2 * v ≤ k). S'.behind k h ∙ A.behind k h ∙ sym (S.behind k h)) (by k (k / 2) (k % 2) (omega arith)) (le_or (2 * v) k))
  where
    by : (k j r : ℕ) → (k ≡ 2 * j + r) × (r < 2) → k < 2 * v → get_or (spread v w') k (pos 0) ≡ get_or (spread v w) k (pos 0)
    by k j zero e h =
        let at : 2 * (j + 1) - 2 ≡ k = omega (arith, e.0) in
        subst (λ (x : ℕ). get_or (spread v w') x (pos 0) ≡ get_or (spread v w) x (pos 0)) at ((spread_alike A.rows).classes (j + 1) ∙ A.classes (j + 1) ∙ sym ((spread_alike R).classes (j + 1)))
    by k j (suc zero) e h =
        let at : 2 * (j + 1) - 1 ≡ k = omega (arith, e.0) in
        subst (λ (x : ℕ). get_or (spread v w') x (pos 0) ≡ get_or (spread v w) x (pos 0)) at
        (spread_value A.rows (j + 1) (omega arith) (omega (arith, e.0, h)) ∙ value_same R A (j + 1) (omega arith) (omega (arith, e.0, h)) ∙ sym (spread_value R (j + 1) (omega arith) (omega (arith, e.0, h))))
    by k j (suc (suc r)) e h = absurd (omega (arith, e.1))

-- tables keep what the shape rule says of clauses and variables
pub spread_formed : {v n s : ℕ} {mark : Bool} {c : List ℕ} {l w : List ℤ} → Formed v n s mark c l w → Formed v n s mark c l (spread v w)
spread_formed F = let S = spread_alike F.vars in formed_values F S.classes S.rows
