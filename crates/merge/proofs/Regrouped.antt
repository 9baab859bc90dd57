-- The variable table with new classes: entry by entry, one record more, and that it depends on the classes alone.
-- Assumes nothing.
use Prim.Native.Nat.{ℕ, zero, suc, ◌+◌, ◌-◌, ◌*◌, ◌≤◌, ◌<◌}
use native.Mathlib.Omega.{arith}
use mathlib.Core.Path.{◌≡◌, refl, sym, ap, ◌∙◌}
use mathlib.Core.List.{List, [], ◌∷◌}
use lib.ListN.{length, get_or, set}
use lib.IntN.{ℤ, pos}
use Rattle.tables.specs.Tables.{class_of, value_of}
use Rattle.merge.specs.Merge.{regrouped}

two_more : (k : ℕ) → 2 * suc k ≡ suc (suc (2 * k))
two_more k = omega arith

pub regrouped_length : (new : ℤ → ℤ) (m : ℕ) (rs : List ℤ) → length (regrouped new m rs) ≡ length rs
unfolding regrouped
regrouped_length new zero rs = refl
regrouped_length new (suc m) [] = refl
regrouped_length new (suc m) (x ∷ []) = refl
regrouped_length new (suc m) (x ∷ y ∷ rs) = ap (λ (k : ℕ). suc (suc k)) (regrouped_length new m rs)

-- past the records that have new classes, all is as it was
pub regrouped_past : (new : ℤ → ℤ) (m : ℕ) (rs : List ℤ) (k : ℕ) → 2 * m ≤ k → get_or (regrouped new m rs) k (pos 0) ≡ get_or rs k (pos 0)
unfolding regrouped
regrouped_past new zero rs k le = refl
regrouped_past new (suc m) [] k le = refl
regrouped_past new (suc m) (x ∷ []) k le = refl
regrouped_past new (suc m) (x ∷ y ∷ rs) zero le = absurd (omega arith)
regrouped_past new (suc m) (x ∷ y ∷ rs) (suc zero) le = absurd (omega arith)
regrouped_past new (suc m) (x ∷ y ∷ rs) (suc (suc k)) le = regrouped_past new m rs k (omega arith)

regrouped_even : (new : ℤ → ℤ) (m : ℕ) (rs : List ℤ) (k : ℕ) → k < m → 2 * k + 1 < length rs → get_or (regrouped new m rs) (2 * k) (pos 0) ≡ new (get_or rs (2 * k) (pos 0))
unfolding regrouped
regrouped_even new zero rs k lt room = absurd (omega arith)
regrouped_even new (suc m) [] k lt room = absurd (omega arith)
regrouped_even new (suc m) (x ∷ []) k lt room = absurd (omega arith)
regrouped_even new (suc m) (x ∷ y ∷ rs) zero lt room = refl
regrouped_even new (suc m) (x ∷ y ∷ rs) (suc k) lt room =
    ap (λ (j : ℕ). get_or (new x ∷ y ∷ regrouped new m rs) j (pos 0)) (two_more k)
    ∙ regrouped_even new m rs k (omega arith) (omega arith)
    ∙ ap (λ (j : ℕ). new (get_or (x ∷ y ∷ rs) j (pos 0))) (sym (two_more k))

regrouped_odd : (new : ℤ → ℤ) (m : ℕ) (rs : List ℤ) (k : ℕ) → get_or (regrouped new m rs) (2 * k + 1) (pos 0) ≡ get_or rs (2 * k + 1) (pos 0)
unfolding regrouped
regrouped_odd new zero rs k = refl
regrouped_odd new (suc m) [] k = refl
regrouped_odd new (suc m) (x ∷ []) k = refl
regrouped_odd new (suc m) (x ∷ y ∷ rs) zero = refl
regrouped_odd new (suc m) (x ∷ y ∷ rs) (suc k) =
    let e : 2 * suc k + 1 ≡ suc (suc (2 * k + 1)) = omega arith in
    ap (λ (j : ℕ). get_or (new x ∷ y ∷ regrouped new m rs) j (pos 0)) e
    ∙ regrouped_odd new m rs k
    ∙ ap (λ (j : ℕ). get_or (x ∷ y ∷ rs) j (pos 0)) (sym e)

-- ---- classes and values

pub class_at_lem : (rs : List ℤ) (w : ℕ) → class_of rs (w + 1) ≡ get_or rs (2 * w) (pos 0)
class_at_lem rs w = ap (λ (k : ℕ). get_or rs k (pos 0)) (let e : 2 * (w + 1) - 2 ≡ 2 * w = omega arith in e)

value_at : (rs : List ℤ) (w : ℕ) → value_of rs (w + 1) ≡ get_or rs (2 * w + 1) (pos 0)
value_at rs w = ap (λ (k : ℕ). get_or rs k (pos 0)) (let e : 2 * (w + 1) - 1 ≡ 2 * w + 1 = omega arith in e)

pub regrouped_class : (new : ℤ → ℤ) (m : ℕ) (rs : List ℤ) (w : ℕ) → w < m → 2 * m ≤ length rs → class_of (regrouped new m rs) (w + 1) ≡ new (class_of rs (w + 1))
regrouped_class new m rs w lt room = class_at_lem (regrouped new m rs) w ∙ regrouped_even new m rs w lt (omega arith) ∙ ap new (sym (class_at_lem rs w))

pub regrouped_value : (new : ℤ → ℤ) (m : ℕ) (rs : List ℤ) (w : ℕ) → value_of (regrouped new m rs) (w + 1) ≡ value_of rs (w + 1)
regrouped_value new m rs w = value_at (regrouped new m rs) w ∙ regrouped_odd new m rs w ∙ sym (value_at rs w)

-- ---- one record more

pub regrouped_step : (new : ℤ → ℤ) (m : ℕ) (rs : List ℤ) → 2 * m + 1 < length rs → set (regrouped new m rs) (2 * m) (new (get_or rs (2 * m) (pos 0))) ≡ regrouped new (suc m) rs
unfolding regrouped
regrouped_step new m [] room = absurd (omega arith)
regrouped_step new m (x ∷ []) room = absurd (omega arith)
regrouped_step new zero (x ∷ y ∷ rs) room = refl
regrouped_step new (suc m) (x ∷ y ∷ rs) room =
    ap (λ (j : ℕ). set (new x ∷ y ∷ regrouped new m rs) j (new (get_or (x ∷ y ∷ rs) j (pos 0)))) (two_more m)
    ∙ ap (λ (l : List ℤ). new x ∷ y ∷ l) (regrouped_step new m rs (omega arith))

-- ---- new classes that are the same on the old ones

pub regrouped_as : (f g : ℤ → ℤ) (m : ℕ) (rs : List ℤ) → ((w : ℕ) → w < m → f (get_or rs (2 * w) (pos 0)) ≡ g (get_or rs (2 * w) (pos 0))) → regrouped f m rs ≡ regrouped g m rs
unfolding regrouped
regrouped_as f g zero rs same = refl
regrouped_as f g (suc m) [] same = refl
regrouped_as f g (suc m) (x ∷ []) same = refl
regrouped_as f g (suc m) (x ∷ y ∷ rs) same =
    ap (λ (z : ℤ). z ∷ y ∷ regrouped f m rs) (same 0 (omega arith))
    ∙ ap (λ (l : List ℤ). g x ∷ y ∷ l)
    (regrouped_as f g m rs (λ w lt.
    ap (λ (j : ℕ). f (get_or (x ∷ y ∷ rs) j (pos 0))) (sym (two_more w)) ∙ same (suc w) (omega arith) ∙ ap (λ (j : ℕ). g (get_or (x ∷ y ∷ rs) j (pos 0))) (two_more w)))
