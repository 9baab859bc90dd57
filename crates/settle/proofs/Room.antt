-- The clauses' parts do not overlap, so they have at most as many literals as the table has places, and the steps of a whole Propagate fit a u32. Assumes nothing.
use Prim.Native.Nat.{ℕ, zero, suc, ◌+◌, ◌*◌, ◌≤◌, ◌<◌}
use native.Mathlib.Nat.{mul-le-mul_right}
use native.Mathlib.Omega.{arith}
use mathlib.Core.Path.{◌≡◌}
use mathlib.Core.Bool.{Bool}
use mathlib.Core.Logic.{⊎_elim}
use mathlib.Core.List.{List}
use lib.ListN.{take}
use lib.IntN.{ℤ}
use Rattle.base.specs.Decide.{same_or}
use Rattle.tables.specs.Tables.{start_of, length_of}
use Rattle.tables.specs.Clauses.{literal_count}
use Rattle.shape.specs.Shape.{Parts}
use Rattle.visits.specs.Formed.{Formed}
use Rattle.settle.proofs.Measure.{total, literals_total}

-- no part that has places ends above `end`
parts_total : (n : ℕ) (c : List ℕ) → Parts n c → (m : ℕ) → m ≤ n → (end : ℕ) → ((i : ℕ) → i < m → 0 < length_of c i → start_of c i + length_of c i ≤ end) → total c m ≤ end
unfolding total
parts_total n c P zero le end h = omega arith
parts_total n c P (suc m) le end h =
    ⊎_elim
    (λ (z : length_of c m ≡ 0). omega (arith, z, parts_total n c P m (omega arith) end (λ i l some. h i (omega arith) some)))
    (λ (d : length_of c m ≡ 0 → ⊥).
    omega (arith, h m (omega arith) (omega arith), parts_total n c P m (omega arith) (start_of c m) (λ i l some. P.apart m (omega arith) i l some (omega arith))))
    (same_or (length_of c m) 0)

module _ {v n s : ℕ} {mark : Bool} {c : List ℕ} {l w : List ℤ} (F : Formed v n s mark c l w) where
  pub literals_few : literal_count (take (3 * n) c) ≤ 16384
  literals_few = omega (arith, literals_total F, parts_total n c F.rule.parts n (omega arith) 16384 (λ i lt some. F.rule.parts.inside i lt))

  pub steps_few : (x : ℕ) → x ≡ literal_count (take (3 * n) c) → (x + 2) * n ≤ 67117056
  steps_few x e = let h = mul-le-mul_right {m = x + 2} {n = 16386} n (omega (arith, e, literals_few)) in omega (arith, h, F.number)
