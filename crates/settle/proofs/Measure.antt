-- How many literals the clauses of formed tables have: the lengths of the records, added up. Assumes nothing.
use Prim.Native.Nat.{ℕ, zero, suc, ◌+◌, ◌*◌, ◌≤◌, ◌<◌}
use native.Mathlib.Numerals.{add-one}
use native.Mathlib.Omega.{arith}
use mathlib.Core.Path.{◌≡◌, refl, sym, ap, subst}
use mathlib.Core.Bool.{Bool}
use mathlib.Core.Logic.{⊎_elim}
use mathlib.Core.List.{List}
use lib.ListN.{take}
use lib.IntN.{ℤ}
use Rattle.base.specs.Decide.{same_or}
use Rattle.tables.specs.Tables.{length_of, standing}
use Rattle.tables.specs.Clauses.{literal_count}
use Rattle.visits.specs.Formed.{Formed}
use Rattle.visits.proofs.Counting.{Counting, counting_none, counting_dropped, counting_standing, counting_done, formed_counted}

-- the lengths of the first m records
unfoldable pub total : List ℕ → ℕ → ℕ
total c zero = 0
total c (suc m) = total c m + length_of c m

module _ {v n s : ℕ} {mark : Bool} {c : List ℕ} {l w : List ℤ} (F : Formed v n s mark c l w) where
  counted_to : (m : ℕ) → m ≤ n → (x : ℕ) × Counting n c m x (total c m)
  unfolding total
  counted_to zero h = (0, counting_none n c)
  counted_to (suc m) h =
      let before = counted_to m (omega arith) in
      ⊎_elim
      (λ (z : standing c m ≡ 0). (before.0, goes before.0 (total c m) (sum z) (counting_dropped (formed_counted F) m h before.1 z)))
      (λ (d : standing c m ≡ 0 → ⊥). (before.0 + 1, goes (before.0 + 1) (total c m + length_of c m) refl (counting_standing (formed_counted F) m h before.1 d)))
      (same_or (standing c m) 0)
    where
      -- a dropped clause has no literals
      sum : standing c m ≡ 0 → total c m ≡ total c m + length_of c m
      sum z = omega (arith, F.rule.parts.dropped m h z)

      goes : (x y : ℕ) → y ≡ total c m + length_of c m → Counting n c (m + 1) x y → Counting n c (suc m) x (total c m + length_of c m)
      goes x y e K = subst (λ (z : ℕ). Counting n c (suc m) x z) e (subst (λ (z : ℕ). Counting n c z x y) (add-one m) K)

  -- what `enough` counts
  pub literals_total : literal_count (take (3 * n) c) ≡ total c n
  literals_total = let all = counted_to n (omega arith) in sym (counting_done (formed_counted F) all.1 (omega arith)).1

-- ---- one record with another length

module _ (c c' : List ℕ) (k : ℕ) (same : (j : ℕ) → (j ≡ k → ⊥) → length_of c' j ≡ length_of c j) where
  total_before : (m : ℕ) → m ≤ k → total c' m ≡ total c m
  unfolding total
  total_before zero h = refl
  total_before (suc m) h = let e = same m (λ q. omega (arith, q, h)) in omega (arith, e, total_before m (omega arith))

  pub total_after : (m : ℕ) → k < m → total c' m + length_of c k ≡ total c m + length_of c' k
  unfolding total
  total_after zero h = absurd (omega arith)
  total_after (suc m) h =
      ⊎_elim
      (λ (e : m ≡ k). let b = total_before m (omega (arith, e)) in omega (arith, b, ap (length_of c) e, ap (length_of c') e))
      (λ (d : m ≡ k → ⊥). let e = same m d in omega (arith, e, total_after m (omega (arith, d, h))))
      (same_or m k)
