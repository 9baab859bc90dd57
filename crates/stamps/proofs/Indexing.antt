-- Entering the times into the index, place after place. Each store fills a place that was empty, so after as many stores as there are places none is empty:
-- this is the pigeonhole that makes "once each" of "none twice". Assumes nothing.
use Prim.Native.Nat.{ℕ, zero, suc, ◌+◌, ◌-◌, ◌*◌, ◌≤◌, ◌<◌}
use native.Mathlib.Nat.{le_of_suc-le-suc, not-suc-le-zero}
use native.Mathlib.Numerals.{add-one}
use native.Mathlib.Omega.{arith}
use mathlib.Core.Path.{◌≡◌, refl, sym, ap, subst, ◌∙◌}
use mathlib.Core.Logic.{⊎_elim}
use mathlib.Core.List.{List, [], ◌∷◌}
use lib.ListN.{length, get_or, set, take, replicate, length-set, length-replicate}
use lib.Seq.{get_or-set_same, get_or-set_other}
use Rattle.base.specs.Decide.{same_or, le_or}
use Rattle.base.proofs.Lists.{get_d_zeros, front_zeros}
use Rattle.stamps.specs.Fresh.{Times}
use Rattle.stamps.specs.Index.{Indexed, Filled}

-- ---- the number of empty places

pub zeros : List ℕ → ℕ
zeros [] = 0
zeros (zero ∷ l) = suc (zeros l)
zeros (suc k ∷ l) = zeros l

zeros_set : (l : List ℕ) (i x : ℕ) → i < length l → get_or l i 0 ≡ 0 → zeros l ≡ suc (zeros (set l i (suc x)))
unfolding zeros
zeros_set [] i x lt e = absurd (not-suc-le-zero lt)
zeros_set (zero ∷ l) zero x lt e = refl
zeros_set (suc k ∷ l) zero x lt e = absurd (omega arith)
zeros_set (zero ∷ l) (suc i) x lt e = ap suc (zeros_set l i x (le_of_suc-le-suc lt) e)
zeros_set (suc k ∷ l) (suc i) x lt e = zeros_set l i x (le_of_suc-le-suc lt) e

zeros_none : (l : List ℕ) (i : ℕ) → zeros l ≡ 0 → i < length l → 0 < get_or l i 0
unfolding zeros
zeros_none [] i e lt = absurd (not-suc-le-zero lt)
zeros_none (zero ∷ l) i e lt = absurd (omega arith)
zeros_none (suc k ∷ l) zero e lt = omega arith
zeros_none (suc k ∷ l) (suc i) e lt = zeros_none l i e (le_of_suc-le-suc lt)

zeros_replicate : (n : ℕ) → zeros (replicate n 0) ≡ n
unfolding zeros
zeros_replicate zero = refl
zeros_replicate (suc n) = ap suc (zeros_replicate n)

-- ---- the first k places are entered

pub record Indexing (n : ℕ) (times index : List ℕ) (k : ℕ) : Type 0 where
  pub within : k ≤ n
  pub size : length index ≡ n
  pub empty : zeros index + k ≡ n
  pub placed : (j : ℕ) → j < k → (0 < get_or times j 0) × (get_or times j 0 ≤ n) × (get_or index (get_or times j 0 - 1) 0 ≡ j + 1)
  pub found : (t : ℕ) → 0 < get_or index t 0 → (j : ℕ) × (j < k) × (get_or index t 0 ≡ j + 1) × (get_or times j 0 ≡ t + 1)

pub indexing_begin : (n : ℕ) (times index : List ℕ) → index ≡ replicate n 0 → Indexing n times index 0
indexing_begin n times index e = record {
  within = omega arith;
  size = ap length e ∙ length-replicate n 0;
  empty = omega (arith, ap zeros e ∙ zeros_replicate n);
  placed = λ j l. absurd (not-suc-le-zero l);
  found = λ t h. absurd (omega (arith, h, ap (λ (l : List ℕ). get_or l t 0) e, get_d_zeros n t));
}

module _ (n : ℕ) (times index : List ℕ) (k : ℕ) (I : Indexing n times index k) where
  pub indexing_next : 0 < get_or times k 0 → get_or times k 0 ≤ n → get_or index (get_or times k 0 - 1) 0 ≡ 0 → Indexing n times (set index (get_or times k 0 - 1) (k + 1)) (k + 1)
  indexing_next a b z =
      let i = get_or times k 0 - 1 in
      let li : i < length index = omega (arith, I.size) in
      let c : zeros index ≡ suc (zeros (set index i (k + 1))) = rw (add-one k) (zeros_set index i k li z) in
      record {
        within = omega (arith, c, I.empty);
        size = length-set index i (k + 1) ∙ I.size;
        empty = omega (arith, c, I.empty);
        placed = λ j lj. ⊎_elim
            (λ (e : j ≡ k). subst (λ (x : ℕ). (0 < get_or times x 0) × (get_or times x 0 ≤ n) × (get_or (set index i (k + 1)) (get_or times x 0 - 1) 0 ≡ x + 1)) (sym e)
            (a, b, get_or-set_same index i (k + 1) 0 li))
            (λ (d : j ≡ k → ⊥).
            let p = I.placed j (omega arith) in
            (p.0, p.1, get_or-set_other index i (get_or times j 0 - 1) (k + 1) 0 (λ e. omega (arith, z, p.2, ap (λ (x : ℕ). get_or index x 0) e)) ∙ p.2))
            (same_or j k);
        found = λ t h. ⊎_elim
            (λ (e : t ≡ i). (k, omega arith, ap (λ (x : ℕ). get_or (set index i (k + 1)) x 0) e ∙ get_or-set_same index i (k + 1) 0 li, omega (arith, a, e)))
            (λ (d : t ≡ i → ⊥).
            let same = get_or-set_other index i t (k + 1) 0 d in
            let f = I.found t (omega (arith, h, same)) in
            (f.0, omega (arith, f.1), same ∙ f.2, f.3))
            (same_or t i);
      }

  -- a place that is taken: that time stood before
  pub indexing_taken : 0 < get_or times k 0 → k < n → 0 < get_or index (get_or times k 0 - 1) 0 → Times n times → ⊥
  indexing_taken a lk h T =
      let f = I.found (get_or times k 0 - 1) h in
      omega (arith, f.1, T.once f.0 (omega (arith, f.1)) k lk (omega (arith, f.3, a)))

  pub indexing_done : n ≤ k → Indexed n times index
  indexing_done h = record {
    placed = λ j l. I.placed j (omega arith);
    found = λ t l.
        let f = I.found t (zeros_none index t (omega (arith, I.empty)) (omega (arith, I.size))) in
        (f.0, omega (arith, f.1, I.within), f.2, f.3);
  }

pub indexed_filled : (n : ℕ) (times index : List ℕ) → Indexed n times index → Filled n index
indexed_filled n times index I = record {
  above = λ t l. omega (arith, (I.found t l).2);
  within = λ t l. omega (arith, (I.found t l).1, (I.found t l).2);
}

-- the part of the empty array that is lent
pub part_length : (v : ℕ) → v ≤ 1024 → 4 * v ≡ length (take (4 * v) (replicate {A = ℕ} 4096 0))
part_length v h = sym (front_zeros (4 * v) 4096 (omega arith))

-- ---- for the reader: n places that hold 1 to n, none twice, hold each of 1 to n

-- entering never stops on such times
entered : (n : ℕ) (times : List ℕ) → Times n times → (k : ℕ) → k ≤ n → (index : List ℕ) × Indexing n times index k
entered n times T zero h = (replicate n 0, indexing_begin n times (replicate n 0) refl)
entered n times T (suc k) h =
    let i = entered n times T k (omega arith) in
    let r = T.ranged k h in
    let empty : get_or i.0 (get_or times k 0 - 1) 0 ≡ 0 = ⊎_elim
    (λ (le : get_or i.0 (get_or times k 0 - 1) 0 ≤ 0). omega arith)
    (λ (lt : 0 < get_or i.0 (get_or times k 0 - 1) 0). absurd (indexing_taken n times i.0 k i.1 r.0 h lt T))
    (le_or (get_or i.0 (get_or times k 0 - 1) 0) 0) in
    (set i.0 (get_or times k 0 - 1) (k + 1), rw (← add-one k) (indexing_next n times i.0 k i.1 r.0 r.1 empty))

pub every_time_hit : (n : ℕ) (times : List ℕ) → Times n times → (t : ℕ) → 0 < t → t ≤ n → (k : ℕ) × (k < n) × (get_or times k 0 ≡ t)
every_time_hit n times T t a b =
    let i = entered n times T n (omega arith) in
    let f = (indexing_done n times i.0 n i.1 (omega arith)).found (t - 1) (omega arith) in
    (f.0, f.1, omega (arith, f.3))
