-- The steps of the figure 6 scan, and what figure 6 needs of its slots. Assumes nothing.
use Prim.Native.Nat.{ℕ, ◌+◌, ◌≤◌, ◌<◌}
use native.Mathlib.Omega.{arith}
use mathlib.Core.Path.{◌≡◌, refl, sym, ap, subst, ◌∙◌}
use mathlib.Core.Bool.{Bool, true, false}
use mathlib.Core.Logic.{⊎_elim}
use mathlib.Core.List.{List, [], ◌∷◌, map, Memᴰ}
use lib.ListN.{length, drop, get_or, drop_of_length-le}
use lib.Dec.{ltb}
use lib.IntN.{ℤ}
use borrow.Author.Tests.{ltb-true, ltb-false, lt-ltb, le-ltb}
use Rattle.base.specs.Decide.{same_or, le_or}
use Rattle.base.proofs.Booleans.{clash}
use Rattle.base.proofs.Lists.{get_d_mem, drop_step}
use Rattle.literal.specs.Literals.{twin}
use Rattle.walk.specs.Walk.{Stamps}
use Rattle.walk.specs.Forest.{discovery_at, finish_at}
use Rattle.stamp_columns.specs.Columns.{columns}
use Rattle.stamp_columns.specs.Slots.{Slots}
use Rattle.hidden.specs.Hidden.{holds, by_discovery, scan_at, scan, figure6}
use Rattle.hidden.proofs.Intervals.{Nested, Below, holds_true, true_holds}
use Rattle.hidden.proofs.Relations.{same_discovery}
use Rattle.hidden.proofs.Sorted.{sorted_out}
use Rattle.hidden_tautologies.specs.Judged.{Scanned}

-- ---- the steps

module _ (σ : Stamps) where
  scan_end : (ps ns : List ℕ) → length ns ≡ 0 → scan σ ps ns ≡ false
  unfolding scan scan_at
  scan_end [] ns e = refl
  scan_end (p ∷ ps) [] e = refl
  scan_end (p ∷ ps) (n ∷ ns) e = absurd (omega arith)

  scan_empty : (ps ns : List ℕ) → length ps ≡ 0 → scan σ ps ns ≡ false
  unfolding scan
  scan_empty [] ns e = refl
  scan_empty (p ∷ ps) ns e = absurd (omega arith)

  module _ (p n : ℕ) (ps ns : List ℕ) where
    scan_next_pos : ltb (discovery_at σ p) (discovery_at σ n) ≡ true → scan σ (p ∷ ps) (n ∷ ns) ≡ scan σ ps (n ∷ ns)
    unfolding scan scan_at
    scan_next_pos e = rw (e, scan_at)

    scan_next_neg : ltb (discovery_at σ p) (discovery_at σ n) ≡ false → ltb (finish_at σ n) (finish_at σ p) ≡ true → scan σ (p ∷ ps) (n ∷ ns) ≡ scan σ (p ∷ ps) ns
    unfolding scan scan_at
    scan_next_neg e h = rw (e, h, scan_at)

    scan_yes : ltb (discovery_at σ p) (discovery_at σ n) ≡ false → ltb (finish_at σ n) (finish_at σ p) ≡ false → scan σ (p ∷ ps) (n ∷ ns) ≡ true
    unfolding scan scan_at
    scan_yes e h = rw (e, h, scan_at)

-- the scan from here gives the whole
pub record Scanning (σ : Stamps) (ps ns : List ℕ) (i j : ℕ) : Type 0 where
  pub one : i ≤ length ps
  pub other : j ≤ length ns
  pub left : scan σ (drop i ps) (drop j ns) ≡ scan σ ps ns

module _ {σ : Stamps} {ps ns : List ℕ} {i j : ℕ} (S : Scanning σ ps ns i j) where
  pub scanning_empty : length ps ≤ i → scan σ ps ns ≡ false
  scanning_empty h = sym S.left ∙ scan_empty σ (drop i ps) (drop j ns) (ap length (drop_of_length-le ps h))

  pub scanning_end : length ns ≤ j → scan σ ps ns ≡ false
  scanning_end h = sym S.left ∙ scan_end σ (drop i ps) (drop j ns) (ap length (drop_of_length-le ns h))

  module _ (lp : i < length ps) (ln : j < length ns) where
    abbrev p : ℕ
    p = get_or ps i 0

    abbrev n : ℕ
    n = get_or ns j 0

    heads : scan σ ps ns ≡ scan σ (p ∷ drop (i + 1) ps) (n ∷ drop (j + 1) ns)
    heads = sym S.left ∙ (λ k. scan σ (drop_step ps i lp k) (drop_step ns j ln k))

    -- the complement holds the literal
    pub scanning_yes : holds σ n p ≡ true → scan σ ps ns ≡ true
    scanning_yes e = let h = holds_true σ n p e in heads ∙ scan_yes σ p n (drop (i + 1) ps) (drop (j + 1) ns) (le-ltb (discovery_at σ p) (discovery_at σ n) h.0) (le-ltb (finish_at σ n) (finish_at σ p) h.1)

    module _ (out : holds σ n p ≡ false) where
      -- it does not, and begins first: it ends first too
      pub scanning_next_neg : ltb (discovery_at σ n) (discovery_at σ p) ≡ true → Scanning σ ps ns i (j + 1)
      scanning_next_neg e = record {
        one = S.one;
        other = omega arith;
        left = sym (heads ∙ scan_next_neg σ p n (drop (i + 1) ps) (drop (j + 1) ns) (le-ltb (discovery_at σ p) (discovery_at σ n) (omega (arith, begins))) (lt-ltb (finish_at σ n) (finish_at σ p) ends) ∙ ap (λ (l : List ℕ). scan σ l (drop (j + 1) ns)) (sym (drop_step ps i lp)));
      }
        where
          begins : discovery_at σ n < discovery_at σ p
          begins = ltb-true (discovery_at σ n) (discovery_at σ p) e

          ends : finish_at σ n < finish_at σ p
          ends = ⊎_elim (λ (h : finish_at σ p ≤ finish_at σ n). clash (true_holds σ n p (omega (arith, begins), h)) out) (λ (h : finish_at σ n < finish_at σ p). h) (le_or (finish_at σ p) (finish_at σ n))

      -- it does not, and begins later: two that begin together are one
      pub scanning_next_pos : (size : ℕ) → Nested size σ → Below size ps → Below size ns → ltb (discovery_at σ n) (discovery_at σ p) ≡ false → Scanning σ ps ns (i + 1) j
      scanning_next_pos size N bp bn e = record {
        one = omega arith;
        other = S.other;
        left = sym (heads ∙ scan_next_pos σ p n (drop (i + 1) ps) (drop (j + 1) ns) (lt-ltb (discovery_at σ p) (discovery_at σ n) begins) ∙ ap (scan σ (drop (i + 1) ps)) (sym (drop_step ns j ln)));
      }
        where
          begins : discovery_at σ p < discovery_at σ n
          begins =
              ⊎_elim
              (λ (t : discovery_at σ n ≡ discovery_at σ p).
              let q = same_discovery size σ N n p (bn n (get_d_mem ns j 0 ln)) (bp p (get_d_mem ps i 0 lp)) t in clash (true_holds σ n p (omega (arith, t), omega (arith, ap (finish_at σ) q))) out)
              (λ (d : discovery_at σ n ≡ discovery_at σ p → ⊥). omega (arith, d, ltb-false (discovery_at σ n) (discovery_at σ p) e))
              (same_or (discovery_at σ n) (discovery_at σ p))

-- ---- figure 6 over the slots of a clause

module _ {times xs ys : List ℕ} (S : Scanned times xs ys) where
  pub scanned_one : Slots times xs
  scanned_one = record { size = S.size; few = S.few; room = S.room; each = S.one }

  pub scanned_other : Slots times ys
  scanned_other = record { size = S.size; few = S.few; room = S.room; each = S.other }

  -- only the times count for the intervals
  pub scanned_nested : (links : List ℤ) → Nested S.size (columns times links)
  scanned_nested links = record { spans = S.nested.spans; parted = S.nested.parted }

pub slots_small : {times xs : List ℕ} → Slots times xs → (k : ℕ) → k < length xs → get_or xs k 0 < 65536
slots_small {xs = xs} S k lt = omega (arith, S.each (get_or xs k 0) (get_d_mem xs k 0 lt), S.few)

module _ (times xs s t : List ℕ) (sorted : (links : List ℤ) → s ≡ by_discovery (columns times links) xs) (sorted' : (links : List ℤ) → t ≡ by_discovery (columns times links) (map twin xs)) where
  pub figure6_scanned : Scanned times xs (map twin xs) → Scanned times s t
  figure6_scanned S = record {
    size = S.size;
    few = S.few;
    room = S.room;
    nested = S.nested;
    one = λ x m. S.one x (sorted_out (columns times []) xs (subst (Memᴰ x) (sorted []) m));
    other = λ x m. S.other x (sorted_out (columns times []) (map twin xs) (subst (Memᴰ x) (sorted' []) m));
  }

  pub figure6_is : (r : Bool) → ((links : List ℤ) → r ≡ scan (columns times links) s t) → (links : List ℤ) → (r ≡ figure6 (columns times links) xs) × (s ≡ by_discovery (columns times links) xs)
  unfolding figure6
  figure6_is r e links = (e links ∙ (λ i. scan (columns times links) (sorted links i) (sorted' links i)), sorted links)
