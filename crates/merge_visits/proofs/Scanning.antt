-- The loop over a clause's part. Assumes nothing.
use Prim.Native.Nat.{ℕ, suc, ◌+◌, ◌≤◌, ◌<◌}
use native.Mathlib.Numerals.{add-one}
use native.Mathlib.Omega.{arith}
use mathlib.Core.Path.{◌≡◌, sym, ap, ◌∙◌}
use mathlib.Core.List.{List, ◌∷◌, ◌++◌, map}
use lib.ListN.{length, take, drop, get_or, set, length-set}
use lib.Seq.{take-suc-set, drop-cons, drop-set-lt, append_snoc}
use lib.IntN.{ℤ, pos}
use Rattle.tables.specs.Values.{class_literal}
use Rattle.visits.proofs.Ahead.{Ahead, ahead_set}

-- substitute: class literals stand in front, and what is still to be read is as it was

pub record Putting (w p₀ p : List ℤ) (i : ℕ) : Type 0 where
  pub within : i ≤ length p
  pub unread : Ahead p₀ p i
  pub split : map (class_literal w) p₀ ≡ take i p ++ map (class_literal w) (drop i p)

module _ {w p₀ p : List ℤ} {i : ℕ} (P : Putting w p₀ p i) (lt : i < length p) where
  pub putting_next : (y : ℤ) → y ≡ class_literal w (get_or p i (pos 0)) → Putting w p₀ (set p i y) (i + 1)
  putting_next y e = record {
    within = simp length-set (omega arith);
    unread = ahead_set P.unread i (omega arith) y;
    split =
        P.split
        ∙ ap (λ (l : List ℤ). take i p ++ map (class_literal w) l) (drop-cons p i (pos 0) lt)
        ∙ ap (λ (x : ℤ). take i p ++ (x ∷ map (class_literal w) (drop (suc i) p))) (sym e)
        ∙ sym (append_snoc (take i p) y (map (class_literal w) (drop (suc i) p)))
        ∙ ap (λ (l : List ℤ). l ++ map (class_literal w) (drop (suc i) p)) (sym (take-suc-set p i y lt))
        ∙ ap (λ (l : List ℤ). take (suc i) (set p i y) ++ map (class_literal w) l) (sym (drop-set-lt (suc i) p i y (omega arith)))
        ∙ ap (λ (k : ℕ). take k (set p i y) ++ map (class_literal w) (drop k (set p i y))) (sym (add-one i));
  }
