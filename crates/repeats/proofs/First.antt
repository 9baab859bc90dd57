-- The law of the removal: what is left are the literals of the first places, in order, each once, and every literal is still there. Assumes nothing.
use Prim.Native.Nat.{ℕ, zero, suc, ◌+◌, ◌≤◌, ◌<◌}
use native.Mathlib.Omega.{arith}
use mathlib.Core.Path.{◌≡◌, refl, sym, ap, subst, ◌∙◌}
use mathlib.Core.Bool.{Bool, true, false, not}
use mathlib.Core.List.Sublistᴰ
use mathlib.Core.List.{List, [], ◌∷◌, ◌++◌, map, map-append, append-nil, Sublistᴰ}
use lib.ListN.{length, take, get_or}
use lib.Seq.{take-suc, take-length}
use lib.IntN.{ℤ, pos}
use Rattle.base.specs.Lists.{filter, numbers}
use Rattle.base.proofs.Lists.{filter_in, filter_out, filter_append, numbers_snoc}
use Rattle.literal.specs.Clauses.{has, distinct}
use Rattle.literal.proofs.Distinct.{has_distinct, distinct_repeat, distinct_new}
use Rattle.repeats.specs.First.{first_places, RepeatsRemoved}
use Rattle.repeats.proofs.Repeats.{distinct_once, by_literals}

module _ (xs : List ℤ) where
  abbrev at : ℕ → ℤ
  at i = get_or xs i (pos 0)

  abbrev new : ℕ → Bool
  new i = not (has (at i) (take i xs))

  -- the first n places
  firsts_to : (n : ℕ) → n ≤ length xs → distinct (take n xs) ≡ map at (filter new (numbers 0 n))
  unfolding filter numbers
  firsts_to zero h = refl
  firsts_to (suc n) h =
      ap distinct (take-suc xs n (pos 0) (omega arith))
      ∙ go (has (at n) (take n xs)) refl (firsts_to n (omega arith))
      ∙ sym (ap (λ (l : List ℕ). map at (filter new l)) (numbers_snoc 0 n ∙ ap (λ (k : ℕ). numbers 0 n ++ (k ∷ [])) (let e : 0 + n ≡ n = omega arith in e)) ∙ ap (map at) (filter_append new (numbers 0 n) (n ∷ [])) ∙ map-append at (filter new (numbers 0 n)) (filter new (n ∷ [])))
    where
      go : (t : Bool) → has (at n) (take n xs) ≡ t → distinct (take n xs) ≡ map at (filter new (numbers 0 n))
          → distinct (take n xs ++ (at n ∷ [])) ≡ map at (filter new (numbers 0 n)) ++ map at (filter new (n ∷ []))
      go true t e = distinct_repeat (take n xs) (at n) t ∙ e ∙ sym (append-nil _) ∙ ap (λ (l : List ℕ). map at (filter new (numbers 0 n)) ++ map at l) (sym (filter_out new n [] (ap not t)))
      go false t e = distinct_new (take n xs) (at n) t ∙ ap (λ (l : List ℤ). l ++ (at n ∷ [])) e ∙ ap (λ (l : List ℕ). map at (filter new (numbers 0 n)) ++ map at l) (sym (filter_in new n [] (ap not t)))

  pub first_places_lem : distinct xs ≡ map at (first_places xs)
  unfolding first_places
  first_places_lem = ap distinct (sym (take-length xs)) ∙ firsts_to (length xs) (omega arith)

  pub in_order : Sublistᴰ (distinct xs) xs
  in_order = by_literals (λ ys. Sublistᴰ (distinct ys) ys) xs Sublistᴰ.slnil step
    where
      step : (n : ℕ) → n < length xs → Sublistᴰ (distinct (take n xs)) (take n xs) → Sublistᴰ (distinct (take n xs ++ (at n ∷ []))) (take n xs ++ (at n ∷ []))
      step n lt s = go (has (at n) (take n xs)) refl
        where
          go : (t : Bool) → has (at n) (take n xs) ≡ t → Sublistᴰ (distinct (take n xs ++ (at n ∷ []))) (take n xs ++ (at n ∷ []))
          go true t =
              subst (λ (l : List ℤ). Sublistᴰ l (take n xs ++ (at n ∷ []))) (append-nil (distinct (take n xs)) ∙ sym (distinct_repeat (take n xs) (at n) t))
              (Sublistᴰ.append s (Sublistᴰ.nil-sublist (at n ∷ [])))
          go false t =
              subst (λ (l : List ℤ). Sublistᴰ l (take n xs ++ (at n ∷ []))) (sym (distinct_new (take n xs) (at n) t))
              (Sublistᴰ.append s (Sublistᴰ.refl (at n ∷ [])))

-- THE LAW of the removal
pub removed : (xs : List ℤ) → RepeatsRemoved xs (distinct xs)
removed xs = record { firsts = first_places_lem xs; subsequence = in_order xs; once = distinct_once xs; all_there = λ l. has_distinct l xs }
