-- Document 01: "remove repeats (the first stays)", said of places: those are kept whose literal no earlier place has. Assumes nothing: these are definitions.
use Rattle.std.specs.Prelude.{ℕ, ◌≡◌, false, not, length, take, get_or, ℤ, pos}
use mathlib.Core.List.{List, [], ◌∷◌, map, Sublistᴰ}
use Rattle.base.specs.Lists.{filter, numbers}
use Rattle.literal.specs.Clauses.{has}

-- the places of xs whose literal no earlier place has, in order
unfoldable pub first_places : List ℤ → List ℕ
first_places xs = filter (λ i. not (has (get_or xs i (pos 0)) (take i xs))) (numbers 0 (length xs))

-- no literal stands twice
abbrev pub EachOnce : List ℤ → Type 0
EachOnce [] = Unit {0}
EachOnce (x ∷ xs) = (has x xs ≡ false) × EachOnce xs

-- ys is xs without its repeats
pub record RepeatsRemoved (xs ys : List ℤ) : Type 0 where
  -- the literals of the first places
  pub firsts : ys ≡ map (λ i. get_or xs i (pos 0)) (first_places xs)
  -- in the order of xs
  pub subsequence : Sublistᴰ ys xs
  pub once : EachOnce ys
  -- every literal is still there, and none is new
  pub all_there : (l : ℤ) → has l ys ≡ has l xs
