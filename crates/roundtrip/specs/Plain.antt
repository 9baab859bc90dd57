-- Clauses that a load keeps as they are, and what a load keeps of any clauses. Assumes nothing: these are definitions.
use Rattle.std.specs.Prelude.{◌≡◌, true, false, List, [], ◌∷◌, ℤ}
use Rattle.literal.specs.Clauses.{distinct, tautology}
use Rattle.load.specs.Load.{any_empty}

-- no repeat, and no variable with both signs
pub record Plain (c : List ℤ) : Type 0 where
  pub once : distinct c ≡ c
  pub consistent : tautology c ≡ false

unfoldable pub EachPlain : List (List ℤ) → Type 0
EachPlain [] = Unit
EachPlain (c ∷ cs) = Plain c × EachPlain cs

-- repeats removed, and clauses with v and -v left out
unfoldable pub kept_clauses : List (List ℤ) → List (List ℤ)
kept_clauses [] = []
kept_clauses (c ∷ cs) = elim (tautology c) [ true ↦ kept_clauses cs | false ↦ distinct c ∷ kept_clauses cs ]

-- the same, or the empty clause alone where it is among them: it sets the mark
unfoldable pub read_clauses : List (List ℤ) → List (List ℤ)
read_clauses cs = elim (any_empty cs) [ true ↦ [] ∷ [] | false ↦ kept_clauses cs ]
