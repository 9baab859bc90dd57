-- Clauses whose literals are in range, and how many literals clauses have. Assumes nothing: these are definitions.
use Rattle.std.specs.Prelude.{ℕ, ◌+◌, ◌<◌, ◌≤◌, List, [], ◌∷◌, length, ℤ, nat_abs}

-- each literal is one of 1 to v or a complement
unfoldable pub InClause : ℕ → List ℤ → Type 0
InClause v [] = Unit
InClause v (l ∷ ls) = (0 < nat_abs l) × ((nat_abs l ≤ v) × InClause v ls)

unfoldable pub InClauses : ℕ → List (List ℤ) → Type 0
InClauses v [] = Unit
InClauses v (c ∷ cs) = InClause v c × InClauses v cs

-- how many literals they have
unfoldable pub total : List (List ℤ) → ℕ
total [] = 0
total (c ∷ cs) = length c + total cs
