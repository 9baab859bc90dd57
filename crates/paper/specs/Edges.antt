-- Document 01: "The graph of the standing two-literal clauses: (a ∨ b) gives the edges −a → b and −b → a." On the literals of the first n clauses in the tables.
-- Assumes nothing: these are definitions.
use Rattle.std.specs.Prelude.{ℕ, ◌<◌, ◌≡◌, [], ◌∷◌, ℤ, neg_ℤ}
use Rattle.tables.specs.Tables.{Tables}
use Rattle.paper.specs.Clauses.{clause_at, flag_at}

-- (a ∨ b) is a standing clause
pub record Pair (t : Tables) (n : ℕ) (a b : ℤ) : Type 0 where
  pub clause : ℕ
  pub within : clause < n
  pub stands : flag_at t clause ≡ 1
  pub literals : clause_at t clause ≡ a ∷ b ∷ []

-- p → q is one of the two edges of (a ∨ b)
pub data EdgeOf (a b p q : ℤ) : Type 0 where
  first : p ≡ neg_ℤ a → q ≡ b → EdgeOf a b p q
  second : p ≡ neg_ℤ b → q ≡ a → EdgeOf a b p q

-- p → q is an edge of the graph
pub record Edge (t : Tables) (n : ℕ) (p q : ℤ) : Type 0 where
  pub a : ℤ
  pub b : ℤ
  pub pair : Pair t n a b
  pub edge : EdgeOf a b p q
