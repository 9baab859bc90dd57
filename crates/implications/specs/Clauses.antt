-- The edges of the two-literal clauses (the binary implication graph), on slots: (a ∨ b) gives twin a → b, then twin b → a, in clause order.
-- Assumes nothing: these are definitions.
use Rattle.std.specs.Prelude.{ℕ, ◌/◌, ◌≡◌}
use mathlib.Core.List.{List, [], ◌∷◌, ◌++◌, Memᴰ}
use Rattle.literal.specs.Literals.{twin}
use Rattle.implications.specs.Edges.{outs}

-- where the edges of a clause come from, and where they go
abbrev pub clause_froms : List ℕ → List ℕ
clause_froms [] = []
clause_froms (a ∷ []) = []
clause_froms (a ∷ b ∷ []) = twin a ∷ twin b ∷ []
clause_froms (a ∷ b ∷ c ∷ ls) = []

abbrev pub clause_tos : List ℕ → List ℕ
clause_tos [] = []
clause_tos (a ∷ []) = []
clause_tos (a ∷ b ∷ []) = b ∷ a ∷ []
clause_tos (a ∷ b ∷ c ∷ ls) = []

unfoldable pub froms : List (List ℕ) → List ℕ
froms [] = []
froms (c ∷ cs) = clause_froms c ++ froms cs

unfoldable pub tos : List (List ℕ) → List ℕ
tos [] = []
tos (c ∷ cs) = clause_tos c ++ tos cs

-- the graph: a slot's edges in clause order
abbrev pub implications : List (List ℕ) → ℕ → List ℕ
implications cs s = outs (froms cs) (tos cs) s

-- no variable stands twice in a clause: slots 2v and 2v + 1 are the two literals of a variable
pub data Once : List ℕ → Type 0 where
  empty : Once []
  more : {l : ℕ} {ls : List ℕ} → ((k : ℕ) → Memᴰ k ls → k / 2 ≡ l / 2 → ⊥) → Once ls → Once (l ∷ ls)
