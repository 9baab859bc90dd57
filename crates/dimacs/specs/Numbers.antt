-- The numbers that a load keeps of a body: the literals as they come, and 0 at the end of each clause. Assumes nothing: these are definitions.
use Rattle.std.specs.Prelude.{ℕ, zero, suc, ◌≡◌, true, false, List, [], ◌∷◌, length, drop, ℤ, pos, Result, Ok, Err}
use Rattle.literal.specs.Literals.{eq_z}
use Rattle.dimacs.specs.Words.{Word}
use Rattle.dimacs.specs.Tokens.{bad, nought, literal, meaning}
use Rattle.dimacs.specs.Text.{literal_of}
use Rattle.dimacs.specs.Header.{fitting}
use Rattle.dimacs.specs.declared.Header.{Header}
use Rattle.state.specs.declared.Refusal.{Refusal}

-- the numbers that the words spell
unfoldable pub word_numbers : List Word → List ℤ
word_numbers [] = []
word_numbers (w ∷ ws) =
    elim (meaning w.bytes) [
      | bad ↦ []
      | nought ↦ pos 0 ∷ word_numbers ws
      | literal negative n ↦ literal_of negative n ∷ word_numbers ws
    ]

-- the numbers in front of the first 0
abbrev pub first_clause : List ℤ → List ℤ
first_clause [] = []
first_clause (x ∷ xs) = elim (eq_z x (pos 0)) [ true ↦ [] | false ↦ x ∷ first_clause xs ]

-- the first n clauses in the numbers
unfoldable pub clauses_in : ℕ → List ℤ → List (List ℤ)
clauses_in zero ns = []
clauses_in (suc n) ns = first_clause ns ∷ clauses_in n (drop (suc (length (first_clause ns))) ns)

-- the clauses in the numbers that were kept of a text with this verdict
abbrev pub clauses_kept : Result Header Refusal → List ℤ → List (List ℤ)
clauses_kept (Err r) ns = []
clauses_kept (Ok h) ns = clauses_in h.n ns

-- a formula of the clauses cs was judged: the verdict is r, and where it fits its clauses are kept in the numbers
pub record Judged (verdict : Result Header Refusal) (cs : List (List ℤ)) (r : Result Header Refusal) (numbers : List ℤ) : Type 0 where
  pub is : r ≡ verdict
  pub kept : (v n body : ℕ) → r ≡ fitting v n body → clauses_in n numbers ≡ cs
