-- What the tables hold, over slots: the tie between the tables and the moves of crate moves. Assumes nothing: these are definitions.
use Rattle.std.specs.Prelude.{ℕ, zero, suc, ◌*◌, ◌≤◌, ◌<◌, ◌≡◌, Bool, true, false, List, [], ◌∷◌, map, length, get_or, ltb, ℤ}
use Rattle.literal.specs.Literals.{slot_of, lit_at}
use Rattle.tables.specs.Tables.{Tables, standing as flagOf}
use Rattle.tables.specs.Values.{class_literal, is_true}
use Rattle.tables.specs.Clauses.{literals_of}
use Rattle.sound.specs.Formula.{Clause, dropped, standing}
use Rattle.moves.specs.Core.{Core}

-- the clause with record i, on slots
unfoldable pub clause_of : List ℕ → List ℤ → ℕ → Clause
clause_of c l i = elim (flagOf c i) [ zero ↦ dropped | suc _ ↦ standing (map slot_of (literals_of c l i)) ]

-- n clauses over v variables, and what stands over slots: the same clauses, classes, values and mark. A value is read at the class literal, so that it does not matter whether the values are spread
pub record Represented (v n : ℕ) (mark : Bool) (t : Tables) (k : Core) : Type 0 where
  pub number : length k.clauses ≡ n
  pub clauses : (i : ℕ) → i < n → get_or k.clauses i dropped ≡ clause_of t.clauses t.literals i
  pub classes : (s : ℕ) → s < 2 * v → k.class s ≡ slot_of (class_literal t.variables (lit_at s))
  pub facts : (s : ℕ) → s < 2 * v → k.facts s ≡ is_true t.variables (lit_at s)
  pub beyond : (s : ℕ) → 2 * v ≤ s → (k.class s ≡ s) × (k.facts s ≡ false)
  pub marks : k.mark ≡ mark

-- ---- what the tables hold, as a whole

-- m clauses from record i on
unfoldable pub core_clauses : List ℕ → List ℤ → ℕ → ℕ → List Clause
core_clauses c l zero i = []
core_clauses c l (suc m) i = clause_of c l i ∷ core_clauses c l m (suc i)

unfoldable pub core_of : ℕ → ℕ → Bool → Tables → Core
core_of v n mark t =
    record {
      clauses = core_clauses t.clauses t.literals n 0;
      class = λ s. elim (ltb s (2 * v)) [ true ↦ slot_of (class_literal t.variables (lit_at s)) | false ↦ s ];
      facts = λ s. elim (ltb s (2 * v)) [ true ↦ is_true t.variables (lit_at s) | false ↦ false ];
      mark = mark;
    }
