-- The clauses that Write gives, as the loops meet them: what one record of a table gives, and what m records from record i on give. `written-unmarked` of proofs/Text.antt ties them to `written_clauses`.
-- Assumes nothing: these are definitions.
use Rattle.std.specs.Prelude.{ℕ, zero, suc, ◌+◌, true, false, List, [], ◌∷◌, ◌++◌, ℤ, pos, neg_ℤ, nat_abs}
use Rattle.std.specs.Int.Signed.{non_neg}
use Rattle.literal.specs.Literals.{eq_z, lit_by}
use Rattle.tables.specs.Tables.{standing, class_of, value_of}
use Rattle.tables.specs.Clauses.{literals_of}

unfoldable pub gathered : (ℕ → List (List ℤ)) → ℕ → ℕ → List (List ℤ)
gathered f zero i = []
gathered f (suc m) i = f i ++ gathered f m (suc i)

-- the value of variable w if it is its own class, 0 otherwise: only such a variable has a unit
abbrev pub own_value : ℕ → ℤ → ℤ → ℤ
own_value w class value = elim (eq_z class (pos w)) [ true ↦ value | false ↦ pos 0 ]

-- the unit of variable w, if it has a value
abbrev pub unit_for : ℕ → ℤ → List (List ℤ)
unit_for w value = elim (nat_abs value) [ zero ↦ [] | suc _ ↦ (lit_by (non_neg value) w ∷ []) ∷ [] ]

-- the two clauses of variable w, if its class is another literal
abbrev pub class_for : ℕ → ℤ → List (List ℤ)
class_for w class = elim (eq_z class (pos w)) [ true ↦ [] | false ↦ (pos w ∷ neg_ℤ class ∷ []) ∷ (neg_ℤ (pos w) ∷ class ∷ []) ∷ [] ]

-- a clause, if it stands
abbrev pub clause_for : ℕ → List ℤ → List (List ℤ)
clause_for flag literals = elim flag [ zero ↦ [] | suc _ ↦ literals ∷ [] ]

-- by record: variable i + 1 has record i
abbrev pub unit_at : List ℤ → ℕ → List (List ℤ)
unit_at variables i = unit_for (i + 1) (own_value (i + 1) (class_of variables (i + 1)) (value_of variables (i + 1)))

abbrev pub class_at : List ℤ → ℕ → List (List ℤ)
class_at variables i = class_for (i + 1) (class_of variables (i + 1))

abbrev pub written_at : List ℕ → List ℤ → ℕ → List (List ℤ)
written_at clauses literals i = clause_for (standing clauses i) (literals_of clauses literals i)

-- all clauses, where the mark is off
abbrev pub formula : List ℕ → List ℤ → List ℤ → ℕ → ℕ → List (List ℤ)
formula clauses literals variables v n = gathered (unit_at variables) v 0 ++ (gathered (class_at variables) v 0 ++ gathered (written_at clauses literals) n 0)
