-- The clauses of the tables, counted from 0: the literals of clause i, and whether it stands (1) or is dropped (0). Assumes nothing: these are definitions.
use Rattle.std.specs.Prelude.{ℕ, List, ℤ}
use Rattle.tables.specs.Tables.{Tables, standing}
use Rattle.tables.specs.Clauses.{literals_of}

abbrev pub clause_at : Tables → ℕ → List ℤ
clause_at t i = literals_of t.clauses t.literals i

abbrev pub flag_at : Tables → ℕ → ℕ
flag_at t i = standing t.clauses i
