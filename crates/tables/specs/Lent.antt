-- The tables as a call is lent them and as it gives them back, for contracts. Assumes nothing: these are definitions.
-- A contract writes what each slice holds: `x.now` where x is lent for reading, `x.old` and `x.new` where it may be written, and a list that it names where the function is not lent that table.
use Rattle.std.specs.Prelude.{ℕ, List, ℤ}
use Rattle.tables.specs.Tables.{Tables, tables}

-- the tables that a `requires` speaks of
abbrev pub handed : List ℕ → List ℤ → List ℤ → List ℕ → List ℤ → Tables
handed clauses literals variables times links = tables clauses literals variables times links

-- the tables at entry
abbrev pub lent : List ℕ → List ℤ → List ℤ → List ℕ → List ℤ → Tables
lent clauses literals variables times links = tables clauses literals variables times links

-- the tables at exit
abbrev pub returned : List ℕ → List ℤ → List ℤ → List ℕ → List ℤ → Tables
returned clauses literals variables times links = tables clauses literals variables times links
