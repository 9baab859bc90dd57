-- Document 01: "The caller lends the tables: 4,096 clause records (start, length, standing or dropped), 16,384 literals, 1,024 variable records (class, value), 2,048 stamp records. ..
-- Clause i, variable v and literals v, −v have records i − 1, v − 1, 2v − 2 and 2v − 1."
-- A table is a list of numbers with a fixed stride; what the caller lends beyond the stated number of records is never read or written. Clauses are counted from 0 here: clause i + 1 of document 01 has record i.
-- Stamp records are two lists: discovery and finish in `times`, parent and start (literals) in `links`. Assumes nothing: these are definitions.
use Rattle.std.specs.Prelude.{ℕ, ◌+◌, ◌*◌, ◌-◌, List, get_or, ℤ, pos, nat_abs}

pub record Tables : Type 0 where
  pub clauses : List ℕ
  pub literals : List ℤ
  pub variables : List ℤ
  pub times : List ℕ
  pub links : List ℤ

abbrev pub tables : List ℕ → List ℤ → List ℤ → List ℕ → List ℤ → Tables
tables c l v t k = record { clauses = c; literals = l; variables = v; times = t; links = k }

-- the tables with other variable records
abbrev pub with_variables : List ℤ → Tables → Tables
with_variables variables t = tables t.clauses t.literals variables t.times t.links

-- clause record i: where its literals start, how many they are, and whether it stands (1) or is dropped (0)
abbrev pub start_of : List ℕ → ℕ → ℕ
start_of clauses i = get_or clauses (3 * i) 0

abbrev pub length_of : List ℕ → ℕ → ℕ
length_of clauses i = get_or clauses (3 * i + 1) 0

abbrev pub standing : List ℕ → ℕ → ℕ
standing clauses i = get_or clauses (3 * i + 2) 0

-- the variable of the literal at a place
abbrev pub variable_at : List ℤ → ℕ → ℕ
variable_at literals p = nat_abs (get_or literals p (pos 0))

-- variable w: its class, a literal, and its value
abbrev pub class_of : List ℤ → ℕ → ℤ
class_of variables w = get_or variables (2 * w - 2) (pos 0)

abbrev pub value_of : List ℤ → ℕ → ℤ
value_of variables w = get_or variables (2 * w - 1) (pos 0)
