-- What listing the edges of the two-literal clauses asks of the tables, and what building their graph asks of the columns.
-- Assumes nothing: these are definitions.
use Rattle.std.specs.Prelude.{ℕ, ◌+◌, ◌*◌, ◌≤◌, ◌<◌, ◌≡◌, List, length, get_or, ℤ, pos}
use Rattle.literal.specs.Literals.{Literal}
use Rattle.tables.specs.Tables.{start_of, length_of}

-- the first n clauses lie in the tables, and their literals are of the variables 1 to v
pub record ClausesInside (v n : ℕ) (clauses : List ℕ) (literals : List ℤ) : Type 0 where
  pub few : v ≤ 1024
  pub number : n ≤ 4096
  pub table : 3 * n ≤ length clauses
  pub parts : (i : ℕ) → i < n → start_of clauses i + length_of clauses i ≤ length literals
  pub each : (i : ℕ) → i < n → (j : ℕ) → j < length_of clauses i → Literal v (get_or literals (start_of clauses i + j) (pos 0))

-- n clauses over v variables, and columns with room for their edges and slots
pub record EdgeRoom (v n : ℕ) (clauses : List ℕ) (literals : List ℤ) (from to offsets targets : List ℕ) : Type 0 where
  pub listed : ClausesInside v n clauses literals
  pub froms : 2 * n ≤ length from
  pub tos : 2 * n ≤ length to
  pub heads : 2 * n ≤ length targets
  pub marks : length offsets ≡ 2 * v + 1
