-- What writing needs of the tables: that no record or literal lies outside them, and that the text's length fits a machine word. The shape rule gives it (`ready` of proofs/Bounds.antt).
-- Assumes nothing: these are definitions.
use Rattle.std.specs.Prelude.{ℕ, ◌+◌, ◌*◌, ◌≤◌, ◌<◌, List, length, get_or, ℤ, pos}
use Rattle.literal.specs.Literals.{Literal}
use Rattle.tables.specs.Tables.{start_of, length_of, class_of}
use Rattle.shape.specs.Shape.{Parts}

-- the clauses: their records and parts lie in the tables, and no literal is beyond 1,024
pub record PrintableClauses (clauses : List ℕ) (literals : List ℤ) (n : ℕ) : Type 0 where
  pub n_limit : n ≤ 4096
  pub rows : 3 * n ≤ length clauses
  pub places : 16384 ≤ length literals
  pub parts : Parts n clauses
  pub ranged : (i : ℕ) → i < n → (k : ℕ) → k < length_of clauses i → Literal 1024 (get_or literals (start_of clauses i + k) (pos 0))

pub record Printable (clauses : List ℕ) (literals variables : List ℤ) (v n : ℕ) : Type 0 where
  pub v_limit : v ≤ 1024
  pub n_limit : n ≤ 4096
  pub rows : 3 * n ≤ length clauses
  pub places : 16384 ≤ length literals
  pub pairs : 2 * v ≤ length variables
  pub parts : Parts n clauses
  pub ranged : (i : ℕ) → i < n → (k : ℕ) → k < length_of clauses i → Literal v (get_or literals (start_of clauses i + k) (pos 0))
  pub classes : (w : ℕ) → w < v → Literal (w + 1) (class_of variables (w + 1))
