-- What the shape rule says of the clause, literal and variable tables alone, which is what the functions inside a pass ask and keep. Assumes nothing: these are definitions.
use Rattle.std.specs.Prelude.{ℕ, ◌+◌, ◌*◌, ◌≤◌, ◌<◌, ◌≡◌, Bool, true, List, length, get_or, ℤ, pos, nat_abs}
use Rattle.literal.specs.Literals.{Literal}
use Rattle.tables.specs.Tables.{length_of, class_of}
use Rattle.shape.specs.Shape.{Clauses, Variable}

-- the records of v variables
pub record Variables (v : ℕ) (variables : List ℤ) : Type 0 where
  pub few : v ≤ 1024
  pub room : 2048 ≤ length variables
  pub each : (w : ℕ) → w < v → Variable variables (w + 1)

-- n clauses over v variables, of which the first `settled` have only variables that are their own class
pub record Formed (v n settled : ℕ) (mark : Bool) (clauses : List ℕ) (literals variables : List ℤ) : Type 0 where
  pub number : n ≤ 4096
  pub records : 12288 ≤ length clauses
  pub places : 16384 ≤ length literals
  pub rule : Clauses v n settled mark clauses literals variables
  pub vars : Variables v variables

-- what the shape rule asks of the literals of one clause
pub record FitClause (v : ℕ) (variables : List ℤ) (settled : Bool) (C : List ℤ) : Type 0 where
  pub ranged : (k : ℕ) → k < length C → Literal v (get_or C k (pos 0))
  pub once : (k : ℕ) → k < length C → (j : ℕ) → j < k → nat_abs (get_or C j (pos 0)) ≡ nat_abs (get_or C k (pos 0)) → ⊥
  pub own : settled ≡ true → (k : ℕ) → k < length C → class_of variables (nat_abs (get_or C k (pos 0))) ≡ pos (nat_abs (get_or C k (pos 0)))

-- l is a literal of the variables whose records these are
pub record Known (variables : List ℤ) (l : ℤ) : Type 0 where
  pub count : ℕ
  pub rows : Variables count variables
  pub ranged : Literal count l

-- each literal of a list is one of the variables
pub record EachKnown (variables C : List ℤ) : Type 0 where
  pub each : (k : ℕ) → k < length C → Known variables (get_or C k (pos 0))

-- the records of n clauses are in the table, and their lengths are those of parts
pub record Counted (n : ℕ) (clauses : List ℕ) : Type 0 where
  pub number : n ≤ 4096
  pub records : 3 * n ≤ length clauses
  pub sizes : (i : ℕ) → i < n → length_of clauses i ≤ 16384
