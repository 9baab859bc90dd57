-- What the functions of a visit ask of the tables, and say to each other. Assumes nothing: these are definitions.
use Rattle.std.specs.Prelude.{ℕ, ◌≤◌, false, List, map, ℤ}
use Rattle.literal.specs.Clauses.{distinct}
use Rattle.tables.specs.Values.{class_literal}
use Rattle.visits.specs.Formed.{Formed}

-- the clause with class literals in and repeats out
abbrev pub substituted : List ℤ → List ℤ → List ℤ
substituted variables C = distinct (map (class_literal variables) C)

-- tables without the mark, of which a Merge has visited the clauses before k and can visit those up to `end`
pub record Mergeable (k end : ℕ) (clauses : List ℕ) (literals variables : List ℤ) : Type 0 where
  pub vars : ℕ
  pub number : ℕ
  pub formed : Formed vars number k false clauses literals variables
  pub onward : k ≤ end
  pub within : end ≤ number
