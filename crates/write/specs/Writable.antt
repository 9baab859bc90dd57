-- Formulas whose text a load accepts. Assumes nothing: this is a definition.
use Rattle.std.specs.Prelude.{ℕ, ◌≤◌, List, length, ℤ}
use Rattle.literal.specs.Ranged.{InClauses, total}

pub record Writable (v : ℕ) (cs : List (List ℤ)) : Type 0 where
  pub variables : v ≤ 1024
  pub clauses : length cs ≤ 4096
  pub literals : total cs ≤ 16384
  pub each : InClauses v cs
