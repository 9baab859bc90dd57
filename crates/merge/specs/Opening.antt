-- What Merge's opening leaves in the variable table, and what putting the new classes in asks.
-- Assumes nothing: these are definitions.
use Rattle.std.specs.Prelude.{ℕ, ◌+◌, ◌*◌, ◌≤◌, ◌<◌, ◌≡◌, Bool, true, false, List, length, get_or, ℤ}
use Rattle.literal.specs.Literals.{Literal, slot_of, lit_at}
use Rattle.tables.specs.Tables.{class_of}
use Rattle.merge.specs.Merge.{representative, regrouped}

-- the variable table after the opening: as it was if v and −v share a group, else with the new classes
abbrev pub opened_classes : Bool → (ℕ → List ℕ) → ℕ → List ℤ → List ℤ
opened_classes true adj v variables = variables
opened_classes false adj v variables = regrouped (representative adj v) v variables

-- the literal that the list of representatives, slot by slot, gives for l
abbrev pub through : List ℕ → ℤ → ℤ
through rep l = lit_at (get_or rep (slot_of l) 0)

-- a representative for each slot of v variables, and a class of them for each variable
pub record Regroups (v : ℕ) (rep : List ℕ) (variables : List ℤ) : Type 0 where
  pub few : v ≤ 1024
  pub slots : length rep ≡ 2 * v
  pub below : (s : ℕ) → s < 2 * v → get_or rep s 0 < 2 * v
  pub room : 2 * v ≤ length variables
  pub classes : (w : ℕ) → w < v → Literal v (class_of variables (w + 1))
