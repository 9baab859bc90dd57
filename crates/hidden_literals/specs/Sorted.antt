-- What a search among the slots that figure 5 leaves asks of them. Assumes nothing: these are definitions.
use Rattle.std.specs.Prelude.{ℕ, ◌≤◌, ◌<◌, ◌≡◌, List, [], length, get_or, ℤ, pos, neg_ℤ}
use Rattle.literal.specs.Literals.{slot_of}
use Rattle.walk.specs.Forest.{discovery_at}
use Rattle.stamp_columns.specs.Slots.{Slots}
use Rattle.stamp_columns.specs.Columns.{columns}
use Rattle.clause_slots.specs.Stamped.{Lits}

-- discoveries never fall along the list, and one that is discovered with s is s
pub record Searched (times xs : List ℕ) (s : ℕ) : Type 0 where
  pub rises : (j k : ℕ) → j < k → k < length xs → discovery_at (columns times []) (get_or xs j 0) ≤ discovery_at (columns times []) (get_or xs k 0)
  pub alone : (k : ℕ) → k < length xs → discovery_at (columns times []) (get_or xs k 0) ≡ discovery_at (columns times []) s → get_or xs k 0 ≡ s

-- slots that can be searched for the complement of any literal of C
pub record Sorted (times xs : List ℕ) (C : List ℤ) : Type 0 where
  pub slots : Slots times xs
  pub long : 4096 ≤ length times
  pub lits : Lits C
  pub searched : (k : ℕ) → k < length C → Searched times xs (slot_of (neg_ℤ (get_or C k (pos 0))))
