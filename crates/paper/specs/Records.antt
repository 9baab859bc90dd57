-- The stamp records of the tables, by literal. Document 01: "literals v, −v have records .. 2v − 2 and 2v − 1"; "one record per literal: discovery, finish, parent, start".
-- Assumes nothing: these are definitions.
use Rattle.std.specs.Prelude.{ℕ, ◌≤◌, ℤ}
use Rattle.literal.specs.Literals.{slot_of}
use Rattle.stamps.specs.Fresh.{discovery_in, finish_in, parent_in, start_in}
use Rattle.tables.specs.Tables.{Tables}

abbrev pub discovered : Tables → ℤ → ℕ
discovered t p = discovery_in t.times (slot_of p)

abbrev pub finished : Tables → ℤ → ℕ
finished t p = finish_in t.times (slot_of p)

abbrev pub parent : Tables → ℤ → ℤ
parent t p = parent_in t.links (slot_of p)

abbrev pub start : Tables → ℤ → ℤ
start t p = start_in t.links (slot_of p)

-- "Interval p holds interval q when it begins no later and ends no earlier."
abbrev pub Holds : Tables → ℤ → ℤ → Type 0
Holds t p q = (discovered t p ≤ discovered t q) × (finished t q ≤ finished t p)

-- p is q, or the parent of q, or the parent of that, ..
pub data Ancestor (t : Tables) (p : ℤ) : ℤ → Type 0 where
  self : Ancestor t p p
  up : {q : ℤ} → Ancestor t p (parent t q) → Ancestor t p q
