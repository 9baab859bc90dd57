-- Formulas over slots, what satisfies them, and their implication graph. The slot of a literal is its record's number: 2v - 2 for v, 2v - 1 for -v.
-- Assumes nothing: these are definitions.
use Rattle.std.specs.Prelude.{ℕ, ◌*◌, ◌≡◌, Bool, true}
use mathlib.Core.List.{List, [], map, Memᴰ}
use Rattle.literal.specs.Literals.{lit_at}
use Rattle.literal.specs.Assignments.{Assignment, true_under}
use Rattle.walk.specs.Walk.{Stamps}
use Rattle.implications.specs.Clauses.{implications}
use Rattle.stamp.specs.Stamp.{stamps_of}

pub data Clause : Type 0 where
  dropped : Clause
  standing : List ℕ → Clause

-- the literals that stand in it
unfoldable pub literals_in : Clause → List ℕ
literals_in dropped = []
literals_in (standing C) = C

-- the truth of the literal with slot s under an assignment of the variables
unfoldable pub value : Assignment → ℕ → Bool
value τ s = true_under τ (lit_at s)

abbrev pub True : Assignment → ℕ → Type 0
True τ s = value τ s ≡ true

-- some literal of the clause is true
abbrev pub Sat : Assignment → List ℕ → Type 0
Sat τ C = (l : ℕ) × Memᴰ l C × True τ l

-- an assignment satisfies a formula: every standing clause has a true literal
abbrev pub Models : Assignment → List Clause → Type 0
Models τ f = (C : List ℕ) → Memᴰ (standing C) f → Sat τ C

-- the implication graph of the standing clauses of two literals, as the walk takes it
unfoldable pub graph : List Clause → ℕ → List ℕ
graph f s = implications (map literals_in f) s

-- the stamps that Stamp gives the formula, under an order of its literals
abbrev pub formula_stamps : ℕ → List ℕ → List Clause → Stamps
formula_stamps vars order f = stamps_of (map literals_in f) (2 * vars) order
