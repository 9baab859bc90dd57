-- For the reader: what the clause records' rule means in places of the literal table, and what a caller gets from the answer. Assumes nothing.
use Prim.Native.Nat.{ℕ, ◌+◌, ◌≤◌, ◌<◌}
use native.Mathlib.Decide.{dec_le}
use native.Mathlib.Omega.{arith}
use mathlib.Core.Path.{◌≡◌}
use mathlib.Core.Bool.{true}
use mathlib.Core.List.{List}
use Rattle.tables.specs.Tables.{Tables, start_of, length_of}
use Rattle.shape.specs.Shape.{Parts, Shape}
use Rattle.shape.specs.Decision.{shape_ok, shape_exact}
use Rattle.state.specs.declared.State.{State}

-- place p is one of record i's
abbrev pub InPart : List ℕ → ℕ → ℕ → Type 0
InPart clauses i p = (start_of clauses i ≤ p) × (p < start_of clauses i + length_of clauses i)

-- no place is in two parts
pub parts_disjoint : {n : ℕ} {clauses : List ℕ} → Parts n clauses → (j : ℕ) → j < n → (i : ℕ) → i < j → (p : ℕ) → InPart clauses i p → InPart clauses j p → ⊥
parts_disjoint P j lj i li p a b = omega (arith, P.apart j lj i li (omega (arith, a.0, a.1)) (omega (arith, b.0, b.1)), a.1, b.0)

-- and with rising starts that is all that `apart` says
pub disjoint_apart : (clauses : List ℕ) (i j : ℕ) → start_of clauses i ≤ start_of clauses j → ((p : ℕ) → InPart clauses i p → InPart clauses j p → ⊥)
    → 0 < length_of clauses i → 0 < length_of clauses j → start_of clauses i + length_of clauses i ≤ start_of clauses j
disjoint_apart clauses i j rise none a b =
    elim (dec_le (start_of clauses i + length_of clauses i) (start_of clauses j)) [
      | yes h ↦ h
      | no h ↦ absurd (none (start_of clauses j) (rise, omega arith) (omega arith, omega arith))
    ]

-- where refusal 1 is not given, the rule holds
pub shaped : (t : Tables) (st : State) → shape_ok t st ≡ true → Shape t st
shaped t st = (shape_exact t st).holds
