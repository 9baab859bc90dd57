-- The pass over the clause records, with the last start and the largest end so far. Assumes nothing.
use Prim.Native.Nat.{ℕ, ◌+◌, ◌≤◌, ◌<◌}
use native.Mathlib.Omega.{arith}
use mathlib.Core.Path.{◌≡◌, refl}
use mathlib.Core.Logic.{inl, inr}
use mathlib.Core.List.{List}
use borrow.Author.Count.{below_more}
use Rattle.base.specs.Decide.{zero_or}
use Rattle.tables.specs.Tables.{start_of, length_of, standing}
use Rattle.shape.specs.Shape.{Parts}
use Rattle.shape.specs.Row.{Row}

-- the first i records are right; none starts above floor and none that has places ends above end; both bounds are met, or 0
pub record Rows (clauses : List ℕ) (i floor end : ℕ) : Type 0 where
  pub so_far : Parts i clauses
  pub floor_over : (j : ℕ) → j < i → start_of clauses j ≤ floor
  pub floor_met : (0 < floor) → (j : ℕ) × (j < i) × (floor ≡ start_of clauses j)
  pub end_over : (j : ℕ) → j < i → 0 < length_of clauses j → start_of clauses j + length_of clauses j ≤ end
  pub end_met : (0 < end) → (j : ℕ) × (j < i) × (0 < length_of clauses j) × (end ≡ start_of clauses j + length_of clauses j)

module _ (clauses : List ℕ) (i floor end : ℕ) (R : Rows clauses i floor end) where
  -- record i of a right table is a right row after those before it
  pub row_must : (n : ℕ) → i < n → Parts n clauses → Row (start_of clauses i) (length_of clauses i) (standing clauses i) floor end
  row_must n lt P = record {
    flagged = P.flag i lt;
    dropped = P.dropped i lt;
    inside = P.inside i lt;
    rising = elim (zero_or floor) [
      | inl z ↦ omega arith
      | inr h ↦ let m = R.floor_met h in omega (arith, m.2, P.rising i lt m.0 m.1)
    ];
    apart = λ has. elim (zero_or end) [
      | inl z ↦ omega arith
      | inr h ↦ let m = R.end_met h in omega (arith, m.3, P.apart i lt m.0 m.1 m.2 has)
    ];
  }

  module _ (W : Row (start_of clauses i) (length_of clauses i) (standing clauses i) floor end) where
    next_parts : Parts (i + 1) clauses
    next_parts = record {
      flag = below_more _ i R.so_far.flag W.flagged;
      dropped = below_more _ i R.so_far.dropped W.dropped;
      inside = below_more _ i R.so_far.inside W.inside;
      rising = below_more _ i R.so_far.rising (λ j l. omega (arith, R.floor_over j l, W.rising));
      apart = below_more _ i R.so_far.apart (λ j l a b. omega (arith, R.end_over j l a, W.apart b));
    }

    -- the next start is the floor
    next_floor : (j : ℕ) → j < i + 1 → start_of clauses j ≤ start_of clauses i
    next_floor = below_more _ i (λ j l. omega (arith, R.floor_over j l, W.rising)) (omega arith)

    pub rows_empty : length_of clauses i ≡ 0 → Rows clauses (i + 1) (start_of clauses i) end
    rows_empty z = record {
      so_far = next_parts;
      floor_over = next_floor;
      floor_met = λ h. (i, omega arith, refl);
      end_over = below_more _ i R.end_over (λ h. absurd (omega arith));
      end_met = λ h. let m = R.end_met h in (m.0, omega (arith, m.1), m.2, m.3);
    }

    pub rows_next : (length_of clauses i ≡ 0 → ⊥) → Rows clauses (i + 1) (start_of clauses i) (start_of clauses i + length_of clauses i)
    rows_next h = record {
      so_far = next_parts;
      floor_over = next_floor;
      floor_met = λ _. (i, omega arith, refl);
      end_over = below_more _ i (λ j l a. omega (arith, R.end_over j l a, W.apart (omega arith))) (λ _. omega arith);
      end_met = λ _. (i, omega arith, omega arith, refl);
    }
