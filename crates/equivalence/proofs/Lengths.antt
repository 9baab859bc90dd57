-- Under the shape rule no text that Write gives has more than 135,184 bytes: a variable has a unit or class clauses but not both, since only one that is its own class has a unit, and the parts of the clauses do not overlap. Assumes nothing.
use Prim.Native.Nat.{ℕ, zero, suc, ◌+◌, ◌*◌, ◌≤◌, ◌<◌}
use native.Mathlib.Omega.{arith}
use mathlib.Core.Path.{◌≡◌, refl, sym, ap, subst}
use mathlib.Core.Bool.{Bool, true, false}
use mathlib.Core.List.{List, [], ◌∷◌, ◌++◌}
use lib.ListN.{length, length-append}
use lib.IntN.{ℤ, pos, neg_ℤ}
use Rattle.literal.specs.Literals.{eq_z}
use Rattle.state.specs.declared.State.{State}
use Rattle.tables.specs.Tables.{Tables, class_of, value_of}
use Rattle.shape.specs.Shape.{Shape}
use Rattle.printing.specs.Printing.{clauses_text, header_text}
use Rattle.literal.specs.Ranged.{total}
use Rattle.literal.proofs.Ranged.{total_append}
use Rattle.write.specs.Write.{written_clauses, write_text}
use Rattle.write.specs.Gathered.{gathered, own_value, unit_for, class_for, unit_at, class_at, written_at, formula}
use Rattle.write.proofs.Gathering.{header_then}
use Rattle.write.proofs.Bounds.{clauses_short, unit_one, ready, header_short, standing_count, standing_total}
use Rattle.write.proofs.Text.{formula_below, written_marked, written_unmarked}
use Rattle.roundtrip.proofs.Written.{written_in}
use Rattle.equivalence.specs.Returns.{longest}

-- bytes that are enough for clauses: 6 for a literal, with its sign and its space, and 2 for the end of a clause
unfoldable room : List (List ℤ) → ℕ
room cs = 6 * total cs + 2 * length cs

room_append : (xs ys : List (List ℤ)) → room (xs ++ ys) ≡ room xs + room ys
unfolding room
room_append xs ys = omega (arith, total_append xs ys, length-append xs ys)

-- ---- one variable: its unit or its class clauses, never both

variable_room : (w : ℕ) (class value : ℤ) → room (unit_for w (own_value w class value)) + room (class_for w class) ≤ 28
unfolding room total
variable_room w class value = go (eq_z class (pos w))
  where
    two : List (List ℤ)
    two = (pos w ∷ neg_ℤ class ∷ []) ∷ (neg_ℤ (pos w) ∷ class ∷ []) ∷ []

    go : (own : Bool) → room (unit_for w (elim own [ true ↦ value | false ↦ pos 0 ])) + room (elim own [ true ↦ [] | false ↦ two ]) ≤ 28
    go true = omega (arith, (unit_one w value).0, (unit_one w value).1)
    go false = omega arith

-- ---- all records

module _ (f g : ℕ → List (List ℤ)) (n : ℕ) (each : (k : ℕ) → k < n → room (f k) + room (g k) ≤ 28) where
  records_room : (m i : ℕ) → i + m ≤ n → room (gathered f m i) + room (gathered g m i) ≤ 28 * m
  unfolding gathered room total
  records_room zero i h = omega arith
  records_room (suc m) i h = omega (arith, each i (omega arith), records_room m (suc i) (omega arith), room_append (f i) (gathered f m (suc i)), room_append (g i) (gathered g m (suc i)))

module _ (t : Tables) (st : State) (S : Shape t st) where
  abbrev units : List (List ℤ)
  units = gathered (unit_at t.variables) st.v 0

  abbrev classes : List (List ℤ)
  classes = gathered (class_at t.variables) st.v 0

  abbrev clauses : List (List ℤ)
  clauses = gathered (written_at t.clauses t.literals) st.n 0

  variables_room : room units + room classes ≤ 28 * st.v
  variables_room = records_room (unit_at t.variables) (class_at t.variables) st.v
      (λ w h. variable_room (w + 1) (class_of t.variables (w + 1)) (value_of t.variables (w + 1))) st.v 0 (omega arith)

  clauses_room : room clauses ≤ 106496
  unfolding room
  clauses_room = omega (arith, standing_total t.clauses t.literals t.variables st.v st.n (ready t st S), standing_count t.clauses t.literals st.n, S.n_limit)

  -- ---- the clauses that Write gives

  formula_room : room (formula t.clauses t.literals t.variables st.v st.n) ≤ 135168
  formula_room = omega (arith, variables_room, clauses_room, S.v_limit, room_append units (classes ++ clauses), room_append classes clauses)

  record Sized (cs : List (List ℤ)) : Type 0 where
    few : length cs < 10000
    small : room cs ≤ 135168

  written_sized : Sized (written_clauses t st)
  unfolding room total
  written_sized = go st.mark refl
    where
      go : (b : Bool) → st.mark ≡ b → Sized (written_clauses t st)
      go true e = subst Sized (sym (written_marked t st e)) (record { few = omega arith; small = omega arith })
      go false e = subst Sized (sym (written_unmarked t st e (ready t st S)))
          (record { few = formula_below t.clauses t.literals t.variables st.v st.n (ready t st S); small = formula_room })

  pub written_length : length (write_text t st) ≤ longest
  unfolding write_text room
  written_length =
      omega (
        arith,
        ap length (header_then st.v (written_clauses t st)),
        length-append (header_text st.v (length (written_clauses t st))) (clauses_text (written_clauses t st)),
        header_short t.clauses t.literals t.variables st.v st.n (ready t st S) (length (written_clauses t st)) written_sized.few,
        clauses_short st.v (written_clauses t st) S.v_limit (written_in t st S),
        written_sized.small,
      )
