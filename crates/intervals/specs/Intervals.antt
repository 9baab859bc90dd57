-- Document 02, CR 6: "The comparison is to give one of five answers: same, holds, held, earlier, later. It says how the first interval lies to the second, tried in this order, earlier and later by the beginnings."
-- Document 01: "Interval p holds interval q when it begins no later and ends no earlier."
-- Assumes nothing: these are definitions.
use Rattle.std.specs.Prelude.{ℕ, ◌≤◌, ◌<◌, ◌≡◌, Bool, true, false, ◌&&◌, leb, ltb, eqb}
use Rattle.intervals.specs.declared.Interval.{Interval}
use Rattle.intervals.specs.declared.Relation.{Relation}
use Rattle.intervals.specs.declared.Relation.TheVariants.{Same, Holds, Held, Earlier, Later}

abbrev pub interval : ℕ → ℕ → Interval
interval begin end = record { begin = begin; end = end }

unfoldable pub same : Interval → Interval → Bool
same a b = eqb a.begin b.begin && eqb a.end b.end

-- a begins no later than b and ends no earlier
unfoldable pub encloses : Interval → Interval → Bool
encloses a b = leb a.begin b.begin && leb b.end a.end

-- how a lies to b, tried in this order
unfoldable pub compare : Interval → Interval → Relation
compare a b =
    elim (same a b) [
      | true ↦ Same
      | false ↦ elim (encloses a b) [
        | true ↦ Holds
        | false ↦ elim (encloses b a) [
          | true ↦ Held
          | false ↦ elim (ltb a.begin b.begin) [ true ↦ Earlier | false ↦ Later ]
        ]
      ]
    ]

-- ---- each answer by itself, whatever is tried before it

abbrev pub One : Interval → Interval → Type 0
One a b = (a.begin ≡ b.begin) × (a.end ≡ b.end)

abbrev pub Encloses : Interval → Interval → Type 0
Encloses a b = (a.begin ≤ b.begin) × (b.end ≤ a.end)

abbrev pub Lies : Relation → Interval → Interval → Type 0
Lies Same a b = One a b
Lies Holds a b = Encloses a b × (One a b → ⊥)
Lies Held a b = Encloses b a × (One a b → ⊥)
Lies Earlier a b = (Encloses a b → ⊥) × (Encloses b a → ⊥) × (a.begin < b.begin)
Lies Later a b = (Encloses a b → ⊥) × (Encloses b a → ⊥) × (b.begin < a.begin)
