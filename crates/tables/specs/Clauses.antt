-- Document 01: "Its literals are a part of the literal table". The clauses that the tables hold: as literals, as slots, and how many stand.
-- Assumes nothing: these are definitions.
use Rattle.std.specs.Prelude.{ℕ, zero, suc, ◌+◌, ◌*◌, ◌-◌, List, [], ◌∷◌, map, take, drop, ℤ}
use Rattle.literal.specs.Literals.{slot_of}
use Rattle.state.specs.declared.Counts.{Counts}
use Rattle.tables.specs.Tables.{start_of, length_of}

-- the literals of the clause with record i; a dropped clause has none, since its length is 0
abbrev pub literals_of : List ℕ → List ℤ → ℕ → List ℤ
literals_of clauses literals i = take (length_of clauses i) (drop (start_of clauses i) literals)

-- their slots
unfoldable pub slots_at : List ℕ → List ℤ → ℕ → List ℕ
slots_at clauses literals i = map slot_of (literals_of clauses literals i)

-- the slots of m clauses from record i on: what the implication graph is made of
unfoldable pub slots_from : List ℕ → List ℤ → ℕ → ℕ → List (List ℕ)
slots_from clauses literals zero i = []
slots_from clauses literals (suc m) i = slots_at clauses literals i ∷ slots_from clauses literals m (suc i)

-- ---- counts, by the records (start, length, standing)

-- how many clauses stand
unfoldable pub standing_count : List ℕ → ℕ
standing_count [] = 0
standing_count (_ ∷ []) = 0
standing_count (_ ∷ _ ∷ []) = 0
standing_count (_ ∷ _ ∷ flag ∷ rs) = elim flag [ zero ↦ standing_count rs | suc _ ↦ suc (standing_count rs) ]

-- how many literals stand in them
unfoldable pub literal_count : List ℕ → ℕ
literal_count [] = 0
literal_count (_ ∷ []) = 0
literal_count (_ ∷ _ ∷ []) = 0
literal_count (_ ∷ size ∷ flag ∷ rs) = elim flag [ zero ↦ literal_count rs | suc _ ↦ size + literal_count rs ]

-- "with it come the visits made, the clauses gone and the literals gone (standing before minus standing after)", of the first n clauses
abbrev pub gone : ℕ → ℕ → List ℕ → List ℕ → Counts
gone visits n before after =
    record {
      visits = visits;
      clauses = standing_count (take (3 * n) before) - standing_count (take (3 * n) after);
      literals = literal_count (take (3 * n) before) - literal_count (take (3 * n) after);
    }
