-- Document 01: "Propagate (000, section 2.1). A visit drops a clause with a true literal; else it removes false literals. If none is left, the clause stands empty, the mark is set and the pass ends.
-- If one is left, its value is set and the clause dropped. It goes through the clauses again until one time through changes nothing."
-- The cursor is the number of clauses visited in this time through, and the flag says whether one of these visits changed something. Assumes nothing: these are definitions.
use Rattle.std.specs.Prelude.{ℕ, zero, suc, Bool, true, false, not, ◌||◌, List, [], ◌∷◌, length, ltb, ℤ}
use Rattle.base.specs.Lists.{any, filter}
use Rattle.tables.specs.Tables.{Tables, length_of}
use Rattle.tables.specs.Values.{is_true, is_false}
use Rattle.tables.specs.Fates.{Fate, kept, left, dropped, unit, conflict, store, fate_at}

-- ---- one clause

-- by the literals that are not false
abbrev pub remaining : List ℤ → Fate
remaining [] = conflict
remaining (l ∷ []) = unit l
remaining (l ∷ m ∷ ls) = left (l ∷ m ∷ ls)

abbrev pub not_false : List ℤ → List ℤ → List ℤ
not_false variables C = filter (λ l. not (is_false variables l)) C

unfoldable pub propagate_clause : List ℤ → List ℤ → Fate
propagate_clause variables C = elim (any (is_true variables) C) [ true ↦ dropped | false ↦ remaining (not_false variables C) ]

-- a visit that changes a clause of so many literals
abbrev pub changes : ℕ → Fate → Bool
changes size kept = false
changes size (left C) = ltb (length C) size
changes size dropped = true
changes size (unit l) = true
changes size conflict = true

-- ---- visits

-- the pass stands before clause `cursor`, with its flag; it has gone through the clauses with no change; or it has met the empty clause
pub data Progress : Type 0 where
  going : ℕ → Bool → Tables → Progress
  settled : Tables → Progress
  contradicted : Tables → Progress

-- after a visit to the last clause: again from the first if this time through changed something
abbrev pub onward : ℕ → ℕ → Bool → Tables → Progress
onward n k changed t = elim (ltb k n) [ true ↦ going k changed t | false ↦ elim changed [ true ↦ going 0 false t | false ↦ settled t ] ]

abbrev pub visited : ℕ → ℕ → Bool → Fate → Tables → Progress
visited n k changed conflict t = contradicted (store k conflict t)
visited n k changed kept t = onward n (suc k) changed t
visited n k changed dropped t = onward n (suc k) true (store k dropped t)
visited n k changed (unit l) t = onward n (suc k) true (store k (unit l) t)
visited n k changed (left C) t = onward n (suc k) (changed || changes (length_of t.clauses k) (left C)) (store k (left C) t)

-- one visit, of n clauses
unfoldable pub propagate_visit : ℕ → ℕ → Bool → Tables → Progress
propagate_visit n k changed t = visited n k changed (fate_at (propagate_clause t.variables) k t) t

-- the visits made, and where the pass then stands
pub record Reached : Type 0 where
  pub visits : ℕ
  pub progress : Progress

abbrev pub reached : ℕ → Progress → Reached
reached visits progress = record { visits = visits; progress = progress }

-- as many visits as the number says, or as the pass has left, with `made` visits made before
unfoldable pub propagate_visits : ℕ → ℕ → ℕ → Progress → Reached
propagate_visits n zero made p = reached made p
propagate_visits n (suc m) made (going k changed t) = propagate_visits n m (suc made) (propagate_visit n k changed t)
propagate_visits n (suc m) made (settled t) = reached made (settled t)
propagate_visits n (suc m) made (contradicted t) = reached made (contradicted t)

-- with no clause there is no visit
abbrev pub begin : ℕ → Tables → Progress
begin zero t = settled t
begin (suc n) t = going 0 false t
