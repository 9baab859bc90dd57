-- Document 01: "a shortened clause keeps the others in their old order at the front of that part. A dropped clause keeps its start and has length 0. Literal places that a clause gives up become 0".
-- What a visit finds for a clause is data, and one function stores it. Assumes nothing: these are definitions.
use Rattle.std.specs.Prelude.{ℕ, zero, suc, ◌+◌, ◌*◌, ◌-◌, List, [], ◌++◌, length, take, drop, replicate, set, ℤ, pos}
use Rattle.tables.specs.Tables.{Tables, tables, start_of, length_of, standing}
use Rattle.tables.specs.Values.{set_true}
use Rattle.tables.specs.Clauses.{literals_of}

pub data Fate : Type 0 where
  -- nothing changes
  kept : Fate
  -- these literals stay
  left : List ℤ → Fate
  -- the clause is dropped
  dropped : Fate
  -- the clause is dropped, and the one literal that was left is made true
  unit : ℤ → Fate
  -- no literal is left: the clause stands empty
  conflict : Fate

-- a part of the literal table that now holds C, with 0 behind
abbrev pub put_part : ℕ → ℕ → List ℤ → List ℤ → List ℤ
put_part start size C literals = take start literals ++ ((C ++ replicate (size - length C) (pos 0)) ++ drop (start + size) literals)

-- clause i holds C
unfoldable pub shortened : ℕ → List ℤ → Tables → Tables
shortened i C t =
    tables (set t.clauses (3 * i + 1) (length C)) (put_part (start_of t.clauses i) (length_of t.clauses i) C t.literals) t.variables t.times t.links

-- clause i is dropped, and the variable table is as given
unfoldable pub dropped_at : ℕ → List ℤ → Tables → Tables
dropped_at i variables t =
    tables (set (set t.clauses (3 * i + 1) 0) (3 * i + 2) 0) (put_part (start_of t.clauses i) (length_of t.clauses i) [] t.literals) variables t.times t.links

abbrev pub store : ℕ → Fate → Tables → Tables
store i kept t = t
store i (left C) t = shortened i C t
store i dropped t = dropped_at i t.variables t
store i (unit l) t = dropped_at i (set_true t.variables l) t
store i conflict t = shortened i [] t

-- ---- visits: a rule gives the fate of a standing clause from its literals

-- the fate of clause i: a dropped clause stays as it is
unfoldable pub fate_at : (List ℤ → Fate) → ℕ → Tables → Fate
fate_at rule i t = elim (standing t.clauses i) [ zero ↦ kept | suc _ ↦ rule (literals_of t.clauses t.literals i) ]

abbrev pub visit : (List ℤ → Fate) → ℕ → Tables → Tables
visit rule i t = store i (fate_at rule i t) t

-- m visits from clause k on, "in rising number, one visit per number, dropped ones included"
unfoldable pub visits : (List ℤ → Fate) → ℕ → ℕ → Tables → Tables
visits rule zero k t = t
visits rule (suc m) k t = visits rule m (suc k) (visit rule k t)
