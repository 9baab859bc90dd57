-- What the functions inside a load promise. Assumes nothing: these are definitions.
use Rattle.std.specs.Prelude.{◌≡◌, Bool, true, false, ◌||◌, List, ◌++◌, ℕ, ◌+◌, ◌*◌, ◌-◌, ◌<◌, ◌≤◌, eqb, length, take, drop, set, replicate, ℤ, Result}
use Rattle.literal.specs.Clauses.{distinct, tautology}
use Rattle.literal.specs.Ranged.{InClause, InClauses, total}
use Rattle.dimacs.specs.Numbers.{first_clause, clauses_in}
use Rattle.dimacs.specs.Text.{judge_text, text_clauses}
use Rattle.dimacs.specs.Header.{fitting}
use Rattle.dimacs.specs.declared.Header.{Header}
use Rattle.state.specs.declared.Refusal.{Refusal}
use Rattle.join.specs.Join.{judge_join, join_clauses}
use Rattle.load.specs.Load.{clause_records, literal_places, any_empty}
use Rattle.load.specs.declared.Written.{Written}
use Rattle.load.specs.declared.Progress.{Progress}
use Rattle.load.specs.declared.Source.{Source}
use Rattle.load.specs.declared.Source.TheVariants.{Text, Joined}

-- ---- one clause

-- the clause c: how many literals it has as written and without repeats, and whether it has v and −v
abbrev pub written : List ℤ → Written
written c = record { size = length c; kept = length (distinct c); both = tautology c }

-- a dropped clause takes no place
abbrev pub kept_size : Written → ℕ
kept_size c = elim c.both [ true ↦ 0 | false ↦ c.kept ]

abbrev pub flag : Bool → ℕ
flag dropped = elim dropped [ true ↦ 0 | false ↦ 1 ]

-- the clause table with the record of clause k, counted from 0
abbrev pub put_clause_record : List ℕ → ℕ → ℕ → ℕ → ℕ → List ℕ
put_clause_record c k start size standing = set (set (set c (3 * k) start) (3 * k + 1) size) (3 * k + 2) standing

abbrev pub progress : ℕ → ℕ → ℕ → Bool → Progress
progress clauses start at mark = record { clauses = clauses; start = start; at = at; mark = mark }

-- behind the clause c
abbrev pub next_clause : Progress → Written → Progress
next_clause p c = progress (p.clauses + 1) (p.start + kept_size c) (p.at + c.size + 1) (p.mark || eqb c.size 0)

-- the clause that begins at `at` has literals of at most 1,024 variables, and the literal table has places for them from `start` on
pub record Collectable (numbers : List ℤ) (at start literals : ℕ) : Type 0 where
  pub ranged : InClause 1024 (first_clause (drop at numbers))
  pub room : start + length (first_clause (drop at numbers)) ≤ literals
  pub small : (at ≤ 20480) × (start + length (first_clause (drop at numbers)) ≤ 16384)

-- there is a record for the clause
pub record ClauseEnd (clauses : ℕ) (p : Progress) (c : Written) : Type 0 where
  pub room : 3 * p.clauses + 3 ≤ clauses
  pub number : p.clauses < 4096
  pub small : (p.at ≤ 20480) × ((p.start ≤ 16384) × ((c.size ≤ 16384) × (c.kept ≤ 16384)))

-- ---- all clauses

-- n clauses in the numbers that fit, and tables that are long enough
pub record Layable (n : ℕ) (numbers : List ℤ) (clauses literals : ℕ) : Type 0 where
  pub number : n ≤ 4096
  pub each : InClauses 1024 (clauses_in n numbers)
  pub size : total (clauses_in n numbers) ≤ 16384
  pub clause_room : 12288 ≤ clauses
  pub literal_room : 16384 ≤ literals

-- the verdict and the clauses of a text, or of a join
abbrev pub either_verdict : Source → Result Header Refusal
either_verdict (Text text) = judge_text text.now
either_verdict (Joined left right links) = judge_join left.now right.now links.now

abbrev pub either_clauses : Source → List (List ℤ)
either_clauses (Text text) = text_clauses text.now
either_clauses (Joined left right links) = join_clauses left.now right.now links.now

-- the clauses of a formula that this verdict lets in
pub record LayableBy (verdict : Result Header Refusal) (numbers : List ℤ) (clauses literals : ℕ) : Type 0 where
  pub fits : (v n body : ℕ) → verdict ≡ fitting v n body → (v ≤ 1024) × Layable n numbers clauses literals

-- the clauses cs are laid at the front of the tables; what lies beyond the stated sizes stays
pub record LaidBy (cs : List (List ℤ)) (c₀ : List ℕ) (l₀ : List ℤ) (c : List ℕ) (l : List ℤ) (p : Progress) : Type 0 where
  pub within : (3 * p.clauses ≤ 12288) × (p.start ≤ 16384)
  pub records : take (3 * p.clauses) c ≡ clause_records 0 cs
  pub places : take p.start l ≡ literal_places cs
  pub marks : p.mark ≡ any_empty cs
  pub sizes : (length c ≡ length c₀) × (length l ≡ length l₀)
  pub beyond : (drop 12288 c ≡ drop 12288 c₀) × (drop 16384 l ≡ drop 16384 l₀)

-- ---- the tables

-- zeros from `from` up to `end`
abbrev pub cleared {ℓ} : {A : Type ℓ} → A → List A → ℕ → ℕ → List A
cleared nought t from end = take from t ++ (replicate (end - from) nought ++ drop end t)
