-- Document 01: "A load removes repeated literals, stores a clause with v and −v as dropped, and sets the mark for an empty clause, which stands. .. A load lays the kept literals from place 0 without gaps, a dropped clause taking none. ..
-- a load sets to 0 whatever it does not fill, stamp records apart. .. After a load, each class is the variable itself and each value 0. .. The mark and a load close any pass" and spend the stamps.
-- Assumes nothing: these are definitions.
use Rattle.std.specs.Prelude.{ℕ, zero, suc, ◌+◌, ◌-◌, Bool, true, false, ◌||◌, List, [], ◌∷◌, ◌++◌, length, drop, replicate, eqb, ℤ, pos, Result, Ok, Err}
use Rattle.literal.specs.Clauses.{distinct, tautology}
use Rattle.state.specs.States.{loaded_state}
use Rattle.state.specs.declared.State.{State}
use Rattle.state.specs.declared.Refusal.{Refusal}
use Rattle.state.specs.declared.Refusal.TheVariants.{Shape}
use Rattle.state.specs.declared.Answer.TheVariants.{Loaded}
use Rattle.tables.specs.Tables.{Tables, tables}
use Rattle.tables.specs.Long.{long_ok}
use Rattle.tables.specs.Calls.{After, answered, refuse}
use Rattle.window.specs.Window.{Places, emptied, AfterWindow, after_window, refuse_with}
use Rattle.window.specs.Rule.{long_window_ok}
use Rattle.dimacs.specs.Text.{judge_text, text_clauses}
use Rattle.dimacs.specs.declared.Header.{Header}
use Rattle.join.specs.Join.{judge_join, join_clauses}

-- what is kept of a clause
abbrev pub kept_of : List ℤ → List ℤ
kept_of c = elim (tautology c) [ true ↦ [] | false ↦ distinct c ]

-- the records of the clauses (start, length, standing), the first of which starts at `at`
unfoldable pub clause_records : ℕ → List (List ℤ) → List ℕ
clause_records at [] = []
clause_records at (c ∷ cs) = at ∷ length (kept_of c) ∷ elim (tautology c) [ true ↦ 0 | false ↦ 1 ] ∷ clause_records (at + length (kept_of c)) cs

unfoldable pub literal_places : List (List ℤ) → List ℤ
literal_places [] = []
literal_places (c ∷ cs) = kept_of c ++ literal_places cs

-- the records (class, value) of n variables from v on: each is its own class, with no value
unfoldable pub variable_records : ℕ → ℕ → List ℤ
variable_records v zero = []
variable_records v (suc n) = pos v ∷ pos 0 ∷ variable_records (suc v) n

-- a table of `size` stated places after a load: what was laid in it, zeros, and the places beyond as they were
abbrev pub filled {ℓ} : {A : Type ℓ} → A → ℕ → List A → List A → List A
filled nought size xs old = xs ++ (replicate (size - length xs) nought ++ drop size old)

-- the empty clause is among them
abbrev pub any_empty : List (List ℤ) → Bool
any_empty [] = false
any_empty (c ∷ cs) = eqb (length c) 0 || any_empty cs

-- the tables that hold the clauses cs over v variables
unfoldable pub laid : ℕ → List (List ℤ) → Tables → Tables
laid v cs t =
    tables (filled 0 12288 (clause_records 0 cs) t.clauses) (filled (pos 0) 16384 (literal_places cs) t.literals) (filled (pos 0) 2048 (variable_records 1 v) t.variables) t.times
    t.links

-- the clauses cs over v variables, n of them, are loaded
abbrev pub accept : ℕ → ℕ → List (List ℤ) → Tables → After
accept v n cs t = answered Loaded (loaded_state v n (any_empty cs)) (laid v cs t)

abbrev pub load_by : Result Header Refusal → List (List ℤ) → Tables → State → After
load_by (Err r) cs t st = refuse r st t
load_by (Ok h) cs t st = accept h.v h.n cs t

-- a formula of the clauses cs by its verdict: a table that is shorter than stated gets 1 before that
abbrev pub load_formula : Result Header Refusal → List (List ℤ) → Tables → State → After
load_formula verdict cs t st = elim (long_ok t) [ true ↦ load_by verdict cs t st | false ↦ refuse Shape st t ]

-- the call on the tables: the text is judged, and its clauses are laid
unfoldable pub load_call : List ℕ → Tables → State → After
load_call text t st = load_formula (judge_text text) (text_clauses text) t st

-- a join counts as a load in all but its verdict and its clauses. Document 02, CR 11: "in all else too the call counts as one"
unfoldable pub join_call : List ℕ → List ℕ → List ℕ → Tables → State → After
join_call left right links t st = load_formula (judge_join left right links) (join_clauses left right links) t st

-- ---- the call, with the window. Document 02, CR 1: "a load empties the window"; "a window handed in with another .. gets 1, save from a load", which tests its lengths alone

-- by the reply's number, which is 0 where the text was loaded
abbrev pub emptied_by : ℕ → Places → Places
emptied_by zero w = emptied w
emptied_by (suc _) w = w

-- a call on the tables, with a window that is long enough
abbrev pub emptying : After → Places → AfterWindow
emptying made w = after_window made (emptied_by made.reply.number w)

-- a load or a join, by what it comes to on the tables t in the state st
abbrev pub with_window : After → Tables → State → Places → AfterWindow
with_window made t st w = elim (long_window_ok w) [ true ↦ emptying made w | false ↦ refuse_with Shape t st w ]

unfoldable pub load_with : List ℕ → Tables → State → Places → AfterWindow
load_with text t st w = with_window (load_call text t st) t st w

unfoldable pub join_with : List ℕ → List ℕ → List ℕ → Tables → State → Places → AfterWindow
join_with left right links t st w = with_window (join_call left right links t st) t st w
