-- Document 02, CR 1: "a window of our solver's last 64 learnt clauses .. when a 65th is kept the eldest leaves. The window's literal total is the sum over the clauses in it".
-- A window is two tables that the caller lends, 64 sizes and 64 records of 64 literals, and by value the number of clauses and their literal total. Clause k, counted from 0, has size k and its literals from place 64k on; the eldest is clause 0.
-- Places beyond the stated ones are never read or written. Assumes nothing: these are definitions.
use Rattle.std.specs.Prelude.{ℕ, zero, suc, ◌+◌, ◌*◌, ◌-◌, true, false, List, [], ◌∷◌, ◌++◌, length, get_or, take, drop, replicate, set, eqb, ℤ, pos}
use Rattle.std.proofs.lemmas.List.Edits.{sets}
use Rattle.state.specs.declared.State.{State}
use Rattle.state.specs.declared.Refusal.{Refusal}
use Rattle.tables.specs.Tables.{Tables}
use Rattle.tables.specs.Calls.{After, after, refuse}
use Rattle.window.specs.declared.Window.{Window}
use Rattle.window.specs.declared.Windowed.{Windowed}

-- the window as a call is lent it
pub record Places : Type 0 where
  pub sizes : List ℕ
  pub learnt : List ℤ
  pub window : Window

abbrev pub places : List ℕ → List ℤ → Window → Places
places sizes learnt window = record { sizes = sizes; learnt = learnt; window = window }

-- so many clauses, with so many literals
abbrev pub window_of : ℕ → ℕ → Window
window_of clauses literals = record { clauses = clauses; literals = literals }

abbrev pub size_of : List ℕ → ℕ → ℕ
size_of sizes k = get_or sizes k 0

-- clause k
abbrev pub clause_of : Places → ℕ → List ℤ
clause_of w k = take (size_of w.sizes k) (drop (64 * k) w.learnt)

-- the clauses from clause k on, so many
unfoldable pub clauses_from : ℕ → ℕ → Places → List (List ℤ)
clauses_from k zero w = []
clauses_from k (suc n) w = clause_of w k ∷ clauses_from (suc k) n w

-- the clauses in the window, eldest first
abbrev pub clauses_of : Places → List (List ℤ)
clauses_of w = clauses_from 0 w.window.clauses w

-- the youngest of them
abbrev pub youngest : Places → List ℤ
youngest w = clause_of w (w.window.clauses - 1)

-- the last n of a list, or all
unfoldable pub last_of : {A : Type 0} → ℕ → List A → List A
last_of n xs = drop (length xs - n) xs

-- the literal total of the first n clauses
unfoldable pub total_of : ℕ → List ℕ → ℕ
total_of zero sizes = 0
total_of (suc n) sizes = total_of n sizes + size_of sizes n

-- ---- how it changes

-- "a load empties the window": every stated place becomes 0
unfoldable pub emptied : Places → Places
emptied w = places (replicate 64 0 ++ drop 64 w.sizes) (replicate 4096 (pos 0) ++ drop 4096 w.learnt) (window_of 0 0)

-- of a table's first `size` places all but the first `step` move down by `step`; the last `step` of them, and what lies beyond, stay
abbrev pub moved_down {ℓ} : {A : Type ℓ} → ℕ → ℕ → List A → List A
moved_down step size xs = take (size - step) (drop step xs) ++ drop (size - step) xs

-- the eldest leaves
unfoldable pub eldest_left : Places → Places
eldest_left w = places (moved_down 1 64 w.sizes) (moved_down 64 4096 w.learnt) (window_of (w.window.clauses - 1) (w.window.literals - size_of w.sizes 0))

-- a clause as a record: 0 in the rest of its 64 places
abbrev pub record_of : List ℤ → List ℤ
record_of C = C ++ replicate (64 - length C) (pos 0)

-- a clause goes behind the others
unfoldable pub put : List ℤ → Places → Places
put C w = places (set w.sizes w.window.clauses (length C)) (sets w.learnt (64 * w.window.clauses) (record_of C)) (window_of (w.window.clauses + 1) (w.window.literals + length C))

-- a clause is kept: a window that has 64 loses the eldest first
unfoldable pub keep : List ℤ → Places → Places
keep C w = elim (eqb w.window.clauses 64) [ true ↦ put C (eldest_left w) | false ↦ put C w ]

-- ---- what a call that takes the window leaves

pub record AfterWindow : Type 0 where
  pub made : After
  pub window : Places

abbrev pub after_window : After → Places → AfterWindow
after_window made w = record { made = made; window = w }

-- what the code's outcome says, with the tables and the window's tables at the end of the call
abbrev pub after_with : Windowed → Tables → List ℕ → List ℤ → AfterWindow
after_with o t sizes learnt = after_window (after o.outcome t) (places sizes learnt o.window)

-- "A refusal .. changes nothing."
abbrev pub refuse_with : Refusal → Tables → State → Places → AfterWindow
refuse_with r t st w = after_window (refuse r st t) w
