-- The state as C keeps it: forty numbers at the front of a slice, in the order V, N, PASS, CURSOR, CHANGED, FRESH, MARK, the programme's length and its 32 codes. PASS is 0 where none is open, 1 Propagate, 2 Merge, 3 Sweep; CHANGED, FRESH and MARK are 0 or 1;
-- CURSOR is 0 where no pass is open, CHANGED is 0 where Propagate is not. Numbers behind the fortieth are neither read nor written. What is read back is what was put there (laws `state-back` and `put-readable`).
-- Assumes nothing: these are definitions.
use Rattle.std.specs.Prelude.{ℕ, zero, suc, Bool, true, false, ◌&&◌, List, ◌∷◌, ◌++◌, length, take, drop, get_or, eqb, leb}
use Rattle.state.specs.States.{state}
use Rattle.state.specs.declared.State.{State}
use Rattle.state.specs.declared.Programme.{Programme}
use Rattle.state.specs.declared.Pass.{Pass}
use Rattle.state.specs.declared.Pass.TheVariants.{Idle, Propagate, Merge, Sweep}

-- numbers over the front of a slice; those behind them stay
abbrev pub put_front : List ℕ → List ℕ → List ℕ
put_front new old = new ++ drop (length new) old

-- ---- from a state to its numbers

abbrev pub digit : Bool → ℕ
digit true = 1
digit false = 0

abbrev pub pass_number : Pass → ℕ
pass_number Idle = 0
pass_number (Propagate cursor changed) = 1
pass_number (Merge cursor) = 2
pass_number (Sweep cursor) = 3

abbrev pub cursor_number : Pass → ℕ
cursor_number Idle = 0
cursor_number (Propagate cursor changed) = cursor
cursor_number (Merge cursor) = cursor
cursor_number (Sweep cursor) = cursor

abbrev pub changed_number : Pass → ℕ
changed_number Idle = 0
changed_number (Propagate cursor changed) = digit changed
changed_number (Merge cursor) = 0
changed_number (Sweep cursor) = 0

abbrev pub numbers_of : State → List ℕ
numbers_of st =
    st.v ∷ st.n ∷ pass_number st.pass ∷ cursor_number st.pass ∷ changed_number st.pass ∷ digit st.fresh ∷ digit st.mark ∷ st.programme.length ∷ st.programme.codes

unfoldable pub put_state : State → List ℕ → List ℕ
put_state st numbers = put_front (numbers_of st) numbers

-- the last 33 of them alone
unfoldable pub put_programme : Programme → List ℕ → List ℕ
put_programme p numbers = take 7 numbers ++ put_front (p.length ∷ p.codes) (drop 7 numbers)

-- ---- from numbers to a state

-- by PASS, CURSOR and CHANGED
abbrev pub pass_of : ℕ → ℕ → ℕ → Pass
pass_of zero cursor changed = Idle
pass_of (suc zero) cursor changed = Propagate cursor (eqb changed 1)
pass_of (suc (suc zero)) cursor changed = Merge cursor
pass_of (suc (suc (suc _))) cursor changed = Sweep cursor

unfoldable pub programme_at : List ℕ → Programme
programme_at s = record { codes = take 32 (drop 8 s); length = get_or s 7 0 }

unfoldable pub state_of : List ℕ → State
state_of s = state (get_or s 0 0) (get_or s 1 0) (pass_of (get_or s 2 0) (get_or s 3 0) (get_or s 4 0)) (eqb (get_or s 5 0) 1) (eqb (get_or s 6 0) 1) (programme_at s)

-- ---- which numbers are a state's

-- PASS, CURSOR and CHANGED
abbrev pub pass_readable : ℕ → ℕ → ℕ → Bool
pass_readable zero cursor changed = eqb cursor 0 && eqb changed 0
pass_readable (suc zero) cursor changed = leb changed 1
pass_readable (suc (suc zero)) cursor changed = eqb changed 0
pass_readable (suc (suc (suc zero))) cursor changed = eqb changed 0
pass_readable (suc (suc (suc (suc _)))) cursor changed = false

unfoldable pub readable : List ℕ → Bool
readable s = leb 40 (length s) && (leb (get_or s 5 0) 1 && (leb (get_or s 6 0) 1 && pass_readable (get_or s 2 0) (get_or s 3 0) (get_or s 4 0)))
