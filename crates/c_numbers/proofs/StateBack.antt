-- What is read from numbers that a state was put over is that state, so that the calls can be made one after the other. Assumes nothing.
use Prim.Native.Nat.{ℕ, ◌≤◌}
use native.Mathlib.Omega.{arith}
use mathlib.Core.Bool.{Bool, true, false}
use mathlib.Core.Path.{◌≡◌, refl, ap}
use mathlib.Core.List.{List}
use lib.ListN.{length, drop, length-append, length-drop}
use lib.Seq.{take_at, length-take-le}
use lib.Dec.{eqb, leb}
use borrow.Author.Tests.{le-leb}
use Rattle.state.specs.declared.State.{State}
use Rattle.state.specs.declared.Pass.{Pass}
use Rattle.state.specs.declared.Pass.TheVariants.{Idle, Propagate, Merge, Sweep}
use Rattle.c_numbers.specs.StateNumbers.{digit, numbers_of, pass_number, cursor_number, changed_number, pass_of, pass_readable, put_state, programme_at, state_of, readable}

digit_back : (b : Bool) → eqb (digit b) 1 ≡ b
digit_back true = refl
digit_back false = refl

digit_small : (b : Bool) → leb (digit b) 1 ≡ true
digit_small true = refl
digit_small false = refl

pass_back : (p : Pass) → pass_of (pass_number p) (cursor_number p) (changed_number p) ≡ p
pass_back Idle = refl
pass_back (Propagate cursor true) = refl
pass_back (Propagate cursor false) = refl
pass_back (Merge cursor) = refl
pass_back (Sweep cursor) = refl

pass_readable_lem : (p : Pass) → pass_readable (pass_number p) (cursor_number p) (changed_number p) ≡ true
pass_readable_lem Idle = refl
pass_readable_lem (Propagate cursor true) = refl
pass_readable_lem (Propagate cursor false) = refl
pass_readable_lem (Merge cursor) = refl
pass_readable_lem (Sweep cursor) = refl

-- a programme that has its 32 places, as every one has that a call leaves (laws `calls_keep` and `load_with_keeps`, crate c_calls)
abbrev pub Placed : State → Type 0
Placed st = length st.programme.codes ≡ 32

programme_back : (st : State) (s : List ℕ) → Placed st → programme_at (put_state st s) ≡ st.programme
unfolding put_state programme_at
programme_back st s placed = ap (λ (l : List ℕ). record { codes = l; length = st.programme.length }) (take_at st.programme.codes (drop (length (numbers_of st)) s) 32 placed)

pub state_back : (st : State) (s : List ℕ) → Placed st → state_of (put_state st s) ≡ st
unfolding put_state state_of
state_back st s placed = simp (pass_back, digit_back, programme_back st s placed)

put_long : (st : State) (s : List ℕ) → Placed st → 40 ≤ length (put_state st s)
unfolding put_state
put_long st s placed = omega (arith, length-append st.programme.codes (drop (length (numbers_of st)) s), placed)

pub put_readable : (st : State) (s : List ℕ) → Placed st → readable (put_state st s) ≡ true
unfolding put_state readable
put_readable st s placed = simp (le-leb 40 (length (put_state st s)) (put_long st s placed), digit_small, pass_readable_lem)

-- what is read has its places
pub read_placed : (s : List ℕ) → 40 ≤ length s → Placed (state_of s)
unfolding state_of programme_at
read_placed s long = length-take-le 32 (drop 8 s) (omega (arith, length-drop 8 s, long))
