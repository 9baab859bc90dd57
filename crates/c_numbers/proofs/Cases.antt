-- Examples of the numbers and of a call, by computation. Assumes nothing.
use Rattle.std.specs.Prelude.{Ok, Err}
use Prim.Native.Nat.{ℕ}
use mathlib.Core.Path.{◌≡◌, refl}
use mathlib.Core.Bool.{true, false}
use mathlib.Core.List.{List, [], ◌∷◌, ◌++◌}
use lib.ListN.{replicate}
use lib.IntN.{pos, negsuc}
use Rattle.state.specs.States.{state}
use Rattle.state.specs.Answers.{reply_of}
use Rattle.state.specs.declared.State.{State}
use Rattle.state.specs.declared.Programme.{Programme}
use Rattle.state.specs.declared.Pass.TheVariants.{Idle, Propagate, Sweep}
use Rattle.state.specs.declared.Counts.{Counts}
use Rattle.state.specs.declared.Answer.TheVariants.{Loaded, Open, Ran, KeptWhole, KeptShort, NotKept, Explained}
use Rattle.state.specs.declared.Refusal.TheVariants.{Unsettled, Newcomer, NoClause}
use Rattle.state.specs.declared.Verdict.TheVariants.{Nothing, Drop, Shorten}
use Rattle.tables.specs.Tables.{Tables}
use Rattle.tables.specs.Calls.{After, answered, refuse}
use Rattle.write.specs.Write.{AfterWrite, text_into}
use Rattle.window.specs.Window.{Places, places, window_of, AfterWindow, after_window, refuse_with}
use Rattle.c_numbers.specs.StateNumbers.{put_state, programme_at, state_of, readable}
use Rattle.c_numbers.specs.CCalls.{ready, put_answer, refuse_unread, told, after_c, call_c, told_write, after_write_c, text_c}
use Rattle.c_numbers.specs.WindowCalls.{ready_with, window_at, put_window_by, after_load_c, told_load, load_c, after_learn_c, told_learn, learn_c}

-- the programme of a settle alone, with numbers behind it
abbrev behind : List ℕ → List ℕ
behind more = 1 ∷ 1 ∷ replicate 31 0 ++ more

abbrev alone : Programme
alone = record { codes = 1 ∷ replicate 31 0; length = 1 }

-- a number behind the fortieth is neither read nor written
states : (readable (4 ∷ 3 ∷ 1 ∷ 2 ∷ 1 ∷ 0 ∷ 0 ∷ behind (99 ∷ [])) ≡ true) × (state_of (4 ∷ 3 ∷ 1 ∷ 2 ∷ 1 ∷ 0 ∷ 0 ∷ behind (99 ∷ [])) ≡ state 4 3 (Propagate 2 true) false false alone)
    × (put_state (state 4 3 (Sweep 2) true false alone) (replicate 40 1 ++ 99 ∷ []) ≡ 4 ∷ 3 ∷ 3 ∷ 2 ∷ 0 ∷ 1 ∷ 0 ∷ behind (99 ∷ []))
unfolding readable state_of programme_at put_state
states = (refl, refl, refl)

-- 39 numbers; PASS 4; CURSOR or CHANGED without a pass; CHANGED in Sweep; CHANGED, FRESH and MARK 2
unreadable : (readable (4 ∷ 3 ∷ 0 ∷ 0 ∷ 0 ∷ 0 ∷ behind []) ≡ false) × (readable (4 ∷ 3 ∷ 4 ∷ 0 ∷ 0 ∷ 0 ∷ 0 ∷ behind []) ≡ false) × (readable (4 ∷ 3 ∷ 0 ∷ 1 ∷ 0 ∷ 0 ∷ 0 ∷ behind []) ≡ false) × (readable (4 ∷ 3 ∷ 0 ∷ 0 ∷ 1 ∷ 0 ∷ 0 ∷ behind []) ≡ false)
    × (readable (4 ∷ 3 ∷ 3 ∷ 0 ∷ 1 ∷ 0 ∷ 0 ∷ behind []) ≡ false) × (readable (4 ∷ 3 ∷ 1 ∷ 0 ∷ 2 ∷ 0 ∷ 0 ∷ behind []) ≡ false) × (readable (4 ∷ 3 ∷ 0 ∷ 0 ∷ 0 ∷ 2 ∷ 0 ∷ behind []) ≡ false) × (readable (4 ∷ 3 ∷ 0 ∷ 0 ∷ 0 ∷ 0 ∷ 2 ∷ behind []) ≡ false)
unfolding readable
unreadable = (refl, refl, refl, refl, refl, refl, refl, refl)

abbrev counts : Counts
counts = record { visits = 7; clauses = 2; literals = 5 }

answers : (put_answer (reply_of (Ok (Open counts))) (9 ∷ 9 ∷ 9 ∷ 9 ∷ 9 ∷ []) ≡ 7 ∷ 2 ∷ 5 ∷ 1 ∷ 9 ∷ []) × (put_answer (reply_of (Ok (Ran 3))) (9 ∷ 9 ∷ 9 ∷ 9 ∷ []) ≡ 3 ∷ 0 ∷ 0 ∷ 0 ∷ [])
    × (put_answer (reply_of (Err (Unsettled 6))) (9 ∷ 9 ∷ 9 ∷ 9 ∷ []) ≡ 6 ∷ 9 ∷ 9 ∷ 9 ∷ []) × (refuse_unread (9 ∷ 9 ∷ 9 ∷ 9 ∷ []) ≡ 0 ∷ 9 ∷ 9 ∷ 9 ∷ []) × (refuse_unread (9 ∷ 9 ∷ 9 ∷ []) ≡ 9 ∷ 9 ∷ 9 ∷ [])
unfolding put_answer refuse_unread
answers = (refl, refl, refl, refl, refl)

-- a learnt clause kept whole with 3 literals, shortened to 2, dropped
learnt : (put_answer (reply_of (Ok (KeptWhole 3))) (9 ∷ 9 ∷ 9 ∷ 9 ∷ 9 ∷ []) ≡ 0 ∷ 3 ∷ 0 ∷ 0 ∷ 9 ∷ []) × (put_answer (reply_of (Ok (KeptShort 2))) (9 ∷ 9 ∷ 9 ∷ 9 ∷ []) ≡ 2 ∷ 2 ∷ 0 ∷ 0 ∷ [])
    × (put_answer (reply_of (Ok NotKept)) (9 ∷ 9 ∷ 9 ∷ 9 ∷ []) ≡ 1 ∷ 0 ∷ 0 ∷ 0 ∷ [])
unfolding put_answer
learnt = (refl, refl, refl)

-- what explain says of a clause: nothing goes; it is dropped, and its chain has 8 bytes; two literals are taken out of it, and their chains have 14. A number that is no clause's is refused (13)
explained : (put_answer (reply_of (Ok (Explained Nothing 0 0))) (9 ∷ 9 ∷ 9 ∷ 9 ∷ 9 ∷ []) ≡ 0 ∷ 0 ∷ 0 ∷ 0 ∷ 9 ∷ []) × (put_answer (reply_of (Ok (Explained Drop 0 8))) (9 ∷ 9 ∷ 9 ∷ 9 ∷ []) ≡ 1 ∷ 0 ∷ 8 ∷ 0 ∷ [])
    × (put_answer (reply_of (Ok (Explained Shorten 2 14))) (9 ∷ 9 ∷ 9 ∷ 9 ∷ []) ≡ 2 ∷ 2 ∷ 14 ∷ 0 ∷ []) × (put_answer (reply_of (Err NoClause)) (9 ∷ 9 ∷ 9 ∷ 9 ∷ []) ≡ 0 ∷ 9 ∷ 9 ∷ 9 ∷ [])
unfolding put_answer
explained = (refl, refl, refl, refl)

-- a call that opens Propagate, one that is refused, and one on a state that cannot be read
abbrev opens : Tables → State → After
opens t st = answered (Open counts) (state 4 3 (Propagate 7 true) false false alone) t

abbrev refuses : Tables → State → After
refuses t st = refuse (Unsettled 6) st t

calls : (t : Tables) → (call_c opens t (4 ∷ 3 ∷ 0 ∷ 0 ∷ 0 ∷ 1 ∷ 0 ∷ behind []) (9 ∷ 9 ∷ 9 ∷ 9 ∷ []) ≡ after_c (pos 0) (7 ∷ 2 ∷ 5 ∷ 1 ∷ []) (4 ∷ 3 ∷ 1 ∷ 7 ∷ 1 ∷ 0 ∷ 0 ∷ behind []) t)
    × (call_c refuses t (4 ∷ 3 ∷ 0 ∷ 0 ∷ 0 ∷ 1 ∷ 0 ∷ behind []) (9 ∷ 9 ∷ 9 ∷ 9 ∷ []) ≡ after_c (negsuc 5) (6 ∷ 9 ∷ 9 ∷ 9 ∷ []) (4 ∷ 3 ∷ 0 ∷ 0 ∷ 0 ∷ 1 ∷ 0 ∷ behind []) t)
    × (call_c opens t (4 ∷ 3 ∷ 5 ∷ 0 ∷ 0 ∷ 1 ∷ 0 ∷ behind []) (9 ∷ 9 ∷ 9 ∷ 9 ∷ []) ≡ after_c (negsuc 0) (0 ∷ 9 ∷ 9 ∷ 9 ∷ []) (4 ∷ 3 ∷ 5 ∷ 0 ∷ 0 ∷ 1 ∷ 0 ∷ behind []) t)
unfolding call_c ready readable told put_answer refuse_unread put_state
calls t = (refl, refl, refl)

-- a call that writes two bytes, one that is refused and leaves the output, and one on a state that cannot be read
abbrev writes : Tables → State → List ℕ → AfterWrite
writes t st out = text_into (Explained Shorten 1) (49 ∷ 10 ∷ []) out

texts : (t : Tables) → (text_c writes t (replicate 40 0) (9 ∷ 9 ∷ 9 ∷ 9 ∷ []) (7 ∷ 7 ∷ 7 ∷ []) ≡ after_write_c (pos 0) (2 ∷ 1 ∷ 2 ∷ 0 ∷ []) (49 ∷ 10 ∷ 7 ∷ []))
    × (text_c writes t (replicate 40 0) (9 ∷ 9 ∷ 9 ∷ 9 ∷ []) (7 ∷ []) ≡ after_write_c (negsuc 9) (2 ∷ 9 ∷ 9 ∷ 9 ∷ []) (7 ∷ []))
    × (text_c writes t (replicate 39 0) (9 ∷ 9 ∷ 9 ∷ 9 ∷ []) (7 ∷ 7 ∷ 7 ∷ []) ≡ after_write_c (negsuc 0) (0 ∷ 9 ∷ 9 ∷ 9 ∷ []) (7 ∷ 7 ∷ 7 ∷ []))
unfolding text_c ready readable told_write put_answer refuse_unread
texts t = (refl, refl, refl)

-- ---- the window

-- a number behind the second is neither read nor written; a refused call (11) leaves the numbers
windows : (window_at (3 ∷ 7 ∷ 99 ∷ []) ≡ window_of 3 7) × (put_window_by 0 (window_of 4 9) (3 ∷ 7 ∷ 99 ∷ []) ≡ 4 ∷ 9 ∷ 99 ∷ []) × (put_window_by 11 (window_of 4 9) (3 ∷ 7 ∷ 99 ∷ []) ≡ 3 ∷ 7 ∷ 99 ∷ [])
unfolding window_at
windows = (refl, refl, refl)

-- a call that keeps a shortened clause, one that refuses the newcomer, and one with a single number for the window
abbrev keeps : Tables → State → Places → AfterWindow
keeps t st w = after_window (answered (KeptShort 2) st t) (places (2 ∷ []) (pos 1 ∷ pos 2 ∷ []) (window_of 1 2))

abbrev refuses_newcomer : Tables → State → Places → AfterWindow
refuses_newcomer t st w = refuse_with Newcomer t st w

learns : (t : Tables) → (learn_c keeps t (4 ∷ 3 ∷ 0 ∷ 0 ∷ 0 ∷ 1 ∷ 0 ∷ behind []) (9 ∷ 9 ∷ 9 ∷ 9 ∷ []) (0 ∷ []) (pos 0 ∷ pos 0 ∷ []) (0 ∷ 0 ∷ 99 ∷ []) ≡ after_learn_c (pos 0) (2 ∷ 2 ∷ 0 ∷ 0 ∷ []) (2 ∷ []) (pos 1 ∷ pos 2 ∷ []) (1 ∷ 2 ∷ 99 ∷ []))
    × (learn_c refuses_newcomer t (4 ∷ 3 ∷ 0 ∷ 0 ∷ 0 ∷ 1 ∷ 0 ∷ behind []) (9 ∷ 9 ∷ 9 ∷ 9 ∷ []) (5 ∷ []) (pos 6 ∷ []) (7 ∷ 8 ∷ 99 ∷ []) ≡ after_learn_c (negsuc 10) (0 ∷ 9 ∷ 9 ∷ 9 ∷ []) (5 ∷ []) (pos 6 ∷ []) (7 ∷ 8 ∷ 99 ∷ []))
    × (learn_c keeps t (4 ∷ 3 ∷ 0 ∷ 0 ∷ 0 ∷ 1 ∷ 0 ∷ behind []) (9 ∷ 9 ∷ 9 ∷ 9 ∷ []) (5 ∷ []) (pos 6 ∷ []) (7 ∷ []) ≡ after_learn_c (negsuc 0) (0 ∷ 9 ∷ 9 ∷ 9 ∷ []) (5 ∷ []) (pos 6 ∷ []) (7 ∷ []))
unfolding learn_c ready_with ready readable told_learn put_answer refuse_unread
learns t = (refl, refl, refl)

-- a load that empties the window, and one with a single number for the window
abbrev empties : Tables → State → Places → AfterWindow
empties t st w = after_window (answered Loaded (state 4 3 Idle false false alone) t) (places (0 ∷ []) (pos 0 ∷ []) (window_of 0 0))

loads : (t : Tables) → (load_c empties t (replicate 40 0) (9 ∷ 9 ∷ 9 ∷ 9 ∷ []) (5 ∷ []) (pos 6 ∷ []) (7 ∷ 8 ∷ 99 ∷ []) ≡ after_load_c (after_c (pos 0) (0 ∷ 0 ∷ 0 ∷ 0 ∷ []) (4 ∷ 3 ∷ 0 ∷ 0 ∷ 0 ∷ 0 ∷ 0 ∷ behind []) t) (0 ∷ []) (pos 0 ∷ []) (0 ∷ 0 ∷ 99 ∷ []))
    × (load_c empties t (replicate 40 0) (9 ∷ 9 ∷ 9 ∷ 9 ∷ []) (5 ∷ []) (pos 6 ∷ []) (7 ∷ []) ≡ after_load_c (after_c (negsuc 0) (0 ∷ 9 ∷ 9 ∷ 9 ∷ []) (replicate 40 0) t) (5 ∷ []) (pos 6 ∷ []) (7 ∷ []))
unfolding load_c ready_with ready readable told_load told put_answer refuse_unread put_state
loads t = (refl, refl)
