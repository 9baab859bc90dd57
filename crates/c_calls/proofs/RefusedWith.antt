-- A refused load, join or learnt clause for C leaves the state, the tables and the window as they are: its result is 0, or nothing changed but the first number of the answer. Assumes nothing.
use Prim.Native.Nat.{ℕ, zero, suc}
use mathlib.Core.Bool.{Bool, true, false}
use mathlib.Core.Path.{◌≡◌, refl, ap, ◌∙◌}
use mathlib.Core.Logic.{◌⊎◌, inl, inr}
use mathlib.Core.List.{List}
use lib.ListN.{length, drop}
use lib.IntN.{ℤ, pos}
use Rattle.state.specs.Answers.{result_by}
use Rattle.state.specs.declared.State.{State}
use Rattle.state.specs.declared.Refusal.TheVariants.{Shape}
use Rattle.tables.specs.Tables.{Tables}
use Rattle.tables.specs.Calls.{After}
use Rattle.window.specs.declared.Window.{Window}
use Rattle.window.specs.Window.{Places, places, AfterWindow, after_window, refuse_with}
use Rattle.window.specs.Rule.{long_window_ok}
use Rattle.load.specs.Load.{load_call, join_call, emptied_by, emptying, with_window, load_with, join_with}
use Rattle.learn.specs.Learn.{learn_call}
use Rattle.learn.proofs.Cases.{learn_ways}
use Rattle.c_numbers.specs.StateNumbers.{state_of}
use Rattle.c_numbers.specs.CCalls.{put_answer_by, put_answer, put_state_by, refuse_unread, told, after_c}
use Rattle.c_numbers.specs.WindowCalls.{ready_with, window_at, put_window_by, AfterLoadC, after_load_c, told_load, load_c, AfterLearnC, after_learn_c, told_learn, learn_c}
use Rattle.c_numbers.proofs.Answered.{unread_behind}
use Rattle.c_numbers.proofs.StateBack.{Placed}
use Rattle.c_calls.proofs.Refused.{Kept, load_keeps, join_keeps}

-- the call was made, and the programme has its places if it had them, or the state, the tables and the window are as they were
abbrev pub KeptWith : Tables → State → Places → AfterWindow → Type 0
KeptWith t st w m = ((m.made.reply.number ≡ 0) × (Placed st → Placed m.made.state)) ⊎ ((m.made.state ≡ st) × (m.made.tables ≡ t) × (m.window ≡ w))

-- so it is of a call on any tables, state and window
abbrev pub KeepsWith : (Tables → State → Places → AfterWindow) → Type 0
KeepsWith call = (t : Tables) (st : State) (w : Places) → KeptWith t st w (call t st w)

-- the state and the tables are as they were, and the call was made or the window is as it was
abbrev pub Only : Tables → State → Places → AfterWindow → Type 0
Only t st w m = (m.made.state ≡ st) × (m.made.tables ≡ t) × ((m.made.reply.number ≡ 0) ⊎ (m.window ≡ w))

-- so it is of a call that changes nothing but the window
abbrev pub KeepsOnly : (Tables → State → Places → AfterWindow) → Type 0
KeepsOnly call = (t : Tables) (st : State) (w : Places) → Only t st w (call t st w)

-- ---- the calls

module _ (t : Tables) (st : State) (w : Places) where
  -- the programme of the same state
  same_placed : {x : State} → x ≡ st → Placed st → Placed x
  same_placed e placed = ap (λ (y : State). length y.programme.codes) e ∙ placed

  only_kept : (m : AfterWindow) → Only t st w m → KeptWith t st w m
  only_kept m only = by only.2
    where
      by : (m.made.reply.number ≡ 0) ⊎ (m.window ≡ w) → KeptWith t st w m
      by (inl made) = inl (made, same_placed only.0)
      by (inr same) = inr (only.0, only.1, same)

  -- a load or a join of the tables, with the window emptied where it was accepted
  emptied_kept : (m : After) → Kept t st m → KeptWith t st w (emptying m w)
  emptied_kept m (inl made) = inl made
  emptied_kept m (inr same) = numbered m.reply.number refl
    where
      numbered : (n : ℕ) → m.reply.number ≡ n → KeptWith t st w (after_window m (emptied_by n w))
      numbered zero e = inl (e, same_placed same.0)
      numbered (suc n) e = inr (same.0, same.1, refl)

  window_kept : (m : After) → Kept t st m → KeptWith t st w (with_window m t st w)
  window_kept m kept = by (long_window_ok w)
    where
      by : (b : Bool) → KeptWith t st w (elim b as (λ _. AfterWindow) [ true ↦ emptying m w | false ↦ refuse_with Shape t st w ])
      by true = emptied_kept m kept
      by false = inr (refl, refl, refl)

pub load_with_keeps : (text : List ℕ) → KeepsWith (load_with text)
unfolding load_with
load_with_keeps text t st w = window_kept t st w (load_call text t st) (load_keeps text t st)

pub join_with_keeps : (left right links : List ℕ) → KeepsWith (join_with left right links)
unfolding join_with
join_with_keeps left right links t st w = window_kept t st w (join_call left right links t st) (join_keeps left right links t st)

pub learn_only : (C : List ℤ) → KeepsOnly (learn_call C)
learn_only C t st w = learn_ways C t st w (Only t st w) (λ r. (refl, refl, inr refl)) (λ T. (refl, refl, inl refl)) (λ T D S. (refl, refl, inl refl)) (λ T e. (refl, refl, inl refl))

pub learn_keeps : (C : List ℤ) → KeepsWith (learn_call C)
learn_keeps C t st w = only_kept t st w (learn_call C t st w) (learn_only C t st w)

-- ---- for C

module _ (t : Tables) (s a sizes : List ℕ) (learnt : List ℤ) (w : List ℕ) where
  -- the result is 0, or the numbers of the answer behind the first, the state, the tables, the window's tables and its numbers are as they were
  abbrev pub LoadLeft : AfterLoadC → Type 0
  LoadLeft x = (x.made.result ≡ pos 0) ⊎ ((drop 1 x.made.answer ≡ drop 1 a) × (x.made.state ≡ s) × (x.made.tables ≡ t) × (x.sizes ≡ sizes) × (x.learnt ≡ learnt) × (x.window ≡ w))

  -- the tables and the state are lent to a learnt clause for reading only
  abbrev pub LearnLeft : AfterLearnC → Type 0
  LearnLeft x = (x.result ≡ pos 0) ⊎ ((drop 1 x.answer ≡ drop 1 a) × (x.sizes ≡ sizes) × (x.learnt ≡ learnt) × (x.window ≡ w))

  module _ (m : AfterWindow) (window : Window) where
    told_load_leaves : KeptWith t (state_of s) (places sizes learnt window) m → LoadLeft (told_load m s a w)
    unfolding told_load told put_answer
    told_load_leaves (inl made) = inl (ap (λ (n : ℕ). result_by n 0) made.0)
    told_load_leaves (inr same) = numbered m.made.reply.number
      where
        numbered : (n : ℕ) → (result_by n 0 ≡ pos 0) ⊎ ((drop 1 (put_answer_by n m.made.reply a) ≡ drop 1 a) × (put_state_by n m.made.state s ≡ s) × (m.made.tables ≡ t) × (m.window.sizes ≡ sizes) × (m.window.learnt ≡ learnt) × (put_window_by n m.window.window w ≡ w))
        numbered zero = inl refl
        numbered (suc n) = inr (refl, refl, same.1, ap (λ (p : Places). p.sizes) same.2, ap (λ (p : Places). p.learnt) same.2, refl)

    told_learn_leaves : KeptWith t (state_of s) (places sizes learnt window) m → LearnLeft (told_learn m a w)
    unfolding told_learn put_answer
    told_learn_leaves (inl made) = inl (ap (λ (n : ℕ). result_by n 0) made.0)
    told_learn_leaves (inr same) = numbered m.made.reply.number
      where
        numbered : (n : ℕ) → (result_by n 0 ≡ pos 0) ⊎ ((drop 1 (put_answer_by n m.made.reply a) ≡ drop 1 a) × (m.window.sizes ≡ sizes) × (m.window.learnt ≡ learnt) × (put_window_by n m.window.window w ≡ w))
        numbered zero = inl refl
        numbered (suc n) = inr (refl, ap (λ (p : Places). p.sizes) same.2, ap (λ (p : Places). p.learnt) same.2, refl)

  module _ (call : Tables → State → Places → AfterWindow) (keeps : KeepsWith call) where
    -- what the call makes of the state and the window that are read from the numbers
    abbrev on_read : AfterWindow
    on_read = call t (state_of s) (places sizes learnt (window_at w))

    -- THE LAW for a load and a join, with `load_with_keeps` and `join_with_keeps`
    pub refused_load : LoadLeft (load_c call t s a sizes learnt w)
    unfolding load_c
    refused_load = reading (ready_with s a w)
      where
        reading : (b : Bool) → LoadLeft (elim b as (λ _. AfterLoadC) [ true ↦ told_load on_read s a w | false ↦ after_load_c (after_c (result_by 1 0) (refuse_unread a) s t) sizes learnt w ])
        reading true = told_load_leaves on_read (window_at w) (keeps t (state_of s) (places sizes learnt (window_at w)))
        reading false = inr (unread_behind a, refl, refl, refl, refl, refl)

    -- THE LAW for a learnt clause, with `learn_keeps`
    pub refused_learn : LearnLeft (learn_c call t s a sizes learnt w)
    unfolding learn_c
    refused_learn = reading (ready_with s a w)
      where
        reading : (b : Bool) → LearnLeft (elim b as (λ _. AfterLearnC) [ true ↦ told_learn on_read a w | false ↦ after_learn_c (result_by 1 0) (refuse_unread a) sizes learnt w ])
        reading true = told_learn_leaves on_read (window_at w) (keeps t (state_of s) (places sizes learnt (window_at w)))
        reading false = inr (unread_behind a, refl, refl, refl)
