-- What is answered of a newcomer, by what was seen. Assumes nothing.
use Prim.Native.Nat.{ℕ}
use native.Mathlib.Omega.{arith}
use mathlib.Core.Path.{◌≡◌, refl, sym, ap}
use mathlib.Core.Bool.{Bool, true, false}
use mathlib.Core.List.{List}
use lib.ListN.{length}
use lib.IntN.{ℤ}
use borrow.Author.Tests.{eq-eqb, ne_eqb}
use Rattle.state.proofs.Numbers.{number_made}
use Rattle.state.specs.declared.State.{State}
use Rattle.state.specs.declared.Answer.{Answer}
use Rattle.state.specs.declared.Answer.TheVariants.{KeptWhole, KeptShort, NotKept}
use Rattle.tables.specs.Tables.{Tables}
use Rattle.tables.specs.Calls.{answered}
use Rattle.tables.specs.Fates.{Fate, kept, left, dropped, unit, conflict}
use Rattle.visits.specs.Visited.{visited_as}
use Rattle.visits.specs.declared.Visited.{Visited}
use Rattle.visits.specs.declared.Visited.TheVariants.{Kept, Left, Dropped, MadeTrue, Conflict}
use Rattle.window.specs.Window.{Places, AfterWindow, after_window, record_of}
use Rattle.learn.specs.Learn.{kept_as, kept_with, learn_by, remains}

pub kept_whole : (before now : ℕ) → now ≡ before → KeptWhole now ≡ kept_as before now
kept_whole before now e = ap (λ (b : Bool). elim b as (λ x. Answer) [ true ↦ KeptWhole now | false ↦ KeptShort now ]) (sym (eq-eqb now before e))

pub kept_short : (before now : ℕ) → (now ≡ before → ⊥) → KeptShort now ≡ kept_as before now
kept_short before now n = ap (λ (b : Bool). elim b as (λ x. Answer) [ true ↦ KeptWhole now | false ↦ KeptShort now ]) (sym (ne_eqb now before n))

-- what was seen, as numbers
abbrev kind_of : Visited → ℕ
kind_of Kept = 0
kind_of (Left n) = 1
kind_of Dropped = 2
kind_of (MadeTrue w) = 3
kind_of Conflict = 4

abbrev left_of : Visited → ℕ
left_of Kept = 0
left_of (Left n) = n
left_of Dropped = 0
left_of (MadeTrue w) = 0
left_of Conflict = 0

module _ (t : Tables) (st : State) (w : Places) (row : List ℤ) (C : List ℤ) where
  -- what is kept of D
  abbrev Keeps : AfterWindow → ℕ → Type 0
  Keeps a n = (D : List ℤ) → row ≡ record_of D → n ≡ length D → a ≡ kept_with (length C) D t st w

  pub learn_kept : (f : Fate) (a : AfterWindow) → Kept ≡ visited_as f → row ≡ record_of (remains f C) → Keeps a (length C) → a ≡ learn_by f C t st w
  learn_kept kept a e r h = h C r refl
  learn_kept (left D) a e r h = absurd (omega (arith, ap kind_of e))
  learn_kept dropped a e r h = absurd (omega (arith, ap kind_of e))
  learn_kept (unit l) a e r h = absurd (omega (arith, ap kind_of e))
  learn_kept conflict a e r h = absurd (omega (arith, ap kind_of e))

  pub learn_left : (f : Fate) (a : AfterWindow) (n : ℕ) → Left n ≡ visited_as f → row ≡ record_of (remains f C) → Keeps a n → a ≡ learn_by f C t st w
  learn_left kept a n e r h = absurd (omega (arith, ap kind_of e))
  learn_left (left D) a n e r h = h D r (ap left_of e)
  learn_left dropped a n e r h = absurd (omega (arith, ap kind_of e))
  learn_left (unit l) a n e r h = absurd (omega (arith, ap kind_of e))
  learn_left conflict a n e r h = absurd (omega (arith, ap kind_of e))

-- a fate of which nothing is kept
pub learn_other : (t : Tables) (st : State) (w : Places) (C : List ℤ) (f : Fate) → (visited_as f ≡ Kept → ⊥) → ((n : ℕ) → visited_as f ≡ Left n → ⊥) → after_window (answered NotKept st t) w ≡ learn_by f C t st w
learn_other t st w C kept a b = absurd (a refl)
learn_other t st w C (left D) a b = absurd (b (length D) refl)
learn_other t st w C dropped a b = refl
learn_other t st w C (unit l) a b = refl
learn_other t st w C conflict a b = refl

-- a newcomer that is judged is no refusal
pub judged_number : (t : Tables) (st : State) (w : Places) (C : List ℤ) (f : Fate) → (learn_by f C t st w).made.reply.number ≡ 0
judged_number t st w C kept = number_made (kept_as (length C) (length C))
judged_number t st w C (left D) = number_made (kept_as (length C) (length D))
judged_number t st w C dropped = refl
judged_number t st w C (unit l) = refl
judged_number t st w C conflict = refl
