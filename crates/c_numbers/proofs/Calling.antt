-- The ways of a call for C: the numbers cannot be read, or the call is made on them, and is refused or not. Assumes nothing.
use Prim.Native.Nat.{ℕ, zero, suc}
use mathlib.Core.Bool.{Bool, true, false}
use mathlib.Core.Path.{◌≡◌, refl, sym, ap, ◌∙◌}
use mathlib.Core.List.{List}
use lib.IntN.{ℤ}
use Rattle.state.specs.Answers.{reply_of, result_by}
use Rattle.state.specs.declared.State.{State}
use Rattle.std.specs.Prelude.{Result}
use Rattle.state.specs.declared.Answer.{Answer}
use Rattle.state.specs.declared.Refusal.{Refusal}
use Rattle.state.specs.declared.Outcome.{Outcome}
use Rattle.tables.specs.Tables.{Tables}
use Rattle.tables.specs.Calls.{After, after}
use Rattle.write.specs.Write.{AfterWrite, after_write}
use Rattle.c_numbers.specs.StateNumbers.{put_state, state_of}
use Rattle.c_numbers.specs.CCalls.{ready, put_answer, put_state_by, refuse_unread, told, AfterC, after_c, call_c, told_write, AfterWriteC, after_write_c, text_c}

-- ---- what `finish` leaves

module _ (o : Outcome) (s a : List ℕ) (r : ℤ) (left : List ℕ) (result : r ≡ result_by (reply_of o.answer).number 0) (answer : left ≡ put_answer (reply_of o.answer) a) where
  told_by : (s' : List ℕ) → s' ≡ put_state_by (reply_of o.answer).number o.state s → (t : Tables) → after_c r left s' t ≡ told (after o t) s a
  unfolding told
  told_by s' state t = λ i. after_c (result i) (answer i) (state i) t

  pub told_refused : ((reply_of o.answer).number ≡ 0 → ⊥) → (t : Tables) → after_c r left s t ≡ told (after o t) s a
  told_refused refused = told_by s (numbered (reply_of o.answer).number refused)
    where
      numbered : (n : ℕ) → (n ≡ 0 → ⊥) → s ≡ put_state_by n o.state s
      numbered zero d = absurd (d refl)
      numbered (suc n) d = refl

  pub told_made : (s' : List ℕ) → (reply_of o.answer).number ≡ 0 → s' ≡ put_state o.state s → (t : Tables) → after_c r left s' t ≡ told (after o t) s a
  told_made s' made state = told_by s' (state ∙ ap (λ (n : ℕ). put_state_by n o.state s) (sym made))

-- ---- a call

module _ (call : Tables → State → After) (t : Tables) (s a : List ℕ) where
  abbrev by_ready : Bool → AfterC
  by_ready able = elim able [ true ↦ told (call t (state_of s)) s a | false ↦ after_c (result_by 1 0) (refuse_unread a) s t ]

  pub called : ready s a ≡ true → call_c call t s a ≡ told (call t (state_of s)) s a
  unfolding call_c
  called able = ap by_ready able

  -- what `call` says of its result, its slices and the tables is what the call for C says. r is the number that the function returns, r' the one that `call` gave it; t' is what the call left of the tables
  pub given_call : (r r' : ℤ) (left s' : List ℕ) (t' : Tables) → r ≡ r' → (ready s a ≡ false → (r' ≡ result_by 1 0) × (left ≡ refuse_unread a) × (s' ≡ s) × (t' ≡ t))
      → (ready s a ≡ true → (o : Outcome) × (after o t' ≡ call t (state_of s)) × ((u : Tables) → after_c r' left s' u ≡ told (after o u) s a)) → after_c r left s' t' ≡ call_c call t s a
  unfolding call_c
  given_call r r' left s' t' result unread made = ap (λ (z : ℤ). after_c z left s' t') result ∙ by (ready s a) refl
    where
      by : (b : Bool) → ready s a ≡ b → after_c r' left s' t' ≡ by_ready (ready s a)
      by true able = let it = made able in it.2 t' ∙ ap (λ (m : After). told m s a) it.1 ∙ ap by_ready (sym able)
      by false unready = let it = unread unready in (λ i. after_c (it.0 i) (it.1 i) (it.2 i) (it.3 i)) ∙ ap by_ready (sym unready)

-- ---- a call that writes text

module _ (call : Tables → State → List ℕ → AfterWrite) (t : Tables) (s a out : List ℕ) where
  abbrev text_by_ready : Bool → AfterWriteC
  text_by_ready able = elim able [ true ↦ told_write (call t (state_of s) out) a | false ↦ after_write_c (result_by 1 0) (refuse_unread a) out ]

  pub called_text : ready s a ≡ true → text_c call t s a out ≡ told_write (call t (state_of s) out) a
  unfolding text_c
  called_text able = ap text_by_ready able

  -- what `call_text` says is what the call for C says
  pub given_text : (r r' : ℤ) (left out' : List ℕ) → r ≡ r' → (ready s a ≡ false → (r' ≡ result_by 1 0) × (left ≡ refuse_unread a) × (out' ≡ out))
      → (ready s a ≡ true → (given : Result Answer Refusal) × (after_write given out' ≡ call t (state_of s) out) × (r' ≡ result_by (reply_of given).number 0) × (left ≡ put_answer (reply_of given) a)) → after_write_c r left out' ≡ text_c call t s a out
  unfolding text_c told_write
  given_text r r' left out' result unread made = ap (λ (z : ℤ). after_write_c z left out') result ∙ by (ready s a) refl
    where
      by : (b : Bool) → ready s a ≡ b → after_write_c r' left out' ≡ text_by_ready (ready s a)
      by true able = let it = made able in (λ i. after_write_c (it.2 i) (it.3 i) out') ∙ ap (λ (m : AfterWrite). told_write m a) it.1 ∙ ap text_by_ready (sym able)
      by false unready = let it = unread unready in (λ i. after_write_c (it.0 i) (it.1 i) (it.2 i)) ∙ ap text_by_ready (sym unready)
