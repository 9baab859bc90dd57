-- Load, run and write put together: which way a load goes, and that a length written lies within the output. Assumes nothing.
use Rattle.std.specs.Prelude.{Result, Ok, Err}
use Prim.Native.Nat.{ℕ, zero, suc, ◌≤◌}
use native.Mathlib.Omega.{arith}
use mathlib.Core.Bool.{Bool, true, false}
use mathlib.Core.Path.{◌≡◌, refl, sym, subst}
use mathlib.Core.List.{List, ◌++◌}
use lib.ListN.{length, drop}
use lib.Dec.{leb}
use borrow.Author.Tests.{leb-true}
use Rattle.state.specs.Answers.{reply_of}
use Rattle.state.specs.declared.State.{State}
use Rattle.state.specs.declared.Refusal.{Refusal}
use Rattle.state.specs.declared.Refusal.TheVariants.{Shape, Short}
use Rattle.state.specs.declared.Answer.{Answer}
use Rattle.state.specs.declared.Answer.TheVariants.{Written}
use Rattle.state.specs.declared.Outcome.{Outcome}
use Rattle.tables.specs.Tables.{Tables}
use Rattle.tables.specs.Calls.{After, after}
use Rattle.shape.specs.Decision.{shape_ok}
use Rattle.write.specs.Write.{AfterWrite, after_write, write_into, write_text, write_call}
use Rattle.run.specs.Run.{run_call}
use Rattle.simplify.specs.Texts.{run_unless, write_after, simplify_loaded, fits}

-- a refused load is answered, and the output stays
pub refused_load : (o : Outcome) (t : Tables) (a : After) (count : ℕ) (out : List ℕ) → after o t ≡ a → ((reply_of o.answer).number ≡ 0 → ⊥) → after_write o.answer out ≡ simplify_loaded a.reply.number count a out
refused_load o t a count out same e = subst (λ (x : After). after_write o.answer out ≡ simplify_loaded x.reply.number count x out) same (go (reply_of o.answer).number e)
  where
    go : (m : ℕ) → (m ≡ 0 → ⊥) → after_write o.answer out ≡ simplify_loaded m count (after o t) out
    go zero d = absurd (d refl)
    go (suc m) d = refl

-- what another load gave is run and written
pub kept_load : (o : Outcome) (t : Tables) (a : After) (count : ℕ) (out : List ℕ) → after o t ≡ a → (reply_of o.answer).number ≡ 0 → write_after 0 (run_unless o.state.mark count (after o t)) out ≡ simplify_loaded a.reply.number count a out
kept_load o t a count out same e = subst (λ (x : After). write_after 0 (run_unless o.state.mark count (after o t)) out ≡ simplify_loaded x.reply.number count x out) same (go (reply_of o.answer).number e)
  where
    go : (m : ℕ) → m ≡ 0 → write_after 0 (run_unless o.state.mark count (after o t)) out ≡ simplify_loaded m count (after o t) out
    go zero z = refl
    go (suc m) z = absurd (omega arith)

-- a marked load is not run, and another is
pub marked_load : (b : Bool) (count : ℕ) (a : After) → b ≡ true → a ≡ run_unless b count a
marked_load b count a e = subst (λ (x : Bool). a ≡ run_unless x count a) (sym e) refl

pub unmarked_load : (b : Bool) (count : ℕ) (a : After) → b ≡ false → run_call count a.tables a.state ≡ run_unless b count a
unmarked_load b count a e = subst (λ (x : Bool). run_call count a.tables a.state ≡ run_unless x count a) (sym e) refl

-- ---- the length written

into_fits : (b : Bool) (text out : List ℕ) → (b ≡ true → length text ≤ length out) → fits (elim b as (λ x. AfterWrite) [ true ↦ after_write (Ok (Written (length text))) (text ++ drop (length text) out) | false ↦ after_write (Err (Short (length text))) out ]).reply (length out)
into_fits true text out short z = short refl
into_fits false text out short z = absurd (omega (arith, z))

call_fits : (b : Bool) (text out : List ℕ) → fits (elim b as (λ x. AfterWrite) [ true ↦ write_into text out | false ↦ after_write (Err Shape) out ]).reply (length out)
call_fits true text out = into_fits (leb (length text) (length out)) text out (leb-true (length text) (length out))
call_fits false text out = λ z. absurd (omega (arith, z))

-- what Write answers
pub write_fits : (a : Result Answer Refusal) (left out : List ℕ) (t : Tables) (st : State) → after_write a left ≡ write_call t st out → fits (reply_of a) (length out)
unfolding write_call
write_fits a left out t st e = subst (λ (w : AfterWrite). fits w.reply (length out)) (sym e) (call_fits (shape_ok t st) (write_text t st) out)
