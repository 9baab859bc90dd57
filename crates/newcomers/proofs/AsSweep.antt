-- Document 02, CR 1: "Refusals 1, 4, 5 and 9 apply as for a Sweep that opens."
-- THE LAW: where the window keeps its rule, 11 does not forbid the newcomer and no Sweep is open, a learn is refused with the number that a Sweep call is refused with, whatever its visits, and with none where that is made (`as_sweep`). Where a Sweep is open, it is refused with 4 or with 1 (`open_sweep`). Assumes nothing.
use Prim.Native.Nat.{ℕ}
use mathlib.Core.Path.{◌≡◌, refl, sym, ap, ◌∙◌}
use mathlib.Core.Bool.{Bool, true, false}
use mathlib.Core.Logic.{◌⊎◌, inl, inr}
use mathlib.Core.List.{List}
use lib.IntN.{ℤ}
use Rattle.std.specs.Prelude.{Result, Err}
use Rattle.stamp_columns.specs.Columns.{columns}
use Rattle.state.specs.declared.State.{State}
use Rattle.state.specs.declared.Refusal.{Refusal}
use Rattle.state.specs.declared.Refusal.TheVariants as refusal
use Rattle.state.specs.declared.Pass.{Pass}
use Rattle.state.specs.declared.Pass.TheVariants.{Idle, Propagate, Merge, Sweep}
use Rattle.tables.specs.Tables.{Tables}
use Rattle.tables.specs.Calls.{After}
use Rattle.shape.specs.Decision.{shape_ok}
use Rattle.entry.specs.Entry.{opening_by, entry_by, entry_of}
use Rattle.entry.specs.declared.Entry.{Entry}
use Rattle.entry.specs.declared.PassName.TheVariants as own
use Rattle.visits.proofs.Advancing.{advance_cases}
use Rattle.sweep_visits.specs.Clause.{sweep_clause}
use Rattle.sweep.specs.Sweep.{sweep_from, sweep_unless_stale, sweep_by, sweep_call}
use Rattle.window.specs.Window.{Places, AfterWindow, refuse_with}
use Rattle.window.specs.Rule.{learnable_ok, window_ok}
use Rattle.learn.specs.Learn.{learn_if, learn_unless_stale, learn_opening, learn_ruled, learn_call}
use Rattle.learn.proofs.Answering.{judged_number}

abbrev pub NoSweep : Pass → Type 0
NoSweep Idle = Unit {0}
NoSweep (Propagate cursor changed) = Unit {0}
NoSweep (Merge cursor) = Unit {0}
NoSweep (Sweep cursor) = ⊥

-- the number of the refusal, 0 where there is none
abbrev number_of : AfterWindow → ℕ
number_of a = a.made.reply.number

-- a Sweep that opens with fresh stamps is made
pub sweep_number : (steps : ℕ) (t : Tables) (st : State) → (sweep_from steps 0 t st).reply.number ≡ 0
sweep_number steps t st = advance_cases Sweep true false (sweep_clause (columns t.times t.links)) steps 0 t st (λ (a : After). a.reply.number ≡ 0) (λ counts lt. refl) (λ counts done. refl)

module _ (steps : ℕ) (C : List ℤ) (t : Tables) (st : State) (w : Places) where
  module _ (ruled : window_ok st.v w ≡ true) (allowed : learnable_ok st.v C ≡ true) where
    stale : (fresh : Bool) → number_of (learn_unless_stale fresh C t st w) ≡ (sweep_unless_stale fresh steps 0 t st).reply.number
    stale true = ap (λ (b : Bool). number_of (learn_if b C t st w)) allowed ∙ judged_number t st w C (sweep_clause (columns t.times t.links) C) ∙ sym (sweep_number steps t st)
    stale false = refl

    opens : (p : Pass) (mark : Bool) → NoSweep p → number_of (learn_opening (opening_by p mark) C t st w) ≡ (sweep_by (entry_by own.Sweep p mark) steps t st).reply.number
    opens (Sweep _) mark n = elim n [ ]
    opens Idle true n = refl
    opens Idle false n = stale st.fresh
    opens (Propagate cursor changed) mark n = refl
    opens (Merge cursor) mark n = refl

    pub as_sweep : NoSweep st.pass → number_of (learn_call C t st w) ≡ (sweep_call steps t st).reply.number
    unfolding learn_call sweep_call entry_of
    as_sweep n = by (shape_ok t st)
      where
        by : (b : Bool) → number_of (elim b as (λ x. AfterWindow) [ true ↦ learn_ruled (window_ok st.v w) C t st w | false ↦ refuse_with refusal.Shape t st w ])
            ≡ (sweep_by (elim b as (λ x. Result Entry Refusal) [ true ↦ entry_by own.Sweep st.pass st.mark | false ↦ Err refusal.Shape ]) steps t st).reply.number
        by true = ap (λ (b : Bool). number_of (learn_ruled b C t st w)) ruled ∙ opens st.pass st.mark n
        by false = refl

  -- an open Sweep is not resumed
  pub open_sweep : (cursor : ℕ) → st.pass ≡ Sweep cursor → (number_of (learn_call C t st w) ≡ 1) ⊎ (number_of (learn_call C t st w) ≡ 4)
  unfolding learn_call
  open_sweep cursor e = by (shape_ok t st) (window_ok st.v w)
    where
      by : (a b : Bool) → (number_of (elim a as (λ x. AfterWindow) [ true ↦ learn_ruled b C t st w | false ↦ refuse_with refusal.Shape t st w ]) ≡ 1)
          ⊎ (number_of (elim a as (λ x. AfterWindow) [ true ↦ learn_ruled b C t st w | false ↦ refuse_with refusal.Shape t st w ]) ≡ 4)
      by true true = inr (ap (λ (p : Pass). number_of (learn_opening (opening_by p st.mark) C t st w)) e)
      by true false = inl refl
      by false b = inl refl
