-- A step is what the code of crate `calls` does: the equation of each contract there says that the call leaves what the step's definition says, and a slice of fewer than 2,048 records is refused. A load takes a window too: one that is shorter than stated is refused, and with any other the load leaves what its definition over records says. Assumes nothing.
use Rattle.std.specs.Prelude.{Result, Ok, Err}
use Prim.Native.Nat.{ℕ, ◌<◌}
use native.Mathlib.Omega.{arith}
use mathlib.Core.Path.{◌≡◌, refl, sym, ap, ◌∙◌}
use mathlib.Core.Bool.{Bool, true, false}
use mathlib.Core.List.{List}
use lib.IntN.{ℤ}
use lib.ListN.{length, take, take-append-drop}
use Rattle.state.specs.Answers.{reply_of}
use Rattle.state.specs.declared.State.{State}
use Rattle.state.specs.declared.Outcome.{Outcome}
use Rattle.state.specs.declared.Answer.{Answer}
use Rattle.state.specs.declared.Answer.TheVariants.{Loaded}
use Rattle.state.specs.declared.Refusal.{Refusal}
use Rattle.state.specs.declared.Refusal.TheVariants.{Shape}
use Rattle.stamp_records.specs.declared.StampRecord.{StampRecord}
use Rattle.stamp_records.specs.Records.{times_of}
use Rattle.stamp_records.proofs.Packed.{packed_own}
use Rattle.tables.specs.Tables.{Tables}
use Rattle.tables.specs.Calls.{After, after, refuse}
use Rattle.window.specs.declared.Windowed.{Windowed}
use Rattle.window.specs.Window.{Places, AfterWindow, after_window, after_with, refuse_with}
use Rattle.window.specs.Rule.{LongWindow, long_window_ok, long_exact}
use Rattle.load.specs.Load.{load_call, emptied_by, load_with}
use Rattle.propagate.specs.Propagate.{propagate_call}
use Rattle.merge.specs.Merge.{merge_call}
use Rattle.stamp.specs.Stamp.{stamp_call}
use Rattle.failed.specs.Failed.{failed_call}
use Rattle.sweep.specs.Sweep.{sweep_call}
use Rattle.set_programme.specs.SetProgramme.{set_call}
use Rattle.run.specs.Run.{run_call}
use Rattle.calls.specs.Calls.{recorded, AfterStamp, after_stamp, in_records, AfterRun, after_run, run_in_records}
use Rattle.calls.proofs.Short.{few_lent}
use Rattle.calls.proofs.Refused.{propagate_short, merge_short, stamp_short, failed_short, sweep_short, set_short}
use Rattle.call_lists.specs.Lists.{Call, propagate, merge, stamp, failed, sweep, programme}
use Rattle.recorded_calls.specs.Steps.{CallerTables, caller_tables, columned, AfterCall, leaving, reading_stamps, writing_stamps, call_on_records, load_on_records, run_on_records, lend, Step, with_back, step_on}

-- before the call the tables, the records and the state are these; the code's outcome is o, and what it wrote is primed
module _ (clauses : List ℕ) (literals variables : List ℤ) (stamps : List StampRecord) (st : State) (o : Outcome) where
  abbrev h : CallerTables
  h = caller_tables clauses literals variables stamps

  abbrev t : Tables
  t = recorded clauses literals variables stamps

  pub propagate_leaves : (n : ℕ) (clauses' : List ℕ) (literals' variables' : List ℤ) → after o (recorded clauses' literals' variables' stamps) ≡ propagate_call n t st → leaving o (caller_tables clauses' literals' variables' stamps) ≡ call_on_records (propagate n) h st
  propagate_leaves n clauses' literals' variables' e = ap (λ (a : After). reading_stamps a stamps) e

  pub merge_leaves : (n : ℕ) (clauses' : List ℕ) (literals' variables' : List ℤ) → after o (recorded clauses' literals' variables' stamps) ≡ merge_call n t st → leaving o (caller_tables clauses' literals' variables' stamps) ≡ call_on_records (merge n) h st
  merge_leaves n clauses' literals' variables' e = ap (λ (a : After). reading_stamps a stamps) e

  pub stamp_leaves : (order : List ℤ) (stamps' : List StampRecord) → after_stamp o stamps' ≡ in_records (stamp_call order t st) stamps → leaving o (caller_tables clauses literals variables stamps') ≡ call_on_records (stamp order) h st
  stamp_leaves order stamps' e = ap (λ (a : AfterStamp). record { reply = a.reply; state = a.state; held = caller_tables clauses literals variables a.stamps }) e

  pub failed_leaves : (variables' : List ℤ) → after o (recorded clauses literals variables' stamps) ≡ failed_call t st → leaving o (caller_tables clauses literals variables' stamps) ≡ call_on_records failed h st
  failed_leaves variables' e = ap (λ (a : After). reading_stamps a stamps) e

  pub sweep_leaves : (n : ℕ) (clauses' : List ℕ) (literals' : List ℤ) → after o (recorded clauses' literals' variables stamps) ≡ sweep_call n t st → leaving o (caller_tables clauses' literals' variables stamps) ≡ call_on_records (sweep n) h st
  sweep_leaves n clauses' literals' e = ap (λ (a : After). reading_stamps a stamps) e

  pub set_leaves : (codes : List ℕ) → after o (recorded clauses literals variables stamps) ≡ set_call codes t st → leaving o (caller_tables clauses literals variables stamps) ≡ call_on_records (programme codes) h st
  set_leaves codes e = ap (λ (a : After). reading_stamps a stamps) e

  pub run_leaves : (n : ℕ) (clauses' : List ℕ) (literals' variables' : List ℤ) (stamps' : List StampRecord)
      → after_run o clauses' literals' variables' stamps' ≡ run_in_records (run_call n t st) stamps → leaving o (caller_tables clauses' literals' variables' stamps') ≡ run_on_records n h st
  run_leaves n clauses' literals' variables' stamps' e = ap (λ (a : AfterRun). record { reply = a.reply; state = a.state; held = caller_tables a.clauses a.literals a.variables a.stamps }) e

-- ---- a load, with the window

-- "A refusal .. changes nothing"
abbrev refused_short : State → CallerTables → AfterCall
refused_short st h = leaving (record { answer = Err Shape; state = st }) h

-- the contract of `load`, with what the code gives back (r) and what it wrote (primed). The call that the theorems speak of is that of the tables
module _ (text clauses : List ℕ) (literals variables : List ℤ) (stamps : List StampRecord) (st : State) (w : Places) (r : Windowed) (clauses' : List ℕ) (literals' variables' : List ℤ) (sizes' : List ℕ) (learnt' : List ℤ)
    (contract : after_with r (recorded clauses' literals' variables' stamps) sizes' learnt' ≡ load_with text (recorded clauses literals variables stamps) st w) where
  abbrev loaded : AfterCall
  loaded = leaving r.outcome (caller_tables clauses' literals' variables' stamps)

  abbrev given : CallerTables
  given = caller_tables clauses literals variables stamps

  by_window : (b : Bool) → long_window_ok w ≡ b → loaded ≡ elim b as (λ x. AfterCall) [ true ↦ load_on_records text given st | false ↦ refused_short st given ]
  unfolding load_with
  by_window b e = ap (λ (a : AfterWindow). reading_stamps a.made stamps) contract ∙ whole (long_window_ok w) ∙ ap (λ (x : Bool). elim x as (λ y. AfterCall) [ true ↦ load_on_records text given st | false ↦ refused_short st given ]) e
    where
      whole : (x : Bool) → reading_stamps (elim x as (λ y. AfterWindow) [ true ↦ after_window (load_call text (columned given) st) (emptied_by (load_call text (columned given) st).reply.number w) | false ↦ refuse_with Shape (columned given) st w ]).made stamps
          ≡ elim x as (λ y. AfterCall) [ true ↦ load_on_records text given st | false ↦ refused_short st given ]
      whole true = refl
      whole false = refl

  -- a window that is long enough
  pub load_leaves : LongWindow w → loaded ≡ load_on_records text given st
  load_leaves long = go (long_window_ok w) refl
    where
      go : (b : Bool) → long_window_ok w ≡ b → loaded ≡ load_on_records text given st
      go true at = by_window true at
      go false at = absurd ((long_exact w).fails at long)

  -- and a shorter one
  pub load_refuses : (LongWindow w → ⊥) → loaded ≡ refused_short st given
  load_refuses short = go (long_window_ok w) refl
    where
      go : (b : Bool) → long_window_ok w ≡ b → loaded ≡ refused_short st given
      go true at = absurd (short ((long_exact w).holds at))
      go false at = by_window false at

  -- so that an accepted load is always the one that the theorems speak of
  pub load_accepted : r.outcome.answer ≡ Ok Loaded → loaded ≡ load_on_records text given st
  load_accepted e = go (long_window_ok w) refl
    where
      go : (b : Bool) → long_window_ok w ≡ b → loaded ≡ load_on_records text given st
      go true at = by_window true at
      go false at = absurd (omega (arith, ap (λ (a : Result Answer Refusal). (reply_of a).number) (sym e) ∙ ap (λ (a : AfterCall). a.reply.number) (by_window false at)))

-- ---- short slices

module _ (h : CallerTables) (st : State) (few : length h.stamps < 2048) where
  short : length (times_of h.stamps) < 4096
  short = few_lent h.stamps few

  refuses : {a : After} → a ≡ refuse Shape st (columned h) → reading_stamps a h.stamps ≡ refused_short st h
  refuses e = ap (λ (x : After). reading_stamps x h.stamps) e

  few_called : (c : Call) → call_on_records c h st ≡ refused_short st h
  few_called (propagate n) = refuses (propagate_short (columned h) st short n)
  few_called (merge n) = refuses (merge_short (columned h) st short n)
  few_called (stamp order) =
      ap (λ (x : After). writing_stamps x h) (stamp_short (columned h) st short order)
      ∙ ap (λ (rs : List StampRecord). refused_short st (caller_tables h.clauses h.literals h.variables rs)) (packed_own h.stamps)
  few_called failed = refuses (failed_short (columned h) st short)
  few_called (sweep n) = refuses (sweep_short (columned h) st short n)
  few_called (programme codes) = refuses (set_short (columned h) st short codes)

-- a call that is lent fewer than 2,048 records answers 1, and its caller holds what it held
pub short_slice : (s : Step) (h : CallerTables) (st : State) → length (take s.lent.stamps h.stamps) < 2048 → step_on s h st ≡ refused_short st h
unfolding step_on
short_slice s h st few =
    ap (with_back s.lent h) (few_called (lend s.lent h) st few s.call)
    ∙ (λ i. refused_short st (caller_tables (take-append-drop s.lent.clauses h.clauses i) (take-append-drop s.lent.literals h.literals i) (take-append-drop s.lent.variables h.variables i) (take-append-drop s.lent.stamps h.stamps i)))
