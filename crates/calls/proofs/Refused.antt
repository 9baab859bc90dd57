-- Every call's definition refuses short columns with 1 and changes nothing, and so a slice of fewer than 2,048 records. Assumes nothing.
use Prim.Native.Nat.{ℕ, ◌<◌}
use mathlib.Core.Path.{◌≡◌, refl, sym, ap}
use mathlib.Core.Bool.{Bool, true, false}
use mathlib.Core.List.{List}
use lib.IntN.{ℤ}
use lib.ListN.{length}
use Rattle.std.specs.Prelude.{Result, Err}
use Rattle.state.specs.declared.State.{State}
use Rattle.state.specs.declared.Refusal.{Refusal}
use Rattle.state.specs.declared.Refusal.TheVariants.{Shape}
use Rattle.stamp_records.specs.declared.StampRecord.{StampRecord}
use Rattle.tables.specs.Tables.{Tables}
use Rattle.tables.specs.Calls.{After, refuse}
use Rattle.entry.specs.declared.PassName.TheVariants as own
use Rattle.entry.specs.declared.Entry.{Entry}
use Rattle.dimacs.specs.Text.{judge_text, body_of}
use Rattle.window.specs.Window.{Places, AfterWindow, after_window, refuse_with}
use Rattle.window.specs.Rule.{long_window_ok, window_ok}
use Rattle.load.specs.Load.{load_by, load_call, emptied_by, load_with}
use Rattle.write.specs.Write.{AfterWrite, after_write, write_into, write_text, write_call}
use Rattle.propagate.specs.Propagate.{propagate_by, propagate_call}
use Rattle.merge.specs.Merge.{merge_by, merge_call}
use Rattle.stamp.specs.Stamp.{stamp_by, stamp_call}
use Rattle.failed.specs.Failed.{failed_by, failed_call}
use Rattle.sweep.specs.Sweep.{sweep_by, sweep_call}
use Rattle.learn.specs.Learn.{learn_ruled, learn_call}
use Rattle.explain.specs.Explain.{explain_opening, explain_call}
use Rattle.run.specs.Run.{run_by, run_call}
use Rattle.set_programme.specs.SetProgramme.{set_call}
use Rattle.set_programme.proofs.Setting.{set_misshapen}
use Rattle.calls.specs.Calls.{recorded}
use Rattle.calls.proofs.Short.{short_shape, short_entry, short_opening, short_long, few_lent}

module _ (t : Tables) (st : State) (short : length t.times < 4096) where
  load_short : (text : List ℕ) → load_call text t st ≡ refuse Shape st t
  unfolding load_call
  load_short text = ap (λ (b : Bool). elim b as (λ y. After) [ true ↦ load_by (judge_text text) (body_of text (judge_text text)) t st | false ↦ refuse Shape st t ]) (short_long t short)

  -- with the window, whether that is long enough or not
  pub load_with_short : (text : List ℕ) (w : Places) → load_with text t st w ≡ refuse_with Shape t st w
  unfolding load_with
  load_with_short text w = by (long_window_ok w)
    where
      by : (b : Bool) → elim b as (λ y. AfterWindow) [ true ↦ after_window (load_call text t st) (emptied_by (load_call text t st).reply.number w) | false ↦ refuse_with Shape t st w ] ≡ refuse_with Shape t st w
      by true = ap (λ (a : After). after_window a (emptied_by a.reply.number w)) (load_short text)
      by false = refl

  pub write_short : (out : List ℕ) → write_call t st out ≡ after_write (Err Shape) out
  unfolding write_call
  write_short out = ap (λ (b : Bool). elim b as (λ y. AfterWrite) [ true ↦ write_into (write_text t st) out | false ↦ after_write (Err Shape) out ]) (short_shape t short st)

  pub propagate_short : (n : ℕ) → propagate_call n t st ≡ refuse Shape st t
  unfolding propagate_call
  propagate_short n = ap (λ (e : Result Entry Refusal). propagate_by e n t st) (short_entry t short own.Propagate st)

  pub merge_short : (n : ℕ) → merge_call n t st ≡ refuse Shape st t
  unfolding merge_call
  merge_short n = ap (λ (e : Result Entry Refusal). merge_by e n t st) (short_entry t short own.Merge st)

  pub stamp_short : (order : List ℤ) → stamp_call order t st ≡ refuse Shape st t
  unfolding stamp_call
  stamp_short order = ap (λ (e : Result (Unit {0}) Refusal). stamp_by e order t st) (short_opening t short st)

  pub failed_short : failed_call t st ≡ refuse Shape st t
  unfolding failed_call
  failed_short = ap (λ (e : Result (Unit {0}) Refusal). failed_by e t st) (short_opening t short st)

  pub sweep_short : (n : ℕ) → sweep_call n t st ≡ refuse Shape st t
  unfolding sweep_call
  sweep_short n = ap (λ (e : Result Entry Refusal). sweep_by e n t st) (short_entry t short own.Sweep st)

  pub learn_short : (C : List ℤ) (w : Places) → learn_call C t st w ≡ refuse_with Shape t st w
  unfolding learn_call
  learn_short C w = ap (λ (b : Bool). elim b as (λ y. AfterWindow) [ true ↦ learn_ruled (window_ok st.v w) C t st w | false ↦ refuse_with Shape t st w ]) (short_shape t short st)

  pub explain_short : (number : ℕ) (out : List ℕ) → explain_call number t st out ≡ after_write (Err Shape) out
  unfolding explain_call
  explain_short number out = ap (λ (e : Result (Unit {0}) Refusal). explain_opening e number t st out) (short_opening t short st)

  pub run_short : (n : ℕ) → run_call n t st ≡ refuse Shape st t
  unfolding run_call
  run_short n = ap (λ (e : Result (Unit {0}) Refusal). run_by e n t st) (short_opening t short st)

  pub set_short : (codes : List ℕ) → set_call codes t st ≡ refuse Shape st t
  set_short codes = sym (set_misshapen codes t st (short_shape t short st))

-- document 01, refusal 1: "a table is shorter than stated", of the lent records
module _ (clauses : List ℕ) (literals variables : List ℤ) (stamps : List StampRecord) (st : State) (few : length stamps < 2048) where
  abbrev t : Tables
  t = recorded clauses literals variables stamps

  pub few_refused : ((text : List ℕ) (w : Places) → load_with text t st w ≡ refuse_with Shape t st w) × ((out : List ℕ) → write_call t st out ≡ after_write (Err Shape) out) × ((n : ℕ) → propagate_call n t st ≡ refuse Shape st t)
      × ((n : ℕ) → merge_call n t st ≡ refuse Shape st t) × ((order : List ℤ) → stamp_call order t st ≡ refuse Shape st t) × (failed_call t st ≡ refuse Shape st t) × ((n : ℕ) → sweep_call n t st ≡ refuse Shape st t)
      × ((C : List ℤ) (w : Places) → learn_call C t st w ≡ refuse_with Shape t st w) × ((n : ℕ) → run_call n t st ≡ refuse Shape st t) × ((codes : List ℕ) → set_call codes t st ≡ refuse Shape st t)
      × ((number : ℕ) (out : List ℕ) → explain_call number t st out ≡ after_write (Err Shape) out)
  few_refused = (
    load_with_short t st short,
    write_short t st short,
    propagate_short t st short,
    merge_short t st short,
    stamp_short t st short,
    failed_short t st short,
    sweep_short t st short,
    learn_short t st short,
    run_short t st short,
    set_short t st short,
    explain_short t st short,
  )
    where
      short : length t.times < 4096
      short = few_lent stamps few
