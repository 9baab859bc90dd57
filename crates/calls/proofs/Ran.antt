-- What the contract of `run` says of the lent records, as the contracts of the other calls say it: after the call the tables with these records are those of the definition; a refusal leaves every record, and any call the later ones. Assumes nothing.
use Rattle.std.specs.Prelude.{Err}
use Prim.Native.Nat.{ℕ, ◌*◌}
use native.Mathlib.Nat.{min-le_left}
use native.Mathlib.Omega.{arith}
use mathlib.Core.Path.{◌≡◌, ◌∙◌, ap}
use mathlib.Core.List.{List}
use lib.IntN.{ℤ}
use lib.ListN.{length, take, drop, length-take}
use Rattle.state.specs.declared.State.{State}
use Rattle.state.specs.declared.Outcome.{Outcome}
use Rattle.state.specs.declared.Refusal.{Refusal}
use Rattle.stamp_records.specs.declared.StampRecord.{StampRecord}
use Rattle.stamp_records.specs.Records.{times_of, links_of, records_in}
use Rattle.stamp_records.proofs.Over.{length_pairs}
use Rattle.stamp_records.proofs.Packed.{packed_own, columns_records, columns_packed, over_past}
use Rattle.tables.specs.Calls.{After, after, refuse}
use Rattle.run.specs.Run.{run_call}
use Rattle.calls.specs.Calls.{recorded, AfterRun, after_run, run_in_records}
use Rattle.calls.proofs.Spanned.{run_many}

module _ (n : ℕ) (clauses : List ℕ) (literals variables : List ℤ) (stamps : List StampRecord) (st : State) where
  abbrev a : After
  a = run_call n (recorded clauses literals variables stamps) st

  many_times : length a.tables.times ≡ 2 * length (take 2048 stamps)
  many_times = (run_many n (recorded clauses literals variables stamps) st).times ∙ length_pairs (λ (r : StampRecord). r.discovery) (λ (r : StampRecord). r.finish) (take 2048 stamps)

  many_links : length a.tables.links ≡ 2 * length (take 2048 stamps)
  many_links = (run_many n (recorded clauses literals variables stamps) st).links ∙ length_pairs (λ (r : StampRecord). r.parent) (λ (r : StampRecord). r.start) (take 2048 stamps)

  -- THE LAW: the contract's equation gives the one over the tables, so that a later call's contract goes on from there
  pub run_recorded : (o : Outcome) (clauses' : List ℕ) (literals' variables' : List ℤ) (stamps' : List StampRecord) → after_run o clauses' literals' variables' stamps' ≡ run_in_records a stamps → after o (recorded clauses' literals' variables' stamps') ≡ a
  run_recorded o clauses' literals' variables' stamps' e = λ i. record {
    reply = (e i).reply;
    state = (e i).state;
    tables = record { clauses = (e i).clauses; literals = (e i).literals; variables = (e i).variables; times = times_are i; links = links_are i };
  }
    where
      times_are : times_of stamps' ≡ a.tables.times
      times_are = ap (λ (s : AfterRun). times_of s.stamps) e ∙ (columns_packed a.tables.times a.tables.links stamps many_times many_links).0

      links_are : links_of stamps' ≡ a.tables.links
      links_are = ap (λ (s : AfterRun). links_of s.stamps) e ∙ (columns_packed a.tables.times a.tables.links stamps many_times many_links).1

  -- "extra places stay": so do the records past the 2,048th
  pub run_later : drop 2048 (run_in_records a stamps).stamps ≡ drop 2048 stamps
  run_later = over_past 2048 (records_in a.tables.times a.tables.links) stamps (omega (arith, many, length-take 2048 stamps, min-le_left 2048 (length stamps)))
    where
      many : length (records_in a.tables.times a.tables.links) ≡ length (take 2048 stamps)
      many = (columns_records (length (take 2048 stamps)) a.tables.times a.tables.links many_times many_links).2

-- "A refusal .. changes nothing": the tables and the records are as they were
pub run_refused : (r : Refusal) (clauses : List ℕ) (literals variables : List ℤ) (stamps : List StampRecord) (st : State)
    → run_in_records (refuse r st (recorded clauses literals variables stamps)) stamps ≡ after_run (record { answer = Err r; state = st }) clauses literals variables stamps
run_refused r clauses literals variables stamps st = ap (after_run (record { answer = Err r; state = st }) clauses literals variables) (packed_own stamps)
