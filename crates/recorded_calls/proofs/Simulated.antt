-- A call over records is one over columns: where k records are lent, 2k numbers of each column are. So a list of calls over records leaves what a list over columns does. Assumes nothing.
use Prim.Native.Nat.{ℕ, ◌*◌}
use mathlib.Core.Path.{◌≡◌, refl, sym, ap, ◌∙◌}
use mathlib.Core.List.{List, [], ◌∷◌, ◌++◌, map}
use lib.ListN.{length, take, drop}
use lib.IntN.{ℤ}
use Rattle.state.specs.declared.State.{State}
use Rattle.stamp_records.specs.declared.StampRecord.{StampRecord}
use Rattle.stamp_records.specs.Records.{times_in, links_in, times_of, links_of, records_in, packed}
use Rattle.stamp_records.proofs.Over.{length_pairs}
use Rattle.stamp_records.proofs.Packed.{columns_records}
use Rattle.tables.specs.Tables.{Tables, tables}
use Rattle.tables.specs.Calls.{After}
use Rattle.calls.proofs.Recorded.{Kept, stamp_kept}
use Rattle.call_lists.specs.Lists.{Call, propagate, merge, stamp, failed, sweep, programme, call_on}
use Rattle.call_lists.specs.Lists as columns
use Rattle.recorded_calls.specs.Steps.{CallerTables, columned, AfterCall, reading_stamps, writing_stamps, call_on_records, Lent, lend, give_back, Step, with_back, step_on, Trail, steps_on}
use Rattle.recorded_calls.proofs.Reading.{Reads, propagate_reads, merge_reads, failed_reads, sweep_reads, set_reads}
use Rattle.recorded_calls.proofs.Columns.{column_lent, column_read, column_written}

-- ---- the call over columns that a call over records is

abbrev pub in_columns : Lent → columns.Lent
in_columns k = record { clauses = k.clauses; literals = k.literals; variables = k.variables; times = 2 * k.stamps; links = 2 * k.stamps }

abbrev pub step_in_columns : Step → columns.Step
step_in_columns s = record { call = s.call; lent = in_columns s.lent }

-- what a call over records leaves, with the columns of its records
abbrev pub left_in_columns : AfterCall → After
left_in_columns a = record { reply = a.reply; state = a.state; tables = columned a.held }

-- the same numbers are lent
lent_same : (k : Lent) (h : CallerTables) → columns.lend (in_columns k) (columned h) ≡ columned (lend k h)
lent_same k h = λ i.
    tables (take k.clauses h.clauses) (take k.literals h.literals) (take k.variables h.variables)
    (column_lent (λ (r : StampRecord). r.discovery) (λ (r : StampRecord). r.finish) k.stamps h.stamps i) (column_lent (λ (r : StampRecord). r.parent) (λ (r : StampRecord). r.start) k.stamps h.stamps i)

module _ (k : Lent) (h : CallerTables) where
  -- a call that reads the stamps
  reading : (a : After) → Reads (columned (lend k h)) a → columned (give_back k h (reading_stamps a (lend k h).stamps).held) ≡ columns.give_back (in_columns k) (columned h) a.tables
  reading a R = λ i.
      tables (a.tables.clauses ++ drop k.clauses h.clauses) (a.tables.literals ++ drop k.literals h.literals) (a.tables.variables ++ drop k.variables h.variables) (times_are i) (links_are i)
    where
      times_are : times_of (take k.stamps h.stamps ++ drop k.stamps h.stamps) ≡ a.tables.times ++ drop (2 * k.stamps) (times_of h.stamps)
      times_are =
          column_read (λ (r : StampRecord). r.discovery) (λ (r : StampRecord). r.finish) k.stamps h.stamps ∙ ap (λ (l : List ℕ). l ++ drop (2 * k.stamps) (times_of h.stamps)) (sym R.times)

      links_are : links_of (take k.stamps h.stamps ++ drop k.stamps h.stamps) ≡ a.tables.links ++ drop (2 * k.stamps) (links_of h.stamps)
      links_are = column_read (λ (r : StampRecord). r.parent) (λ (r : StampRecord). r.start) k.stamps h.stamps ∙ ap (λ (l : List ℤ). l ++ drop (2 * k.stamps) (links_of h.stamps)) (sym R.links)

  -- Stamp: the numbers of its columns are as many as those of the records lent
  writing : (a : After) → Kept (columned (lend k h)) a.tables → columned (give_back k h (writing_stamps a (lend k h)).held) ≡ columns.give_back (in_columns k) (columned h) a.tables
  writing a K = λ i.
      tables (K.clauses i ++ drop k.clauses h.clauses) (K.literals i ++ drop k.literals h.literals) (K.variables i ++ drop k.variables h.variables) (times_are i) (links_are i)
    where
      rs : List StampRecord
      rs = take k.stamps h.stamps

      own : (times_in (records_in a.tables.times a.tables.links) ≡ a.tables.times) × (links_in (records_in a.tables.times a.tables.links) ≡ a.tables.links)
          × (length (records_in a.tables.times a.tables.links) ≡ length (take 2048 rs))
      own =
          columns_records (length (take 2048 rs)) a.tables.times a.tables.links (K.times ∙ length_pairs (λ (r : StampRecord). r.discovery) (λ (r : StampRecord). r.finish) (take 2048 rs))
          (K.links ∙ length_pairs (λ (r : StampRecord). r.parent) (λ (r : StampRecord). r.start) (take 2048 rs))

      times_are : times_of (packed a.tables.times a.tables.links rs ++ drop k.stamps h.stamps) ≡ a.tables.times ++ drop (2 * k.stamps) (times_of h.stamps)
      times_are =
          column_written (λ (r : StampRecord). r.discovery) (λ (r : StampRecord). r.finish) k.stamps (records_in a.tables.times a.tables.links) h.stamps own.2
          ∙ ap (λ (l : List ℕ). l ++ drop (2 * k.stamps) (times_of h.stamps)) own.0

      links_are : links_of (packed a.tables.times a.tables.links rs ++ drop k.stamps h.stamps) ≡ a.tables.links ++ drop (2 * k.stamps) (links_of h.stamps)
      links_are =
          column_written (λ (r : StampRecord). r.parent) (λ (r : StampRecord). r.start) k.stamps (records_in a.tables.times a.tables.links) h.stamps own.2
          ∙ ap (λ (l : List ℤ). l ++ drop (2 * k.stamps) (links_of h.stamps)) own.1

  called : (c : Call) (st : State) → left_in_columns (with_back k h (call_on_records c (lend k h) st)) ≡ columns.with_back (in_columns k) (columned h) (call_on c (columned (lend k h)) st)
  called (propagate steps) st = let a = call_on (propagate steps) (columned (lend k h)) st in λ i. record { reply = a.reply; state = a.state; tables = reading a (propagate_reads steps (columned (lend k h)) st) i }
  called (merge steps) st = let a = call_on (merge steps) (columned (lend k h)) st in λ i. record { reply = a.reply; state = a.state; tables = reading a (merge_reads steps (columned (lend k h)) st) i }
  called (stamp order) st = let a = call_on (stamp order) (columned (lend k h)) st in λ i. record { reply = a.reply; state = a.state; tables = writing a (stamp_kept order (columned (lend k h)) st) i }
  called failed st = let a = call_on failed (columned (lend k h)) st in λ i. record { reply = a.reply; state = a.state; tables = reading a (failed_reads (columned (lend k h)) st) i }
  called (sweep steps) st = let a = call_on (sweep steps) (columned (lend k h)) st in λ i. record { reply = a.reply; state = a.state; tables = reading a (sweep_reads steps (columned (lend k h)) st) i }
  called (programme codes) st = let a = call_on (programme codes) (columned (lend k h)) st in λ i. record { reply = a.reply; state = a.state; tables = reading a (set_reads codes (columned (lend k h)) st) i }

-- ---- lists of calls

pub step_simulated : (s : Step) (h : CallerTables) (st : State) → columns.step_on (step_in_columns s) (columned h) st ≡ left_in_columns (step_on s h st)
unfolding step_on columns.step_on
step_simulated s h st = ap (λ (t : Tables). columns.with_back (in_columns s.lent) (columned h) (call_on s.call t st)) (lent_same s.lent h) ∙ sym (called s.lent h s.call st)

abbrev pub trail_in_columns : Trail → columns.Trail
trail_in_columns a = record { tables = columned a.held; state = a.state; replies = a.replies }

-- THE LAW: the replies, the state and the tables
pub steps_simulated : (ss : List Step) (h : CallerTables) (st : State) → columns.steps_on (map step_in_columns ss) (columned h) st ≡ trail_in_columns (steps_on ss h st)
unfolding steps_on columns.steps_on
steps_simulated [] h st = refl
steps_simulated (s ∷ ss) h st =
    ap (λ (a : After). columns.before a.reply (columns.steps_on (map step_in_columns ss) a.tables a.state)) (step_simulated s h st)
    ∙ ap (columns.before (step_on s h st).reply) (steps_simulated ss (step_on s h st).held (step_on s h st).state)
