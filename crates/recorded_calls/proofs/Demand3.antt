-- DEMAND 3, over the calls that lend the stamps as a slice of records. After an accepted load or join and any list of Propagate, Merge, Stamp, Failed and Sweep calls and of calls that set a programme, refused ones included, with any orders, step counts and codes and any parts of the tables lent,
-- slices of fewer than 2,048 records too, an assignment satisfies what stands exactly if it satisfies the loaded formula (`records_demand_3`), and every standing clause is the loaded one of its number with literals left out,
-- class literals put in on both sides (`records_left_out`); a run behind the list keeps the assignments too (`records_run`). Assumes nothing.
use Prim.Native.Nat.{ℕ, ◌<◌}
use mathlib.Core.Path.{◌≡◌, sym, ap, subst, ◌∙◌}
use mathlib.Core.Bool.{false}
use mathlib.Core.Logic.{◌↔◌}
use mathlib.Core.List.{List, map, Sublistᴰ}
use lib.ListN.{take}
use lib.IntN.{ℤ}
use Rattle.literal.specs.Literals.{slot_of}
use Rattle.literal.specs.Clauses.{distinct, tautology}
use Rattle.literal.specs.Assignments.{Assignment, Satisfies}
use Rattle.state.specs.declared.State.{State}
use Rattle.stamp_records.specs.declared.StampRecord.{StampRecord}
use Rattle.stamp_records.specs.Records.{times_of, links_of, packed}
use Rattle.stamp_records.proofs.Over.{length_pairs}
use Rattle.stamp_records.proofs.Packed.{columns_packed}
use Rattle.tables.specs.Tables.{tables, standing}
use Rattle.tables.specs.Values.{class_literal}
use Rattle.tables.specs.Clauses.{literals_of}
use Rattle.tables.specs.Stands.{Stands}
use Rattle.tables.specs.Calls.{After}
use Rattle.call_lists.specs.Starts.{Start, start_on, Started, formula, begun}
use Rattle.run.specs.Run.{run_call}
use Rattle.call_lists.specs.Lists as columns
use Rattle.calls.proofs.Spanned.{AsMany, run_many}
use Rattle.refinement.proofs.Laid.{nth}
use Rattle.refinement.proofs.Running.{runs_keep}
use Rattle.refinement.proofs.Demand3.{demand_3, left_out}
use Rattle.recorded_calls.specs.Steps.{CallerTables, columned, start_on_records, StartedOnRecords, begun_on_records, run_on_records, Step, Trail, steps_on}
use Rattle.recorded_calls.proofs.Reading.{Reads, start_reads}
use Rattle.recorded_calls.proofs.Simulated.{step_in_columns, trail_in_columns, left_in_columns, steps_simulated}

-- a load or a join over records is one over their columns
start_simulated : (s : Start) (h : CallerTables) (st : State) → start_on s (columned h) st ≡ left_in_columns (start_on_records s h st)
start_simulated s h st = λ i. record { reply = a.reply; state = a.state; tables = tables a.tables.clauses a.tables.literals a.tables.variables (R.times i) (R.links i) }
  where
    a : After
    a = start_on s (columned h) st

    R : Reads (columned h) a
    R = start_reads s (columned h) st

-- a run over records is the run over their columns
run_simulated : (count : ℕ) (h : CallerTables) (st : State) → run_call count (columned h) st ≡ left_in_columns (run_on_records count h st)
run_simulated count h st = λ i. record { reply = a.reply; state = a.state; tables = tables a.tables.clauses a.tables.literals a.tables.variables (sym packs.0 i) (sym packs.1 i) }
  where
    a : After
    a = run_call count (columned h) st

    M : AsMany (columned h) a.tables
    M = run_many count (columned h) st

    packs : (times_of (packed a.tables.times a.tables.links h.stamps) ≡ a.tables.times) × (links_of (packed a.tables.times a.tables.links h.stamps) ≡ a.tables.links)
    packs =
        columns_packed a.tables.times a.tables.links h.stamps (M.times ∙ length_pairs (λ (r : StampRecord). r.discovery) (λ (r : StampRecord). r.finish) (take 2048 h.stamps))
        (M.links ∙ length_pairs (λ (r : StampRecord). r.parent) (λ (r : StampRecord). r.start) (take 2048 h.stamps))

-- the class literals of a list, on slots
abbrev through : List ℤ → List ℤ → List ℕ
through variables C = map (λ l. slot_of (class_literal variables l)) C

module _ (b : StartedOnRecords) (ss : List Step) where
  -- over the columns
  abbrev begins : Started
  begins = record { start = b.start; tables = columned b.held; state = b.state; accepted = b.accepted }

  -- what stands after the load and the list
  abbrev ended : Trail
  ended = steps_on ss (begun_on_records b).held (begun_on_records b).state

  simulated : columns.steps_on (map step_in_columns ss) (begun begins).tables (begun begins).state ≡ trail_in_columns ended
  simulated =
      ap (λ (a : After). columns.steps_on (map step_in_columns ss) a.tables a.state) (start_simulated b.start b.held b.state) ∙ steps_simulated ss (begun_on_records b).held (begun_on_records b).state

  pub records_demand_3 : (τ : Assignment) → Stands (columned ended.held) ended.state τ ↔ Satisfies τ (formula begins)
  records_demand_3 τ = subst (λ (w : columns.Trail). Stands w.tables w.state τ ↔ Satisfies τ (formula begins)) simulated (demand_3 begins (map step_in_columns ss) τ)

  pub records_left_out : (i : ℕ) → i < ended.state.n → standing ended.held.clauses i ≡ 1
      → (tautology (nth (formula begins) i) ≡ false)
      × Sublistᴰ (through ended.held.variables (literals_of ended.held.clauses ended.held.literals i)) (through ended.held.variables (distinct (nth (formula begins) i)))
  records_left_out =
      subst
      (λ (w : columns.Trail). (i : ℕ) → i < w.state.n → standing w.tables.clauses i ≡ 1
      → (tautology (nth (formula begins) i) ≡ false)
      × Sublistᴰ (through w.tables.variables (literals_of w.tables.clauses w.tables.literals i)) (through w.tables.variables (distinct (nth (formula begins) i))))
      simulated
      (left_out begins (map step_in_columns ss))

  -- a run behind the list: whatever programme the list has set
  pub records_run : (count : ℕ) (τ : Assignment) → let ran = run_on_records count ended.held ended.state in Stands (columned ran.held) ran.state τ ↔ Satisfies τ (formula begins)
  records_run count τ =
      subst (λ (a : After). Stands a.tables a.state τ ↔ Satisfies τ (formula begins))
      (ap (λ (w : columns.Trail). run_call count w.tables w.state) simulated ∙ run_simulated count ended.held ended.state)
      (runs_keep begins (map step_in_columns ss) count τ)
