-- The call of Sweep, which visits clauses from the cursor on. Document 01: "Stamps .. are spent .. by Sweep's end". Refusal 9: stamps not fresh.
-- Assumes nothing: these are definitions.
use Rattle.std.specs.Prelude.{ℕ, Bool, true, false, Result, Ok, Err}
use Rattle.stamp_columns.specs.Columns.{columns}
use Rattle.state.specs.declared.State.{State}
use Rattle.state.specs.declared.Pass.TheVariants.{Sweep}
use Rattle.state.specs.declared.Refusal.{Refusal}
use Rattle.state.specs.declared.Refusal.TheVariants.{Stale}
use Rattle.tables.specs.Tables.{Tables}
use Rattle.tables.specs.Passes.{advance}
use Rattle.tables.specs.Calls.{After, refuse}
use Rattle.entry.specs.Entry.{entry_of}
use Rattle.entry.specs.declared.PassName.TheVariants as own
use Rattle.entry.specs.declared.Entry.{Entry}
use Rattle.entry.specs.declared.Entry.TheVariants.{Opens, Resumes}
use Rattle.sweep_visits.specs.Clause.{sweep_clause}

-- stamps stay fresh while Sweep is open, and are spent by its end
abbrev pub sweep_from : ℕ → ℕ → Tables → State → After
sweep_from steps k t st = advance (sweep_clause (columns t.times t.links)) Sweep true false steps k t st

-- from clause k on
abbrev pub sweep_unless_stale : Bool → ℕ → ℕ → Tables → State → After
sweep_unless_stale true steps k t st = sweep_from steps k t st
sweep_unless_stale false steps k t st = refuse Stale st t

abbrev pub sweep_by : Result Entry Refusal → ℕ → Tables → State → After
sweep_by (Err r) steps t st = refuse r st t
sweep_by (Ok Opens) steps t st = sweep_unless_stale st.fresh steps 0 t st
sweep_by (Ok (Resumes k changed)) steps t st = sweep_unless_stale st.fresh steps k t st

unfoldable pub sweep_call : ℕ → Tables → State → After
sweep_call steps t st = sweep_by (entry_of own.Sweep t st) steps t st
