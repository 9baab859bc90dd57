-- Document 02, CR 5: "The constant programme may be replaced by one of 1 to 32 codes, each 1 to 4, checked when it is set. .. Any other is refused with 12 and the index of the first offending code (0 for a wrong length)."
-- Refusal 1 comes first, as in every call but load. No table changes, and of the state the programme alone. Assumes nothing: these are definitions.
use Rattle.std.specs.Prelude.{ℕ, true, false, List, Result, Ok, Err}
use Rattle.state.specs.Programmes.{programme_of}
use Rattle.state.specs.States.{programmed}
use Rattle.state.specs.declared.State.{State}
use Rattle.state.specs.declared.Answer.TheVariants.{Set}
use Rattle.state.specs.declared.Refusal.TheVariants.{Shape, Codes}
use Rattle.programmes.specs.Judging.{judge}
use Rattle.tables.specs.Tables.{Tables}
use Rattle.tables.specs.Calls.{After, answered, refuse}
use Rattle.shape.specs.Decision.{shape_ok}

abbrev pub set_by : Result (Unit {0}) ℕ → List ℕ → Tables → State → After
set_by (Err index) codes t st = refuse (Codes index) st t
set_by (Ok _) codes t st = answered Set (programmed (programme_of codes) st) t

unfoldable pub set_call : List ℕ → Tables → State → After
set_call codes t st = elim (shape_ok t st) [ true ↦ set_by (judge codes) codes t st | false ↦ refuse Shape st t ]
