-- Document 01, the lines of the refusal table that the five passes and Run share: 1 where a table is short or the shape rule fails, 4 where a pass is open other than the one that this call resumes, 5 under the mark.
-- "Where several apply, the topmost line holds." Assumes nothing: these are definitions.
use Rattle.std.specs.Prelude.{Bool, true, false, Result, Ok, Err}
use Rattle.state.specs.declared.State.{State}
use Rattle.state.specs.declared.Pass.{Pass}
use Rattle.state.specs.declared.Pass.TheVariants.{Idle, Propagate, Merge, Sweep}
use Rattle.state.specs.declared.Refusal.{Refusal}
use Rattle.state.specs.declared.Refusal.TheVariants.{Shape, OtherPass, Marked}
use Rattle.tables.specs.Tables.{Tables}
use Rattle.shape.specs.Decision.{shape_ok}
use Rattle.entry.specs.declared.PassName.{PassName}
use Rattle.entry.specs.declared.PassName.TheVariants as own
use Rattle.entry.specs.declared.Entry.{Entry}
use Rattle.entry.specs.declared.Entry.TheVariants.{Opens, Resumes}

-- ---- calls that resume a pass

abbrev pub unless_marked : Bool → Entry → Result Entry Refusal
unless_marked true e = Err Marked
unless_marked false e = Ok e

-- by the open pass: the call resumes its own, with its cursor and change flag
abbrev pub entry_by : PassName → Pass → Bool → Result Entry Refusal
entry_by p Idle mark = unless_marked mark Opens
entry_by own.Propagate (Propagate k changed) mark = unless_marked mark (Resumes k changed)
entry_by own.Propagate (Merge k) mark = Err OtherPass
entry_by own.Propagate (Sweep k) mark = Err OtherPass
entry_by own.Merge (Propagate k changed) mark = Err OtherPass
entry_by own.Merge (Merge k) mark = unless_marked mark (Resumes k false)
entry_by own.Merge (Sweep k) mark = Err OtherPass
entry_by own.Sweep (Propagate k changed) mark = Err OtherPass
entry_by own.Sweep (Merge k) mark = Err OtherPass
entry_by own.Sweep (Sweep k) mark = unless_marked mark (Resumes k false)

-- the topmost refusal of the three that applies, or whether the call opens its pass or resumes it
unfoldable pub entry_of : PassName → Tables → State → Result Entry Refusal
entry_of own t st = elim (shape_ok t st) [ true ↦ entry_by own st.pass st.mark | false ↦ Err Shape ]

-- ---- calls that resume nothing: Stamp, Failed and Run

abbrev pub opening_by : Pass → Bool → Result (Unit {0}) Refusal
opening_by Idle true = Err Marked
opening_by Idle false = Ok tt
opening_by (Propagate k changed) mark = Err OtherPass
opening_by (Merge k) mark = Err OtherPass
opening_by (Sweep k) mark = Err OtherPass

unfoldable pub opening_of : Tables → State → Result (Unit {0}) Refusal
opening_of t st = elim (shape_ok t st) [ true ↦ opening_by st.pass st.mark | false ↦ Err Shape ]
