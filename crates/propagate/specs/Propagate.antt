-- The call of Propagate. Document 01: "A call makes n visits, or as many as the pass has left. It answers Open exactly if visits are left, else Done; with it come the visits made, the clauses gone and the literals gone".
-- Change request 4: "The value of v is that of its class literal, sign included, after every accepted call." Assumes nothing: these are definitions.
use Rattle.std.specs.Prelude.{ℕ, Bool, false, List, Result, Ok, Err}
use Rattle.state.specs.States.{opened, closed, marked}
use Rattle.state.specs.declared.State.{State}
use Rattle.state.specs.declared.Pass.TheVariants.{Propagate}
use Rattle.state.specs.declared.Answer.TheVariants.{Open, Done}
use Rattle.state.specs.declared.Refusal.{Refusal}
use Rattle.tables.specs.Tables.{Tables}
use Rattle.tables.specs.Clauses.{gone}
use Rattle.tables.specs.Calls.{After, answered, refuse}
use Rattle.entry.specs.Entry.{entry_of}
use Rattle.entry.specs.declared.PassName.TheVariants as own
use Rattle.entry.specs.declared.Entry.{Entry}
use Rattle.entry.specs.declared.Entry.TheVariants.{Opens, Resumes}
use Rattle.spread.specs.Spread.{spread_behind}
use Rattle.propagate_visits.specs.Visits.{Progress, going, settled, contradicted, propagate_visits, begin}

-- Open exactly if visits are left; the mark closes the pass and spends the stamps
abbrev pub replied : Bool → List ℕ → State → ℕ → Progress → After
replied fresh before st m (going k changed t) = answered (Open (gone m st.n before t.clauses)) (opened (Propagate k changed) fresh st) t
replied fresh before st m (settled t) = answered (Done (gone m st.n before t.clauses)) (closed fresh st) t
replied fresh before st m (contradicted t) = answered (Done (gone m st.n before t.clauses)) (marked st) t

-- the visits, and behind them the values are spread, wherever the call stops
unfoldable pub propagate_from : Bool → ℕ → Progress → Tables → State → After
propagate_from fresh steps p t st = spread_behind st.v (replied fresh t.clauses st (propagate_visits st.n steps 0 p).visits (propagate_visits st.n steps 0 p).progress)

-- opening spends the stamps, for any step count
abbrev pub propagate_by : Result Entry Refusal → ℕ → Tables → State → After
propagate_by (Err r) steps t st = refuse r st t
propagate_by (Ok Opens) steps t st = propagate_from false steps (begin st.n t) t st
propagate_by (Ok (Resumes k changed)) steps t st = propagate_from st.fresh steps (going k changed t) t st

unfoldable pub propagate_call : ℕ → Tables → State → After
propagate_call steps t st = propagate_by (entry_of own.Propagate t st) steps t st
