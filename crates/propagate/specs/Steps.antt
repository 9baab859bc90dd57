-- The answer of a call, by where the pass stands. Assumes nothing: these are definitions.
use Rattle.std.specs.Prelude.{Bool}
use Rattle.state.specs.States.{opened, closed, marked}
use Rattle.state.specs.declared.State.{State}
use Rattle.state.specs.declared.Counts.{Counts}
use Rattle.state.specs.declared.Pass.TheVariants.{Propagate}
use Rattle.state.specs.declared.Answer.TheVariants.{Open, Done}
use Rattle.tables.specs.Tables.{Tables}
use Rattle.tables.specs.Calls.{After, answered}
use Rattle.propagate_visits.specs.declared.Stand.{Stand}
use Rattle.propagate_visits.specs.declared.Stand.TheVariants.{Going, Settled, Contradicted}

-- the answer of a call that has made its visits: `replied`, by where the pass stands
abbrev pub replied_with : Bool → Counts → State → Stand → Tables → After
replied_with fresh counts st (Going k changed) t = answered (Open counts) (opened (Propagate k changed) fresh st) t
replied_with fresh counts st Settled t = answered (Done counts) (closed fresh st) t
replied_with fresh counts st Contradicted t = answered (Done counts) (marked st) t
