-- The state, and how the calls change it. Document 01: "V, N, the open pass with its cursor and, in Propagate, a change flag, whether stamps are fresh, the *mark*"; "The mark and a load close any pass." Both spend the stamps.
-- Document 02, CR 5: a programme besides; "A load puts the constant one back". No other change of a state touches it but the call that sets it.
-- A state is made here and nowhere else, so that a further field is named here alone. Assumes nothing: these are definitions.
use Rattle.std.specs.Prelude.{ℕ, Bool, true, false}
use Rattle.state.specs.declared.State.{State}
use Rattle.state.specs.declared.Programme.{Programme}
use Rattle.state.specs.declared.Pass.{Pass}
use Rattle.state.specs.declared.Pass.TheVariants.{Idle}
use Rattle.state.specs.Programmes.{constant_programme}

abbrev pub state : ℕ → ℕ → Pass → Bool → Bool → Programme → State
state v n pass fresh mark programme = record { v = v; n = n; pass = pass; fresh = fresh; mark = mark; programme = programme }

-- what a load leaves
abbrev pub loaded_state : ℕ → ℕ → Bool → State
loaded_state v n mark = state v n Idle false mark constant_programme

-- the state before any load
abbrev pub empty_state : State
empty_state = loaded_state 0 0 false

-- without the mark, with this pass open, or none
abbrev pub opened : Pass → Bool → State → State
opened pass fresh st = state st.v st.n pass fresh false st.programme

abbrev pub closed : Bool → State → State
closed fresh st = opened Idle fresh st

abbrev pub marked : State → State
marked st = state st.v st.n Idle false true st.programme

-- with another programme, and nothing else changed
abbrev pub programmed : Programme → State → State
programmed programme st = state st.v st.n st.pass st.fresh st.mark programme
