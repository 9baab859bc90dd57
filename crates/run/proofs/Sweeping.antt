-- A whole Sweep keeps the shape rule and leaves no pass open. Assumes nothing.
use native.Mathlib.Omega.{arith}
use mathlib.Core.Path.{◌≡◌, refl, sym, subst}
use mathlib.Core.Bool.{true, false}
use Rattle.stamp_columns.specs.Columns.{columns}
use Rattle.state.specs.declared.State.{State}
use Rattle.state.specs.declared.Pass.TheVariants.{Idle, Sweep}
use Rattle.tables.specs.Tables.{Tables}
use Rattle.tables.specs.Calls.{After}
use Rattle.shape.specs.Shape.{Shape}
use Rattle.visits.proofs.StoreKeeps.{FormedIn}
use Rattle.visits.proofs.Advancing.{advance_whole}
use Rattle.sweep.specs.Sweep.{sweep_from}
use Rattle.sweep.proofs.Shaped.{from_shaped}
use Rattle.sweep_visits.specs.Clause.{sweep_clause}

pub sweep_whole : (t : Tables) (st : State) → Shape t st → FormedIn st.v st.n t → st.fresh ≡ true → Shape (sweep_from st.n 0 t st).tables (sweep_from st.n 0 t st).state × ((sweep_from st.n 0 t st).state.pass ≡ Idle)
sweep_whole t st S F fresh = (
  from_shaped st.n 0 t st S F fresh (omega arith),
  subst (λ (a : After). a.state.pass ≡ Idle) (sym (advance_whole Sweep true false (sweep_clause (columns t.times t.links)) t st)) refl,
)
