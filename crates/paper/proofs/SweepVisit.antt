-- THE THEOREM on a visit of Sweep: under the shape rule with fresh stamps it leaves of a standing clause what figures 5 and 6 leave. Assumes nothing.
use Prim.Native.Nat.{ℕ, ◌<◌}
use mathlib.Core.Path.{◌≡◌}
use mathlib.Core.Bool.{true}
use Rattle.state.specs.declared.State.{State}
use Rattle.tables.specs.Tables.{Tables}
use Rattle.shape.specs.Shape.{Shape}
use Rattle.visits.proofs.Forming.{shape_formed}
use Rattle.paper.specs.Clauses.{clause_at, flag_at}
use Rattle.paper.specs.Sweeping.{SweptAs, swept_at}
use Rattle.paper.proofs.Visits.{visit_swept}

pub sweep_visit : (t : Tables) (st : State) → Shape t st → st.fresh ≡ true → (i : ℕ) → i < st.n → flag_at t i ≡ 1 → SweptAs t (clause_at t i) (flag_at (swept_at t i) i) (clause_at (swept_at t i) i)
sweep_visit t st S fresh i lt stands = visit_swept t st.v (S.stamps fresh) t (shape_formed S) i lt stands
