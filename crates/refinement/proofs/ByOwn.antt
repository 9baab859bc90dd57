-- THE THEOREM of change request 4: "'What stands' describes the same assignments." Read with values at the variables alone that are their own class, as the base had them, or at all variables, what stands is satisfied by the same assignments.
--     by_own           for any tables that keep the shape rule
--     spread_stands    for tables as a pass leaves them before it spreads their values, and the same tables after it
-- Assumes nothing.
use Prim.Native.Nat.{ℕ}
use mathlib.Core.Logic.{◌↔◌}
use Rattle.literal.specs.Assignments.{Assignment}
use Rattle.state.specs.declared.State.{State}
use Rattle.tables.specs.Tables.{Tables}
use Rattle.tables.specs.Stands.{Stands, StandsByOwn}
use Rattle.shape.specs.Shape.{settled_to, Shape}
use Rattle.visits.specs.Formed.{Formed}
use Rattle.visits.proofs.Forming.{shape_formed}
use Rattle.spread.specs.Spread.{spread_tables}
use Rattle.spread.proofs.Spreading.{spread_done, spread_formed}
use Rattle.moves.specs.Core.{Core}
use Rattle.refinement.specs.Represented.{Represented, core_of}
use Rattle.refinement.proofs.Literals.{spread_represented}
use Rattle.refinement.proofs.Standing.{core_represented}
use Rattle.refinement.proofs.Equivalent.{own_core, core_own, core_stands, stands_own}

pub by_own : (t : Tables) (st : State) → Shape t st → (τ : Assignment) → StandsByOwn t st τ ↔ Stands t st τ
by_own t st S τ = (λ M. core_stands st t k s F R τ (own_core st t k s F R τ M) S.values, stands_own)
  where
    s : ℕ
    s = settled_to st.pass st.n

    k : Core
    k = core_of st.v st.n st.mark t

    F : Formed st.v st.n s st.mark t.clauses t.literals t.variables
    F = shape_formed S

    R : Represented st.v st.n st.mark t k
    R = core_represented st.v st.n st.mark t

pub spread_stands : (t : Tables) (st : State) (s : ℕ) → Formed st.v st.n s st.mark t.clauses t.literals t.variables → (τ : Assignment) → StandsByOwn t st τ ↔ Stands (spread_tables st.v t) st τ
spread_stands t st s F τ = (
  λ M. core_stands st (spread_tables st.v t) k s (spread_formed F) (spread_represented F.vars R) τ (own_core st t k s F R τ M) (spread_done F.vars),
  λ M. core_own st t k s F R τ (own_core st (spread_tables st.v t) k s (spread_formed F) (spread_represented F.vars R) τ (stands_own M)),
)
  where
    k : Core
    k = core_of st.v st.n st.mark t

    R : Represented st.v st.n st.mark t k
    R = core_represented st.v st.n st.mark t
