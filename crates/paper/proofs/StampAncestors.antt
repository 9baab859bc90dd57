-- THE THEOREM on Stamp: an accepted call leaves figure 1's stamps of the standing pairs, and an interval holds another exactly if its literal is the other's ancestor. Assumes nothing.
use mathlib.Core.Path.{◌≡◌, sym, subst}
use mathlib.Core.List.{List}
use lib.IntN.{ℤ}
use Rattle.state.specs.declared.State.{State}
use Rattle.tables.specs.Tables.{Tables}
use Rattle.tables.specs.Calls.{After}
use Rattle.stamp.specs.Stamp.{stamp_call}
use Rattle.paper.specs.Stamping.{StampedAs}
use Rattle.paper.proofs.Accepted.{accepted}
use Rattle.paper.proofs.Stamping.{stamped_as}

pub stamp_ancestors : (order : List ℤ) (t : Tables) (st : State) → (stamp_call order t st).reply.number ≡ 0 → StampedAs order t st (stamp_call order t st).tables
stamp_ancestors order t st taken = let A = accepted order t st taken in subst (λ (a : After). StampedAs order t st a.tables) (sym A.answer) (stamped_as A.known A.acyclic)
