-- P6, (-1 2)(-1 -2), as a list of moves: Stamp, Failed on variable 1, Propagate on both clauses. Failed sets -1, and both clauses are then true. Assumes nothing.
use Prim.Native.Nat.{ℕ}
use native.Mathlib.Omega.{arith}
use mathlib.Core.Path.{◌≡◌, refl}
use mathlib.Core.Bool.{true, false}
use mathlib.Core.Logic.{◌↔◌}
use mathlib.Core.List.Memᴰ
use mathlib.Core.List.{List, [], ◌∷◌}
use Rattle.base.specs.Lists.{any, filter, absent, first, any_below}
use Rattle.literal.specs.Literals.{twin}
use Rattle.literal.specs.Assignments.{Assignment}
use Rattle.walk.specs.Walk.{arrive, leave, edge, edges, enters, start_walk, stamp_all}
use Rattle.implications.specs.Edges.{outs}
use Rattle.implications.specs.Clauses.{froms, tos}
use Rattle.scc.specs.Groups.{reaches, connected, cyclic}
use Rattle.hidden.specs.Hidden.{holds}
use Rattle.hidden.specs.Failed.{same_start, holds_both, lowest, failed_slot}
use Rattle.stamp.specs.Stamp.{stamps_of}
use Rattle.sound.specs.Formula.{Clause, dropped, standing, literals_in, Models, graph}
use Rattle.sound.proofs.Tests.{once?, clause?, shaped?, lists?, shaped_of, lists_of}
use Rattle.moves.specs.Core.{Core, ModelOf, load, put, learn}
use Rattle.moves.specs.Moves.{satisfied, spent, failed, change, stamp, behind, Moves, stay, go}
use Rattle.moves.proofs.Keeps.{demand_3}

f6 : List Clause
f6 = standing (1 ∷ 2 ∷ []) ∷ standing (1 ∷ 3 ∷ []) ∷ []

-- -1 is true, and no clause stands
after6 : Core
after6 = put 1 dropped (put 0 dropped (learn 1 (load f6)))

clauses6 : (after6.clauses ≡ dropped ∷ dropped ∷ []) × (after6.facts 1 ≡ true) × (after6.mark ≡ false)
unfolding f6 after6
clauses6 = (refl, refl, refl)

p6 : Moves 2 (load f6) spent after6 spent
unfolding f6 after6 any filter absent first any_below twin arrive leave edge edges enters start_walk stamp_all outs froms tos reaches connected cyclic holds same_start holds_both lowest failed_slot stamps_of literals_in graph once? clause? shaped? lists?
p6 =
    let order : List ℕ = 0 ∷ 1 ∷ 2 ∷ 3 ∷ [] in
    go (go (go (go stay
    (stamp order (shaped_of 2 f6 refl) (lists_of 4 order refl) refl))
    (behind (failed 0 (omega arith) refl)))
    (change (satisfied 0 refl (Memᴰ.head refl) refl)))
    (change (satisfied 1 refl (Memᴰ.head refl) refl))

p6_keeps : (τ : Assignment) → ModelOf after6 τ ↔ Models τ f6
p6_keeps = demand_3 f6 p6
