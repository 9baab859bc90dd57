-- Worked cases of document 01 on formulas of slots, by computation, with the stamps from the walk. Assumes nothing.
use Prim.Native.Nat.{ℕ}
use mathlib.Core.Path.{◌≡◌, refl}
use mathlib.Core.Bool.{true, false}
use mathlib.Core.List.{List, [], ◌∷◌, map}
use lib.ListN.{length, get_or}
use lib.Dec.{eqb}
use Rattle.base.specs.Lists.{any, filter, absent}
use Rattle.literal.specs.Literals.{twin}
use Rattle.literal.specs.Assignments.{Assignment}
use Rattle.walk.specs.Walk.{arrive, leave, edge, edges, enters, start_walk, stamp_all}
use Rattle.implications.specs.Edges.{outs}
use Rattle.implications.specs.Clauses.{froms, tos}
use Rattle.hidden.specs.Hidden.{holds, insert, by_discovery, scan_at, scan, figure6, transitive, hidden_pair, hidden_tautology, unhidden, shorten}
use Rattle.hidden.proofs.Cases.{columns1, columns2, columns4, columns6}
use Rattle.stamp.specs.Stamp.{stamps_of}
use Rattle.sound.specs.Formula.{Clause, dropped, standing, literals_in, value, formula_stamps}
use Rattle.sound.specs.Sweep.{sweep_slots, on_standing, visit_first, sweep_first}
use Rattle.scc.specs.Forward.{forward}

-- 1, -1, 2, -2, .. are 0, 1, 2, 3, ..
o2 : List ℕ
o2 = 0 ∷ 1 ∷ 2 ∷ 3 ∷ []

unfoldable pub o3 : List ℕ
o3 = 0 ∷ 1 ∷ 2 ∷ 3 ∷ 4 ∷ 5 ∷ []

unfoldable pub o4 : List ℕ
o4 = 0 ∷ 1 ∷ 2 ∷ 3 ∷ 4 ∷ 5 ∷ 6 ∷ 7 ∷ []

swept : ℕ → List ℕ → List Clause → List Clause
swept vars order f = sweep_first (length f) (formula_stamps vars order f) f

-- ---- P2 to P6

unfoldable pub f2 : List Clause
f2 = standing (1 ∷ 2 ∷ []) ∷ standing (3 ∷ 4 ∷ []) ∷ standing (0 ∷ 4 ∷ 6 ∷ []) ∷ []

p2_stamps : formula_stamps 4 o4 f2 ≡ columns2
unfolding o4 f2 columns2 stamps_of stamp_all start_walk enters edges edge arrive leave filter absent twin froms tos outs literals_in
p2_stamps = refl

p2 : sweep_first 3 columns2 f2 ≡ standing (1 ∷ 2 ∷ []) ∷ standing (3 ∷ 4 ∷ []) ∷ standing (4 ∷ 6 ∷ []) ∷ []
unfolding f2 columns2 filter twin holds insert by_discovery scan_at scan figure6 transitive hidden_pair hidden_tautology any unhidden shorten sweep_slots on_standing visit_first
p2 = refl

p3 : swept 3 o3 (standing (1 ∷ 2 ∷ []) ∷ standing (3 ∷ 4 ∷ []) ∷ standing (1 ∷ 4 ∷ []) ∷ []) ≡ standing (1 ∷ 2 ∷ []) ∷ standing (3 ∷ 4 ∷ []) ∷ dropped ∷ []
unfolding o3 swept stamps_of stamp_all start_walk enters edges edge arrive leave filter absent twin froms tos outs literals_in holds insert by_discovery scan_at scan figure6 transitive hidden_pair hidden_tautology any unhidden shorten sweep_slots on_standing visit_first
p3 = refl

p4 : swept 3 o3 (standing (1 ∷ 4 ∷ []) ∷ standing (1 ∷ 2 ∷ []) ∷ standing (3 ∷ 4 ∷ []) ∷ []) ≡ standing (1 ∷ 4 ∷ []) ∷ standing (1 ∷ 2 ∷ []) ∷ standing (3 ∷ 4 ∷ []) ∷ []
unfolding o3 swept stamps_of stamp_all start_walk enters edges edge arrive leave filter absent twin froms tos outs literals_in holds insert by_discovery scan_at scan figure6 transitive hidden_pair hidden_tautology any unhidden shorten sweep_slots on_standing visit_first
p4 = refl

p5 : swept 4 o4 (standing (1 ∷ 2 ∷ []) ∷ standing (3 ∷ 4 ∷ []) ∷ standing (1 ∷ 4 ∷ 6 ∷ []) ∷ []) ≡ standing (1 ∷ 2 ∷ []) ∷ standing (3 ∷ 4 ∷ []) ∷ dropped ∷ []
unfolding o4 swept stamps_of stamp_all start_walk enters edges edge arrive leave filter absent twin froms tos outs literals_in holds insert by_discovery scan_at scan figure6 transitive hidden_pair hidden_tautology any unhidden shorten sweep_slots on_standing visit_first
p5 = refl

p6_stamps : formula_stamps 2 o2 (standing (1 ∷ 2 ∷ []) ∷ standing (1 ∷ 3 ∷ []) ∷ []) ≡ columns6
unfolding o2 columns6 stamps_of stamp_all start_walk enters edges edge arrive leave filter absent twin froms tos outs literals_in
p6_stamps = refl

-- (-1 2)(-2 3)(-4 3)(1 3 5) with 4 first: 1 goes from the last clause by the second filter
contrapositive : formula_stamps 5 (6 ∷ 7 ∷ 0 ∷ 1 ∷ 2 ∷ 3 ∷ 4 ∷ 5 ∷ 8 ∷ 9 ∷ []) (standing (1 ∷ 2 ∷ []) ∷ standing (3 ∷ 4 ∷ []) ∷ standing (7 ∷ 4 ∷ []) ∷ standing (0 ∷ 4 ∷ 8 ∷ []) ∷ []) ≡ columns4
unfolding columns4 stamps_of stamp_all start_walk enters edges edge arrive leave filter absent twin froms tos outs literals_in
contrapositive = refl

-- a clause of one literal is left, though its complement holds it
unit : sweep_first 1 columns6 (standing (1 ∷ []) ∷ []) ≡ standing (1 ∷ []) ∷ []
unfolding columns6 twin holds insert by_discovery scan_at scan figure6 transitive hidden_pair hidden_tautology sweep_slots on_standing visit_first
unit = refl

-- ---- document 02, CR 2: a pair that the figure 6 scan passed over

-- (1 2)(1 -2)(1 3)(2 3): the chain -1 → -2 → 3 implies the third. The figure's scan passed -1 by at 1, which -1 holds too, and never compared it with 3
unfoldable pub f1 : List Clause
f1 = standing (0 ∷ 2 ∷ []) ∷ standing (0 ∷ 3 ∷ []) ∷ standing (0 ∷ 4 ∷ []) ∷ standing (2 ∷ 4 ∷ []) ∷ []

passed_over_stamps : formula_stamps 3 o3 f1 ≡ columns1
unfolding o3 f1 columns1 stamps_of stamp_all start_walk enters edges edge arrive leave filter absent twin froms tos outs literals_in
passed_over_stamps = refl

-- the third goes; of the first 2 goes, which holds 1, and of the second -2, whose complement -1 holds
passed_over : sweep_first 4 columns1 f1 ≡ standing (0 ∷ []) ∷ standing (0 ∷ []) ∷ dropped ∷ standing (2 ∷ 4 ∷ []) ∷ []
unfolding f1 columns1 filter twin holds insert by_discovery scan_at scan figure6 transitive hidden_pair hidden_tautology any unhidden shorten sweep_slots on_standing visit_first
passed_over = refl

-- ---- P9, whose graph has cycles: why Stamp refuses it with 7

-- with -2 first the rule for two literals drops (1 2), and the chain that implies (1 2) runs through that clause: an assignment satisfies the four others and not (1 2)
f9 : List Clause
f9 = standing (2 ∷ 4 ∷ []) ∷ standing (5 ∷ 1 ∷ []) ∷ standing (0 ∷ 2 ∷ []) ∷ standing (3 ∷ 6 ∷ []) ∷ standing (7 ∷ 0 ∷ []) ∷ []

o9 : List ℕ
o9 = 3 ∷ 0 ∷ 1 ∷ 2 ∷ 4 ∷ 5 ∷ 6 ∷ 7 ∷ []

p9 : (forward (formula_stamps 4 o9 f9) (froms (map literals_in f9)) (tos (map literals_in f9)) ≡ false) × (get_or (sweep_first 5 (formula_stamps 4 o9 f9) f9) 2 (standing []) ≡ dropped)
unfolding f9 o9 stamps_of stamp_all start_walk enters edges edge arrive leave filter absent twin froms tos outs literals_in forward holds insert by_discovery scan_at scan figure6 transitive hidden_pair hidden_tautology any unhidden shorten sweep_slots on_standing visit_first
p9 = (refl, refl)

-- 3 true and all else false
τ9 : Assignment
τ9 v = eqb v 3

p9_lost : map (λ c. any (value τ9) (literals_in c)) f9 ≡ true ∷ true ∷ false ∷ true ∷ true ∷ []
unfolding f9 τ9 any value literals_in
p9_lost = refl
