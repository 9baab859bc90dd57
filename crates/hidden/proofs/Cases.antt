-- Worked examples of figures 5 and 6, of the rule for two literals and of failed literals, by computation, on stamps that are written out (crate sound has them from the walk). Slots 0, 1, 2, 3, .. are the literals 1, -1, 2, -2, ..
-- Assumes nothing.
use mathlib.Core.Path.{◌≡◌, refl}
use mathlib.Core.Bool.{true, false}
use mathlib.Core.List.{[], ◌∷◌}
use Rattle.base.specs.Lists.{any, filter, first, any_below}
use Rattle.literal.specs.Literals.{twin}
use Rattle.walk.specs.Walk.{Stamps}
use Rattle.walk.specs.Compressed.{stamps}
use Rattle.hidden.specs.Hidden.{holds, insert, by_discovery, scan_at, scan, figure6, transitive, hidden_pair, hidden_tautology, unhidden, shorten, without, loop, loop_from, lines_pos, lines_neg, figure5}
use Rattle.hidden.specs.Failed.{same_start, holds_both, lowest, failed_slot}

-- P2, (-1 2)(-2 3)(1 3 4): 1 is [1,6], 2 [2,5], 3 [3,4], -3 [7,12], -2 [8,11], -1 [9,10], 4 [13,14], -4 [15,16]; P3 and P5 have the same stamps
unfoldable pub columns2 : Stamps
columns2 = stamps 16 (1 ∷ 9 ∷ 2 ∷ 8 ∷ 3 ∷ 7 ∷ 13 ∷ 15 ∷ []) (6 ∷ 10 ∷ 5 ∷ 11 ∷ 4 ∷ 12 ∷ 14 ∷ 16 ∷ []) (0 ∷ 3 ∷ 0 ∷ 5 ∷ 2 ∷ 5 ∷ 6 ∷ 7 ∷ []) (0 ∷ 5 ∷ 0 ∷ 5 ∷ 0 ∷ 5 ∷ 6 ∷ 7 ∷ [])

-- the first clause's edge 1 → 2 is all there is: 1 is the parent of 2, and but for that test the clause would vanish; of the third, 1 goes since it holds 3
p2 : (hidden_tautology columns2 (1 ∷ 2 ∷ []) ≡ false) × (shorten (λ s. s) columns2 (1 ∷ 2 ∷ []) ≡ 1 ∷ 2 ∷ []) × (hidden_tautology columns2 (0 ∷ 4 ∷ 6 ∷ []) ≡ false) × (shorten (λ s. s) columns2 (0 ∷ 4 ∷ 6 ∷ []) ≡ 4 ∷ 6 ∷ [])
unfolding columns2 filter twin holds insert by_discovery scan_at scan figure6 transitive hidden_pair hidden_tautology any unhidden shorten
p2 = (refl, refl, refl, refl)

-- P3's and P5's third clauses, (-1 3) and (-1 3 4), are dropped
p3_p5 : (hidden_tautology columns2 (1 ∷ 4 ∷ []) ≡ true) × (hidden_tautology columns2 (1 ∷ 4 ∷ 6 ∷ []) ≡ true)
unfolding columns2 twin holds insert by_discovery scan_at scan figure6 transitive hidden_pair hidden_tautology
p3_p5 = (refl, refl)

-- P6, (-1 2)(-1 -2): 1 is [1,8], 2 [2,5], -1 [3,4], -2 [6,7]
unfoldable pub columns6 : Stamps
columns6 = stamps 8 (1 ∷ 3 ∷ 2 ∷ 6 ∷ []) (8 ∷ 4 ∷ 5 ∷ 7 ∷ []) (0 ∷ 2 ∷ 0 ∷ 0 ∷ []) (0 ∷ 0 ∷ 0 ∷ 0 ∷ [])

-- each edge of (-1 -2) goes from a parent to its child, so the clause stays; and 1 has failed, for both variables, since an interval holds itself
p6 : (hidden_tautology columns6 (1 ∷ 3 ∷ []) ≡ false) × (same_start columns6 0 ≡ true) × (failed_slot columns6 4 0 ≡ 0) × (failed_slot columns6 4 2 ≡ 0)
unfolding columns6 twin holds insert by_discovery scan_at scan figure6 transitive hidden_pair hidden_tautology first any_below same_start holds_both lowest failed_slot
p6 = (refl, refl, refl, refl)

-- document 02, CR 2: (1 2)(1 -2)(1 3)(2 3), where -1 fails: -1 is [1,10], 2 [2,5], 1 [3,4], -2 [6,9], 3 [7,8], -3 [11,12]
unfoldable pub columns1 : Stamps
columns1 = stamps 12 (3 ∷ 1 ∷ 2 ∷ 6 ∷ 7 ∷ 11 ∷ []) (4 ∷ 10 ∷ 5 ∷ 9 ∷ 8 ∷ 12 ∷ []) (2 ∷ 1 ∷ 1 ∷ 1 ∷ 3 ∷ 5 ∷ []) (1 ∷ 1 ∷ 1 ∷ 1 ∷ 1 ∷ 5 ∷ [])

-- the chain -1 → -2 → 3 implies (1 3): -1 holds 3, whose parent is -2. That -1 holds 1 too does not matter. The edges of the others go from a parent to its child, or from a literal that does not hold the other
passed_over : (hidden_tautology columns1 (0 ∷ 2 ∷ []) ≡ false) × (hidden_tautology columns1 (0 ∷ 3 ∷ []) ≡ false) × (hidden_tautology columns1 (0 ∷ 4 ∷ []) ≡ true) × (hidden_tautology columns1 (2 ∷ 4 ∷ []) ≡ false)
unfolding columns1 twin holds insert by_discovery scan_at scan figure6 transitive hidden_pair hidden_tautology
passed_over = (refl, refl, refl, refl)

-- either edge will do, and either order of the literals
either_edge : (transitive columns1 1 4 ≡ true) × (transitive columns1 5 0 ≡ false) × (hidden_tautology columns1 (4 ∷ 0 ∷ []) ≡ true)
unfolding columns1 twin holds transitive hidden_pair hidden_tautology
either_edge = (refl, refl, refl)

-- (-1 2)(-2 3)(-4 3) with 4 first: 4 is [1,4], 3 [2,3], 1 [5,8], 2 [6,7], -3 [9,16], -2 [10,13], -1 [11,12], -4 [14,15], 5 [17,18], -5 [19,20]
unfoldable pub columns4 : Stamps
columns4 = stamps 20 (5 ∷ 11 ∷ 6 ∷ 10 ∷ 2 ∷ 9 ∷ 1 ∷ 14 ∷ 17 ∷ 19 ∷ []) (8 ∷ 12 ∷ 7 ∷ 13 ∷ 3 ∷ 16 ∷ 4 ∷ 15 ∷ 18 ∷ 20 ∷ []) (0 ∷ 3 ∷ 0 ∷ 5 ∷ 6 ∷ 5 ∷ 6 ∷ 5 ∷ 8 ∷ 9 ∷ []) (0 ∷ 5 ∷ 0 ∷ 5 ∷ 6 ∷ 5 ∷ 6 ∷ 5 ∷ 8 ∷ 9 ∷ [])

-- of (1 3 5), 1 goes since its complement is held by -3, though 1 does not hold 3
contrapositive : (hidden_tautology columns4 (0 ∷ 4 ∷ 8 ∷ []) ≡ false) × (shorten (λ s. s) columns4 (0 ∷ 4 ∷ 8 ∷ []) ≡ 4 ∷ 8 ∷ []) × (figure5 columns4 (0 ∷ 4 ∷ 8 ∷ []) ≡ 4 ∷ 8 ∷ [])
unfolding columns4 filter twin holds insert by_discovery scan_at scan figure6 transitive hidden_pair hidden_tautology any unhidden shorten without loop loop_from lines_pos lines_neg figure5
contrapositive = (refl, refl, refl)

-- source document 000, end of section 5: the clause (a b c) is a hidden tautology; shortened, it is none
columns5 : Stamps
columns5 = stamps 12 (2 ∷ 9 ∷ 1 ∷ 5 ∷ 6 ∷ 11 ∷ []) (3 ∷ 10 ∷ 4 ∷ 8 ∷ 7 ∷ 12 ∷ []) (2 ∷ 1 ∷ 2 ∷ 3 ∷ 3 ∷ 5 ∷ []) (2 ∷ 1 ∷ 2 ∷ 3 ∷ 3 ∷ 5 ∷ [])

scan_first : (hidden_tautology columns5 (0 ∷ 2 ∷ 4 ∷ []) ≡ true) × (shorten (λ s. s) columns5 (0 ∷ 2 ∷ 4 ∷ []) ≡ 0 ∷ 4 ∷ []) × (figure5 columns5 (0 ∷ 2 ∷ 4 ∷ []) ≡ 0 ∷ 4 ∷ []) × (hidden_tautology columns5 (0 ∷ 4 ∷ []) ≡ false)
unfolding columns5 filter twin holds insert by_discovery scan_at scan figure6 transitive hidden_pair hidden_tautology any unhidden shorten without loop loop_from lines_pos lines_neg figure5
scan_first = (refl, refl, refl, refl)
