-- Examples by computation, under 1, −1, 2, −2, ..: P2's interval of 1 holds that of 2, and how its intervals lie, P3's third clause is hidden, and so is a pair that the figure 6 scan passed over. Assumes nothing.
use Prim.Native.Nat.{ℕ}
use native.Mathlib.Omega.{arith}
use mathlib.Core.Path.{◌≡◌, refl}
use mathlib.Core.List.{List, [], ◌∷◌, map}
use lib.IntN.{ℤ, pos, negsuc}
use Rattle.base.specs.Lists.{filter, absent, evens, odds, interleave}
use Rattle.literal.specs.Literals.{twin}
use Rattle.walk.specs.Walk.{arrive, leave, edge, edges, enters, start_walk, stamp_all}
use Rattle.implications.specs.Edges.{outs}
use Rattle.implications.specs.Clauses.{froms, tos}
use Rattle.intervals.specs.declared.Relation.TheVariants.{Same, Holds, Held, Earlier, Later}
use Rattle.intervals.specs.Intervals.{same, encloses, compare}
use Rattle.compare.specs.Compare.{interval_of}
use Rattle.stamp_columns.specs.Columns.{columns}
use Rattle.hidden.specs.Hidden.{holds, transitive, hidden_pair, hidden_tautology}
use Rattle.tables.specs.Tables.{Tables, tables}
use Rattle.tables.specs.Fates.{dropped}
use Rattle.stamp.specs.Stamp.{stamps_of, stamped_tables}
use Rattle.sweep_visits.specs.Clause.{sweep_clause}
use Rattle.paper.specs.Records.{discovered, finished, parent, Ancestor, self, up}
use Rattle.paper.specs.Records as records
use Rattle.paper.specs.Edges.{first}
use Rattle.paper.specs.Sweeping.{HiddenPair}

-- the records of clauses on v variables
abbrev stamped : ℕ → List (List ℕ) → ℕ → List ℕ → Tables
stamped v cs size order = stamped_tables v (stamps_of cs size order) (tables [] [] [] [] [])

-- P2: (−1 2)(−2 3)(1 3 4)
abbrev p2 : Tables
p2 = stamped 4 ((1 ∷ 2 ∷ []) ∷ (3 ∷ 4 ∷ []) ∷ (0 ∷ 4 ∷ 6 ∷ []) ∷ []) 8 (0 ∷ 1 ∷ 2 ∷ 3 ∷ 4 ∷ 5 ∷ 6 ∷ 7 ∷ [])

intervals : (discovered p2 (pos 1) ≡ 1) × (finished p2 (pos 1) ≡ 6) × (discovered p2 (pos 2) ≡ 2) × (finished p2 (pos 2) ≡ 5) × (parent p2 (pos 2) ≡ pos 1)
unfolding filter absent interleave twin arrive leave edge edges enters start_walk stamp_all outs froms tos stamps_of stamped_tables
intervals = (refl, refl, refl, refl, refl)

one_holds_two : records.Holds p2 (pos 1) (pos 2) × Ancestor p2 (pos 1) (pos 2)
unfolding filter absent interleave twin arrive leave edge edges enters start_walk stamp_all outs froms tos stamps_of stamped_tables
one_holds_two = ((omega arith, omega arith), up self)

-- document 02, CR 6: how the intervals of 2 and of −3 lie to those of 1, 2, 3 and −3
compared : map (λ (q : ℤ). compare (interval_of p2.times (pos 2)) (interval_of p2.times q)) (pos 1 ∷ pos 2 ∷ pos 3 ∷ negsuc 2 ∷ []) ≡ Held ∷ Same ∷ Holds ∷ Earlier ∷ []
unfolding filter absent interleave twin arrive leave edge edges enters start_walk stamp_all outs froms tos stamps_of stamped_tables same encloses compare
compared = refl

compared_later : map (λ (q : ℤ). compare (interval_of p2.times (negsuc 2)) (interval_of p2.times q)) (pos 1 ∷ pos 2 ∷ pos 3 ∷ negsuc 2 ∷ []) ≡ Later ∷ Later ∷ Later ∷ Same ∷ []
unfolding filter absent interleave twin arrive leave edge edges enters start_walk stamp_all outs froms tos stamps_of stamped_tables same encloses compare
compared_later = refl

-- P3: (−1 2)(−2 3)(−1 3)
abbrev p3 : Tables
p3 = stamped 3 ((1 ∷ 2 ∷ []) ∷ (3 ∷ 4 ∷ []) ∷ (1 ∷ 4 ∷ []) ∷ []) 6 (0 ∷ 1 ∷ 2 ∷ 3 ∷ 4 ∷ 5 ∷ [])

third_dropped : sweep_clause (columns p3.times p3.links) (negsuc 0 ∷ pos 3 ∷ []) ≡ dropped
unfolding filter absent evens odds interleave twin arrive leave edge edges enters start_walk stamp_all outs froms tos stamps_of stamped_tables holds transitive hidden_pair hidden_tautology sweep_clause
third_dropped = refl

third_hidden : HiddenPair p3 (negsuc 0) (pos 3)
unfolding filter absent interleave twin arrive leave edge edges enters start_walk stamp_all outs froms tos stamps_of stamped_tables
third_hidden = record {
  p = pos 1;
  q = pos 3;
  edge = first refl refl;
  held = (omega arith, omega arith);
  no_parent = λ e. let z : ◌≡◌ {A = ℕ} 1 2 = cc in omega arith;
}

-- document 02, CR 2: (1 2)(1 −2)(1 3)(2 3). −1 holds 3, whose parent is −2, so (1 3) is dropped; −1 holds 1 too, where the figure's scan passed it by
abbrev over : Tables
over = stamped 3 ((0 ∷ 2 ∷ []) ∷ (0 ∷ 3 ∷ []) ∷ (0 ∷ 4 ∷ []) ∷ (2 ∷ 4 ∷ []) ∷ []) 6 (0 ∷ 1 ∷ 2 ∷ 3 ∷ 4 ∷ 5 ∷ [])

passed_over : records.Holds over (negsuc 0) (pos 3) × (parent over (pos 3) ≡ negsuc 1) × records.Holds over (negsuc 0) (pos 1) × (sweep_clause (columns over.times over.links) (pos 1 ∷ pos 3 ∷ []) ≡ dropped)
unfolding filter absent evens odds interleave twin arrive leave edge edges enters start_walk stamp_all outs froms tos stamps_of stamped_tables holds transitive hidden_pair hidden_tautology sweep_clause
passed_over = ((omega arith, omega arith), refl, (omega arith, omega arith), refl)
