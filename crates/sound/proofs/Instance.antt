-- P2 and the formula of document 02's CR 2 as instances of the theorems: their hypotheses can be met, and are met here by computation. Assumes nothing.
use Prim.Native.Nat.{ℕ, ◌*◌}
use mathlib.Core.Path.{◌≡◌, refl, ap, ◌∙◌}
use mathlib.Core.Bool.{true, false, not}
use mathlib.Core.Logic.{◌↔◌}
use mathlib.Core.List.{List, [], ◌∷◌, map}
use lib.ListN.{set}
use Rattle.base.specs.Lists.{any, filter, absent, any_below}
use Rattle.literal.specs.Literals.{twin}
use Rattle.literal.specs.Assignments.{Assignment}
use Rattle.walk.specs.Walk.{arrive, leave, edge, edges, enters, start_walk, stamp_all, Lists}
use Rattle.implications.specs.Edges.{outs}
use Rattle.implications.specs.Clauses.{froms, tos}
use Rattle.scc.specs.Groups.{cyclic}
use Rattle.stamp.specs.Stamp.{stamps_of}
use Rattle.stamp.proofs.Freshness.{stamps_stamped}
use Rattle.hidden.specs.Hidden.{holds, transitive, hidden_pair, hidden_tautology}
use Rattle.sound.specs.Formula.{Clause, dropped, literals_in, Sat, Models, graph, formula_stamps}
use Rattle.sound.specs.Sweep.{sweep_slots, sweep_first}
use Rattle.sound.specs.Kept.{Shaped}
use Rattle.scc.specs.Forward.{forward}
use Rattle.sound.proofs.Cases.{o3, o4, f1, f2}
use Rattle.sound.proofs.Tests.{once?, clause?, shaped?, lists?, shaped_of, lists_of}
use Rattle.sound.proofs.Graph.{shaped_below, shaped_once}
use Rattle.scc.proofs.Forward.{cyclic_forward}
use Rattle.sound.proofs.Sound.{StampedFormula}
use Rattle.sound.proofs.Walked.{stamp_ready, stamp_sweep_keeps}
use Rattle.sound.proofs.Chains.{others_imply}

-- the theorems' hypotheses by tests: the formula is shaped, the order lists all literals, and every edge goes forward
module _ (vars : ℕ) (order : List ℕ) (f : List Clause) (shape : shaped? vars f ≡ true) (list : lists? (2 * vars) order ≡ true) (ahead : forward (formula_stamps vars order f) (froms (map literals_in f)) (tos (map literals_in f)) ≡ true) where
  lists : Lists (2 * vars) order
  lists = lists_of (2 * vars) order list

  shaped : Shaped vars f
  shaped = shaped_of vars f shape

  uncyclic : cyclic (graph f) (2 * vars) ≡ false
  unfolding graph
  uncyclic =
      let cs : List (List ℕ) = map literals_in f in
      cyclic_forward cs vars (shaped_below vars f shaped) (shaped_once vars f shaped) (formula_stamps vars order f) (stamps_stamped cs vars (shaped_below vars f shaped) order lists) ∙ ap not ahead

  ready : StampedFormula vars f (formula_stamps vars order f)
  ready = stamp_ready vars f shaped order lists uncyclic

  keeps : (k : ℕ) (τ : Assignment) → Models τ (sweep_first k (formula_stamps vars order f) f) ↔ Models τ f
  keeps = stamp_sweep_keeps vars f shaped order lists uncyclic

-- P2's formula has the same satisfying assignments after a sweep of any number of its clauses
p2_keeps : (k : ℕ) (τ : Assignment) → Models τ (sweep_first k (formula_stamps 4 o4 f2) f2) ↔ Models τ f2
unfolding o4 f2 once? clause? shaped? lists? any any_below stamps_of stamp_all start_walk enters edges edge arrive leave filter absent twin froms tos outs literals_in forward
p2_keeps = keeps 4 o4 f2 refl refl refl

-- of document 02's formula the three other clauses imply (1 3), which Sweep drops
passed_over_implied : (τ : Assignment) → Models τ (set f1 2 dropped) → Sat τ (0 ∷ 4 ∷ [])
unfolding o3 f1 once? clause? shaped? lists? any any_below stamps_of stamp_all start_walk enters edges edge arrive leave filter absent twin froms tos outs literals_in forward holds transitive hidden_pair hidden_tautology sweep_slots
passed_over_implied = others_imply 3 f1 (formula_stamps 3 o3 f1) (ready 3 o3 f1 refl refl refl) 2 0 4 refl refl
