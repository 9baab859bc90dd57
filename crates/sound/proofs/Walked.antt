-- The stamps are the walk's: what Stamp and its refusal 7 give the theorems.
--     cyclic_exact       of a shaped formula: `cyclic` is false exactly if no two different literals reach each other
--     stamp_ready        so a shaped formula that Stamp does not refuse with 7 is ready
--     stamp_sweep_keeps  stamp, sweep any number of clauses, and the same assignments satisfy the formula
-- Assumes nothing.
use Prim.Native.Nat.{ℕ, ◌*◌}
use mathlib.Core.Path.{◌≡◌}
use mathlib.Core.Bool.{false}
use mathlib.Core.Logic.{◌↔◌}
use mathlib.Core.List.{List, map}
use Rattle.literal.specs.Assignments.{Assignment}
use Rattle.scc.specs.Groups.{cyclic}
use Rattle.walk.specs.Walk.{Lists}
use Rattle.stamp.proofs.Freshness.{stamps_sized, stamps_stamped}
use Rattle.sound.specs.Formula.{Clause, literals_in, Models, graph, formula_stamps}
use Rattle.sound.specs.Sweep.{sweep_first}
use Rattle.scc.specs.Forward.{Acyclic}
use Rattle.sound.specs.Kept.{Shaped}
use Rattle.scc.proofs.Forward.{cyclic_none, none_cyclic}
use Rattle.sound.proofs.Graph.{shaped_below}
use Rattle.sound.proofs.Sound.{StampedFormula, sweep_keeps}

module _ (vars : ℕ) (f : List Clause) (shaped : Shaped vars f) where
  pub cyclic_exact : (cyclic (graph f) (2 * vars) ≡ false) ↔ Acyclic (graph f)
  unfolding graph
  cyclic_exact = (cyclic_none (map literals_in f) vars (shaped_below vars f shaped), none_cyclic (map literals_in f) vars (shaped_below vars f shaped))

  module _ (order : List ℕ) (o : Lists (2 * vars) order) (uncyclic : cyclic (graph f) (2 * vars) ≡ false) where
    pub stamp_ready : StampedFormula vars f (formula_stamps vars order f)
    unfolding graph
    stamp_ready =
        record {
          shaped = shaped;
          stamped = stamps_stamped (map literals_in f) vars (shaped_below vars f shaped) order o;
          sized = stamps_sized (map literals_in f) vars (shaped_below vars f shaped) order o;
          acyclic = cyclic_exact.0 uncyclic;
        }

    pub stamp_sweep_keeps : (k : ℕ) (τ : Assignment) → Models τ (sweep_first k (formula_stamps vars order f) f) ↔ Models τ f
    stamp_sweep_keeps = sweep_keeps vars f (formula_stamps vars order f) stamp_ready
