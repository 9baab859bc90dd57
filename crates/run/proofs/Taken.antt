-- A Stamp that directly follows a settle is never refused in a run: what Settle leaves without the mark has no clause that refusal 6 names and no cycle for refusal 7, and the order of a round has no entry for refusal 8. Assumes nothing.
use Prim.Native.Nat.{ℕ, ◌+◌, ◌*◌}
use native.Mathlib.Omega.{arith}
use mathlib.Core.Path.{◌≡◌, sym, ap, subst, ◌∙◌}
use mathlib.Core.Bool.{Bool, true, false}
use mathlib.Core.List.{List}
use lib.ListN.{length}
use lib.Dec.{ltb}
use lib.IntN.{ℤ}
use borrow.Author.Tests.{eq-eqb, le-ltb}
use Rattle.state.specs.declared.State.{State}
use Rattle.state.specs.declared.Refusal.TheVariants.{Unsettled, Cyclic, Order}
use Rattle.tables.specs.Tables.{Tables}
use Rattle.tables.specs.Passes.{first_unsettled}
use Rattle.tables.specs.Calls.{After, refuse}
use Rattle.scc.specs.Groups.{cyclic}
use Rattle.merge.specs.Merge.{edges_of}
use Rattle.stamp.specs.Stamp.{first_bad, stamp_fresh, stamp_acyclic, stamp_settled, stamp_ordered}
use Rattle.settle.specs.Settle.{Standing, settle}
use Rattle.settle.proofs.Acyclic.{settle_quiet}
use Rattle.round_order.specs.Order.{order_of}
use Rattle.run.specs.Steps.{Runs}
use Rattle.round_order.proofs.Orders.{order_length}
use Rattle.run.proofs.Passing.{order_passes}
use Rattle.run.proofs.Running.{runs_formed}

-- a Stamp that no test stops
module _ (order : List ℤ) (t : Tables) (st : State) where
  acyclic_fresh : cyclic (edges_of t st.n) (2 * st.v) ≡ false → stamp_acyclic order t st ≡ stamp_fresh order t st
  unfolding stamp_acyclic
  acyclic_fresh e = ap by e
    where
      by : Bool → After
      by b = elim b [ true ↦ refuse Cyclic st t | false ↦ stamp_fresh order t st ]

  settled_fresh : first_unsettled t st.n ≡ st.n → cyclic (edges_of t st.n) (2 * st.v) ≡ false → stamp_settled order t st ≡ stamp_fresh order t st
  unfolding stamp_settled
  settled_fresh settled e = ap by (le-ltb (first_unsettled t st.n) st.n (omega (arith, settled))) ∙ acyclic_fresh e
    where
      by : Bool → After
      by b = elim b [ true ↦ refuse (Unsettled (first_unsettled t st.n + 1)) st t | false ↦ stamp_acyclic order t st ]

  pub ordered_fresh : length order ≡ 2 * st.v → first_bad st.v order ≡ 2 * st.v → first_unsettled t st.n ≡ st.n → cyclic (edges_of t st.n) (2 * st.v) ≡ false → stamp_ordered order t st ≡ stamp_fresh order t st
  unfolding stamp_ordered
  ordered_fresh many good settled e = ap by_length (eq-eqb (length order) (2 * st.v) many) ∙ ap by_entry (le-ltb (first_bad st.v order) (2 * st.v) (omega (arith, good))) ∙ settled_fresh settled e
    where
      by_entry : Bool → After
      by_entry b = elim b [ true ↦ refuse (Order (first_bad st.v order)) st t | false ↦ stamp_settled order t st ]

      by_length : Bool → After
      by_length b =
          elim b [
            | true ↦ elim (ltb (first_bad st.v order) (2 * st.v)) [ true ↦ refuse (Order (first_bad st.v order)) st t | false ↦ stamp_settled order t st ]
            | false ↦ refuse (Order 0) st t
          ]

-- no clause that refusal 6 names, and no cycle for refusal 7: what Settle leaves without the mark
pub record Quiet (w : Standing) : Type 0 where
  pub settled : first_unsettled w.tables w.state.n ≡ w.state.n
  pub acyclic : cyclic (edges_of w.tables w.state.n) (2 * w.state.v) ≡ false

pub settle_leaves : {w : Standing} → Runs w → (settle w).state.mark ≡ false → Quiet (settle w)
settle_leaves {w} R clear =
    let Q = settle_quiet w.tables w.state (runs_formed R) clear in
    let same_n : (settle w).state.n ≡ w.state.n = ap (λ (s : State). s.n) Q.state in
    record { settled = subst (λ (x : ℕ). first_unsettled (settle w).tables x ≡ x) (sym same_n) Q.settled; acyclic = Q.acyclic }

-- THE THEOREM: there the Stamp of any round is made
pub stamp_taken : (k : ℕ) {w : Standing} → Runs w → Quiet w → stamp_ordered (order_of w.state.v k) w.tables w.state ≡ stamp_fresh (order_of w.state.v k) w.tables w.state
stamp_taken k {w} R Q =
    ordered_fresh (order_of w.state.v k) w.tables w.state (order_length w.state.v k) (order_passes w.state.v k R.shape.v_limit) Q.settled Q.acyclic
