-- What stands between two passes of a run: every call would open its pass, so that the parts of the calls that Run uses have what they ask for. Assumes nothing.
use Prim.Native.Nat.{ℕ}
use mathlib.Core.Path.{◌≡◌, refl, sym, ap, ◌∙◌}
use mathlib.Core.Bool.{Bool, true, false}
use mathlib.Core.List.{List}
use lib.IntN.{ℤ}
use borrow.Author.Tests.{eq-eqb, ne_eqb}
use Rattle.std.specs.Prelude.{Result, Ok, Err}
use Rattle.state.specs.declared.Pass.TheVariants.{Idle}
use Rattle.state.specs.declared.Refusal.{Refusal}
use Rattle.tables.specs.Calls.{refuse}
use Rattle.shape.specs.Decision.{shape_ok, shape_exact}
use Rattle.entry.specs.Entry.{entry_of, opening_of}
use Rattle.entry.specs.declared.PassName.{PassName}
use Rattle.entry.specs.declared.Entry.TheVariants.{Opens}
use Rattle.entry.proofs.Entering.{Entered, entry_idle, opening_idle}
use Rattle.visits.specs.Formed.{Formed}
use Rattle.visits.proofs.Entered.{entered_formed}
use Rattle.stamp.specs.Stamp.{stamp_acyclic, stamp_ordered, stamp_by, stamp_call}
use Rattle.stamp.specs.Asking.{ask_ordered, ask_of}
use Rattle.stamp.proofs.Asking.{Known, ask_by_lem, fit_known, call_refused, call_fit}
use Rattle.failed.specs.Failed as failing
use Rattle.sweep.specs.Sweep as sweeping
use Rattle.settle.specs.Settle.{Standing, between, settle}
use Rattle.round_order.specs.Order.{order_of}
use Rattle.run.specs.Run.{follow}
use Rattle.run.specs.Steps.{Runs}

-- ---- what the parts of the calls ask for

module _ {w : Standing} (R : Runs w) where
  well_shaped : shape_ok w.tables w.state ≡ true
  well_shaped = go (shape_ok w.tables w.state) refl
    where
      go : (b : Bool) → shape_ok w.tables w.state ≡ b → shape_ok w.tables w.state ≡ true
      go true e = e
      go false e = absurd ((shape_exact w.tables w.state).fails e R.shape)

  -- any call opens its pass
  pub runs_opens : (own : PassName) → entry_of own w.tables w.state ≡ Ok Opens
  runs_opens = entry_idle w.tables w.state well_shaped R.idle R.unmarked

  pub runs_granted : opening_of w.tables w.state ≡ Ok tt
  runs_granted = opening_idle w.tables w.state well_shaped R.idle R.unmarked

  pub runs_entered : Entered Idle w.tables w.state
  runs_entered = record { shape = R.shape; pass = R.idle; unmarked = R.unmarked }

  pub runs_formed : Formed w.state.v w.state.n w.state.n false w.tables.clauses w.tables.literals w.tables.variables
  runs_formed = entered_formed runs_entered tt

  -- ---- Stamp in a given order

  module _ (order : List ℤ) where
    asked : ask_ordered order w.tables w.state ≡ ask_of order w.tables w.state
    asked = ask_by_lem order w.tables w.state (Ok tt) runs_granted

    pub called : stamp_call order w.tables w.state ≡ stamp_ordered order w.tables w.state
    unfolding stamp_call
    called = ap (λ (e : Result (Unit {0}) Refusal). stamp_by e order w.tables w.state) runs_granted

    pub runs_known : ask_ordered order w.tables w.state ≡ Ok tt → Known order w.tables w.state
    runs_known e = fit_known w.tables w.state order (sym asked ∙ e)

    pub stamp_refused : (r : Refusal) → ask_ordered order w.tables w.state ≡ Err r → refuse r w.state w.tables ≡ stamp_ordered order w.tables w.state
    stamp_refused r e = call_refused order w.tables w.state r (sym asked ∙ e) ∙ called

    pub stamp_fit : ask_ordered order w.tables w.state ≡ Ok tt → stamp_acyclic order w.tables w.state ≡ stamp_ordered order w.tables w.state
    stamp_fit e = call_fit order w.tables w.state (sym asked ∙ e) ∙ called

-- ---- what each code does

module _ (k code : ℕ) (w : Standing) where
  pub code_settle : code ≡ 1 → settle w ≡ follow k code w
  unfolding follow
  code_settle e = rw (eq-eqb code 1 e, follow)

  module _ (a : code ≡ 1 → ⊥) where
    pub code_stamp : code ≡ 2 → between (stamp_ordered (order_of w.state.v k) w.tables w.state) ≡ follow k code w
    unfolding follow
    code_stamp e = rw (ne_eqb code 1 a, eq-eqb code 2 e, follow)

    module _ (b : code ≡ 2 → ⊥) where
      pub code_failed : code ≡ 3 → between (failing.failed_unless_stale w.state.fresh w.tables w.state) ≡ follow k code w
      unfolding follow
      code_failed e = rw (ne_eqb code 1 a, ne_eqb code 2 b, eq-eqb code 3 e, follow)

      module _ (d : code ≡ 3 → ⊥) where
        pub code_sweep : code ≡ 4 → between (sweeping.sweep_unless_stale w.state.fresh w.state.n 0 w.tables w.state) ≡ follow k code w
        unfolding follow
        code_sweep e = rw (ne_eqb code 1 a, ne_eqb code 2 b, ne_eqb code 3 d, eq-eqb code 4 e, follow)

        pub code_none : (code ≡ 4 → ⊥) → w ≡ follow k code w
        unfolding follow
        code_none e = rw (ne_eqb code 1 a, ne_eqb code 2 b, ne_eqb code 3 d, ne_eqb code 4 e, follow)
