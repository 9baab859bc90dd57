-- Each pass of a run keeps the shape rule and leaves no pass open. So does a code of the programme, and what it leaves runs on unless the mark is set. Assumes nothing.
use Prim.Native.Nat.{ℕ, ◌*◌}
use mathlib.Core.Path.{◌≡◌, refl, sym, subst}
use mathlib.Core.Bool.{Bool, true, false}
use mathlib.Core.List.{List, [], ◌∷◌}
use lib.Dec.{eqb}
use lib.IntN.{ℤ}
use Rattle.std.specs.Prelude.{Result, Ok, Err}
use Rattle.implications.specs.Clauses.{implications}
use Rattle.scc.specs.Groups.{cyclic}
use Rattle.stamp_columns.specs.Columns.{columns}
use Rattle.state.specs.States.{closed, marked}
use Rattle.state.specs.declared.State.{State}
use Rattle.state.specs.declared.Pass.TheVariants.{Idle}
use Rattle.state.specs.declared.Refusal.{Refusal}
use Rattle.tables.specs.Tables.{Tables}
use Rattle.tables.specs.Clauses.{slots_from}
use Rattle.tables.specs.Calls.{After}
use Rattle.shape.specs.Shape.{Shape}
use Rattle.stamp.specs.Stamp.{stamp_acyclic, stamp_ordered}
use Rattle.stamp.specs.Asking.{ask_ordered}
use Rattle.stamp.proofs.Asking.{acyclic_no, acyclic_yes}
use Rattle.stamp.proofs.Shaped.{stamp_shaped}
use Rattle.failed.specs.Failed.{found, failed_from, failed_fresh}
use Rattle.failed.specs.Failed as failing
use Rattle.failed.proofs.Calling.{call_granted}
use Rattle.failed.proofs.Shaping.{failed_shape}
use Rattle.sweep.specs.Sweep as sweeping
use Rattle.settle.specs.Settle.{Standing, between, settle}
use Rattle.round_order.specs.Order.{order_of}
use Rattle.run.specs.Run.{follow, round}
use Rattle.run.specs.Steps.{Runs}
use Rattle.run.proofs.Running.{runs_granted, runs_formed, called, stamp_refused, stamp_fit}
use Rattle.run.proofs.Resting.{Rests, rests_runs, runs_rests}
use Rattle.run.proofs.Settling.{settle_rests}
use Rattle.run.proofs.Sweeping.{sweep_whole}

module _ {w : Standing} (R : Runs w) where
  abbrev t : Tables
  t = w.tables

  abbrev st : State
  st = w.state

  -- ---- Stamp

  stamp_idle : (order : List ℤ) → (stamp_ordered order t st).state.pass ≡ Idle
  stamp_idle order = by (ask_ordered order t st) refl
    where
      So : After → Type 0
      So a = a.state.pass ≡ Idle

      walked : (b : Bool) → cyclic (implications (slots_from t.clauses t.literals st.n 0)) (2 * st.v) ≡ b → So (stamp_acyclic order t st)
      walked true e = subst So (sym (acyclic_no order t st e)) R.idle
      walked false e = subst So (sym (acyclic_yes order t st e)) refl

      by : (r : Result (Unit {0}) Refusal) → ask_ordered order t st ≡ r → So (stamp_ordered order t st)
      by (Err r) e = subst So (stamp_refused R order r e) R.idle
      by (Ok _) e = subst So (stamp_fit R order e) (walked (cyclic (implications (slots_from t.clauses t.literals st.n 0)) (2 * st.v)) refl)

  pub stamp_rests : (order : List ℤ) → Rests (between (stamp_ordered order t st))
  stamp_rests order = record {
    shape = subst (λ (a : After). Shape a.tables a.state) (called R order) (stamp_shaped order t st R.shape);
    idle = stamp_idle order;
  }

  -- ---- Failed

  failed_idle : (b : Bool) → (failing.failed_unless_stale b t st).state.pass ≡ Idle
  unfolding failed_fresh
  failed_idle true = go (failed_from (columns t.times t.links) (2 * st.v) st.v 0 (found t.variables 0 false)).opposite
    where
      go : (x : Bool) → (elim x as (λ y. State) [ true ↦ marked st | false ↦ closed true st ]).pass ≡ Idle
      go true = refl
      go false = refl
  failed_idle false = R.idle

  pub failed_rests : Rests (between (failing.failed_unless_stale st.fresh t st))
  failed_rests = record {
    shape = subst (λ (a : After). Shape a.tables a.state) (sym (call_granted t st (runs_granted R))) (failed_shape t st R.shape);
    idle = failed_idle st.fresh;
  }

  -- ---- Sweep

  pub sweep_rests : Rests (between (sweeping.sweep_unless_stale st.fresh st.n 0 t st))
  sweep_rests = go st.fresh refl
    where
      go : (b : Bool) → st.fresh ≡ b → Rests (between (sweeping.sweep_unless_stale b st.n 0 t st))
      go true e =
          let r = sweep_whole t st R.shape (runs_formed R) e in
          record { shape = r.0; idle = r.1 }
      go false e = runs_rests R

-- ---- the codes

pub follow_rests : (k code : ℕ) {w : Standing} → Runs w → Rests (follow k code w)
unfolding follow
follow_rests k code {w} R = go (eqb code 1) (eqb code 2) (eqb code 3) (eqb code 4)
  where
    go : (a b c d : Bool) → Rests (elim a as (λ x. Standing) [
      | true ↦ settle w
      | false ↦ elim b as (λ x. Standing) [
        | true ↦ between (stamp_ordered (order_of w.state.v k) w.tables w.state)
        | false ↦ elim c as (λ x. Standing) [
          | true ↦ between (failing.failed_unless_stale w.state.fresh w.tables w.state)
          | false ↦ elim d as (λ x. Standing) [ true ↦ between (sweeping.sweep_unless_stale w.state.fresh w.state.n 0 w.tables w.state) | false ↦ w ]
        ]
      ]
    ])
    go true b c d = settle_rests w R
    go false true c d = stamp_rests R (order_of w.state.v k)
    go false false true d = failed_rests R
    go false false false true = sweep_rests R
    go false false false false = runs_rests R

-- THE LAW: what a code leaves runs on unless the mark is set
pub follow_runs : (k code : ℕ) {w : Standing} → Runs w → (follow k code w).state.mark ≡ false → Runs (follow k code w)
follow_runs k code R m = rests_runs (follow_rests k code R) m

-- ---- a round

pub round_stops : (k code : ℕ) (codes : List ℕ) (w : Standing) → (follow k code w).state.mark ≡ true → round k (code ∷ codes) w ≡ follow k code w
unfolding round
round_stops k code codes w m = rw (m, round)

pub round_goes : (k code : ℕ) (codes : List ℕ) (w : Standing) → (follow k code w).state.mark ≡ false → round k (code ∷ codes) w ≡ round k codes (follow k code w)
unfolding round
round_goes k code codes w m = rw (m, round)

pub round_rests : (k : ℕ) (codes : List ℕ) (w : Standing) → Runs w → Rests (round k codes w)
unfolding round
round_rests k [] w R = runs_rests R
round_rests k (code ∷ codes) w R = go (follow k code w).state.mark refl (round_rests k codes (follow k code w))
  where
    go : (b : Bool) → (follow k code w).state.mark ≡ b → (Runs (follow k code w) → Rests (round k codes (follow k code w))) → Rests (elim b as (λ x. Standing) [ true ↦ follow k code w | false ↦ round k codes (follow k code w) ])
    go true e rest = follow_rests k code R
    go false e rest = rest (follow_runs k code R e)

pub round_runs : (k : ℕ) (codes : List ℕ) (w : Standing) → Runs w → (round k codes w).state.mark ≡ false → Runs (round k codes w)
round_runs k codes w R m = rests_runs (round_rests k codes w R) m
