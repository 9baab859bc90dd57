-- Settle keeps the shape rule and leaves no pass open: a whole Propagate ends, so that a whole Merge finds no clause unsettled. Assumes nothing.
use Prim.Native.Nat.{ℕ, zero, suc, ◌+◌}
use native.Mathlib.Omega.{arith}
use mathlib.Core.Path.{◌≡◌, refl, sym, ap, subst, ◌∙◌}
use mathlib.Core.Bool.{Bool, true, false, false≢true}
use mathlib.Core.Logic.{⊎_elim}
use lib.Dec.{ltb}
use borrow.Author.Tests.{le-ltb}
use Rattle.std.specs.Prelude.{Result}
use Rattle.state.specs.declared.State.{State}
use Rattle.state.specs.declared.Pass.TheVariants.{Idle}
use Rattle.state.specs.declared.Refusal.{Refusal}
use Rattle.tables.specs.Tables.{Tables}
use Rattle.tables.specs.Passes.{first_unsettled}
use Rattle.tables.specs.Calls.{After}
use Rattle.shape.specs.Shape.{Shape}
use Rattle.entry.specs.declared.PassName.TheVariants as own
use Rattle.entry.specs.declared.Entry.{Entry}
use Rattle.propagate.specs.Propagate.{propagate_by, propagate_call}
use Rattle.propagate.proofs.Shaped.{propagate_shaped}
use Rattle.merge.specs.Merge.{edges_of, clashes, merge_open, merge_settled, merge_by, merge_call}
use Rattle.merge.proofs.Shaped.{merge_shaped}
use Rattle.settle.specs.Settle.{Standing, enough, propagated, merged, grouped, settle_for, settle}
use Rattle.settle.proofs.Whole.{Ended, whole}
use Rattle.settle.proofs.Merging.{merged_clash, merged_visits}
use Rattle.run.specs.Steps.{Runs}
use Rattle.run.proofs.Running.{runs_opens, runs_formed}
use Rattle.run.proofs.Resting.{Rests, rests_runs, runs_rests}

-- ---- a whole Propagate

module _ {w : Standing} (R : Runs w) where
  abbrev t : Tables
  t = w.tables

  abbrev st : State
  st = w.state

  ended : Ended w (propagated w)
  ended = whole t st (runs_formed R)

  propagate_shape : Shape (propagated w).tables (propagated w).state
  unfolding propagate_call
  propagate_shape = subst (λ (a : After). Shape a.tables a.state) (ap (λ (e : Result Entry Refusal). propagate_by e (enough t st) t st) (runs_opens R own.Propagate)) (propagate_shaped (enough t st) t st R.shape)

  pub propagate_rests : Rests (propagated w)
  propagate_rests = record { shape = propagate_shape; idle = ⊎_elim (λ e. ap (λ (s : State). s.pass) e) (λ e. ap (λ (s : State). s.pass) e.0) ended.ending }

  -- without the mark, no clause is unsettled
  pub propagate_settled : (propagated w).state.mark ≡ false → first_unsettled (propagated w).tables (propagated w).state.n ≡ (propagated w).state.n
  propagate_settled m = ⊎_elim
      (λ e. absurd (false≢true (sym m ∙ ap (λ (s : State). s.mark) e)))
      (λ e. subst (λ (n : ℕ). first_unsettled (propagated w).tables n ≡ n) (sym (ap (λ (s : State). s.n) e.0)) e.1)
      ended.ending

  -- ---- a whole Merge

  module _ (settled : first_unsettled t st.n ≡ st.n) where
    pub merge_opens : merge_call st.n t st ≡ merge_open st.n t st
    unfolding merge_call merge_settled
    merge_opens = ap (λ (e : Result Entry Refusal). merge_by e st.n t st) (runs_opens R own.Merge) ∙ (let f : ltb (first_unsettled t st.n) st.n ≡ false = le-ltb (first_unsettled t st.n) st.n (omega (arith, settled)) in rw (f, merge_settled))

    pub merge_rests : Rests (merged w)
    merge_rests = record {
      shape = subst (λ (a : After). Shape a.tables a.state) merge_opens (merge_shaped st.n t st R.shape);
      idle = go (clashes (edges_of t st.n) st.v) refl;
    }
      where
        go : (b : Bool) → clashes (edges_of t st.n) st.v ≡ b → (merged w).state.pass ≡ Idle
        go true e = ap (λ (m : Standing). m.state.pass) (merged_clash t st e)
        go false e = ap (λ (m : Standing). m.state.pass) (merged_visits t st e)

-- ---- both, as often as Settle repeats them

module _ (again : Standing → Standing) (rests : (m : Standing) → Runs m → Rests (again m)) where
  -- after a Merge
  abbrev next : Standing → Standing → Standing
  next p m = elim (grouped p) [ true ↦ again m | false ↦ m ]

  merge_then : (p m : Standing) → Rests m → Rests (elim m.state.mark [ true ↦ m | false ↦ next p m ])
  merge_then p m S = go m.state.mark refl (grouped p)
    where
      go : (b : Bool) → m.state.mark ≡ b → (g : Bool) → Rests (elim b as (λ x. Standing) [ true ↦ m | false ↦ elim g as (λ x. Standing) [ true ↦ again m | false ↦ m ] ])
      go true e g = S
      go false e true = rests m (rests_runs S e)
      go false e false = S

  -- after a Propagate
  propagate_then : (w : Standing) → Runs w → Rests (elim (propagated w).state.mark [ true ↦ propagated w | false ↦ elim (merged (propagated w)).state.mark [ true ↦ merged (propagated w) | false ↦ next (propagated w) (merged (propagated w)) ] ])
  propagate_then w R = go (propagated w).state.mark refl
    where
      go : (b : Bool) → (propagated w).state.mark ≡ b
          → Rests (elim b as (λ x. Standing) [ true ↦ propagated w | false ↦ elim (merged (propagated w)).state.mark as (λ x. Standing) [ true ↦ merged (propagated w) | false ↦ next (propagated w) (merged (propagated w)) ] ])
      go true e = propagate_rests R
      go false e = merge_then (propagated w) (merged (propagated w)) (merge_rests (rests_runs (propagate_rests R) e) (propagate_settled R e))

settle_for_rests : (fuel : ℕ) (w : Standing) → Runs w → Rests (settle_for fuel w)
unfolding settle_for
settle_for_rests zero w R = runs_rests R
settle_for_rests (suc fuel) w R = propagate_then (settle_for fuel) (settle_for_rests fuel) w R

pub settle_rests : (w : Standing) → Runs w → Rests (settle w)
unfolding settle
settle_rests w R = settle_for_rests (w.state.v + 1) w R
