-- What to carry from call to call while stamps are fresh: the formula that was stamped, and that the clauses are its sweep up to the cursor.
--     fresh_stamp   Stamp makes it, with the cursor at 0
--     fresh_sweep   a Sweep call of n visits keeps it, with the cursor n further
--     sweep_models  such a call keeps the satisfying assignments
--     failed_false  a failed literal is false in all of them, before, between and after such calls
--     failed_true   so what Failed sets is true
-- Assumes nothing.
use Prim.Native.Nat.{ℕ, ◌+◌, ◌*◌, ◌<◌}
use mathlib.Core.Path.{◌≡◌, refl, sym, ap, subst, ◌∙◌}
use mathlib.Core.Bool.{true, false}
use mathlib.Core.Logic.Iff
use mathlib.Core.Logic.{◌↔◌, ⊎_elim}
use mathlib.Core.List.{List}
use Rattle.literal.specs.Literals.{twin}
use Rattle.literal.specs.Assignments.{Assignment}
use Rattle.literal.proofs.Twins.{twin_below}
use Rattle.walk.specs.Walk.{Stamps, Lists}
use Rattle.walk.proofs.Theorems.{holds_reach}
use Rattle.scc.specs.Groups.{cyclic}
use Rattle.hidden.specs.Failed.{same_start, failed_slot}
use Rattle.hidden.proofs.Failed.{Failed, failed_slot_lem}
use Rattle.sound.specs.Formula.{Clause, True, Models, graph, formula_stamps}
use Rattle.sound.specs.Sweep.{sweep_visit, visit_first, visit_from, sweep_first}
use Rattle.sound.specs.Kept.{Shaped, Since}
use Rattle.sound.proofs.Truth.{true_or, not_both}
use Rattle.sound.proofs.Stamped.{stamped_linked}
use Rattle.sound.proofs.Sound.{StampedFormula, paths_hold, sweep_since, sweep_keeps, resumed}
use Rattle.sound.proofs.Walked.{stamp_ready}

-- a failed literal is false, its complement true, in every assignment of what stands; also after a sweep that stopped
pub failed_false : (vars : ℕ) (f : List Clause) (σ : Stamps) (R : StampedFormula vars f σ) (g : List Clause) → Since (graph f) f g → (τ : Assignment) → Models τ g
    → (s x : ℕ) → s < 2 * vars → Failed (2 * vars) σ s x → True τ (twin x)
failed_false vars f σ R g S τ M s x lt k =
    let F = R.stamped.forest in
    let in-x = R.stamped.all x k.below in
    let path = paths_hold vars f σ R g S τ M in
    ⊎_elim
    (λ t. absurd (not_both τ s
    (path x s (holds_reach (graph f) σ F in-x (R.stamped.all s lt) k.positive) t)
    (path x (twin s) (holds_reach (graph f) σ F in-x (R.stamped.all (twin s) (twin_below vars s lt)) k.negative) t)))
    (λ t. t)
    (true_or τ x)

-- the clauses now are a sweep of the stamped formula that has come to the cursor
pub record Fresh (vars : ℕ) (σ : Stamps) (cursor : ℕ) (now : List Clause) : Type 0 where
  pub then : List Clause
  pub ready : StampedFormula vars then σ
  pub swept : now ≡ sweep_first cursor σ then

pub fresh_stamp : (vars : ℕ) (f : List Clause) (order : List ℕ) → Shaped vars f → Lists (2 * vars) order → cyclic (graph f) (2 * vars) ≡ false → Fresh vars (formula_stamps vars order f) 0 f
unfolding visit_first
fresh_stamp vars f order shaped o h = record { then = f; ready = stamp_ready vars f shaped order o h; swept = refl }

module _ (vars : ℕ) (σ : Stamps) (cursor : ℕ) (g : List Clause) (F : Fresh vars σ cursor g) where
  pub fresh_sweep : (n : ℕ) → Fresh vars σ (cursor + n) (visit_from (sweep_visit σ) cursor n g)
  fresh_sweep n =
      record {
        then = F.then;
        ready = F.ready;
        swept = ap (visit_from (sweep_visit σ) cursor n) F.swept ∙ resumed (sweep_visit σ) cursor n F.then;
      }

  -- the assignments of the clauses now are those of the stamped formula
  fresh_models : (τ : Assignment) → Models τ g ↔ Models τ F.then
  fresh_models τ = subst (λ (x : List Clause). Models τ x ↔ Models τ F.then) (sym F.swept) (sweep_keeps vars F.then σ F.ready cursor τ)

  pub fresh_since : Since (graph F.then) F.then g
  fresh_since = subst (Since (graph F.then) F.then) (sym F.swept) (sweep_since vars F.then σ F.ready cursor)

  -- the complement of the literal that Failed finds for a variable is true in every assignment of the clauses now
  pub failed_true : (τ : Assignment) → Models τ g → (s : ℕ) → s < 2 * vars → same_start σ s ≡ true → True τ (twin (failed_slot σ (2 * vars) s))
  failed_true τ M s lt e =
      let R = F.ready in
      let L = stamped_linked (graph F.then) (2 * vars) σ R.stamped R.sized in
      failed_false vars F.then σ R g fresh_since τ M s (failed_slot σ (2 * vars) s) lt (failed_slot_lem (2 * vars) σ L s lt (twin_below vars s lt) e)

-- a Sweep call keeps the satisfying assignments
pub sweep_models : (vars : ℕ) (σ : Stamps) (cursor : ℕ) (g : List Clause) → Fresh vars σ cursor g → (n : ℕ) (τ : Assignment) → Models τ (visit_from (sweep_visit σ) cursor n g) ↔ Models τ g
unfolding fresh_sweep
sweep_models vars σ cursor g F n τ =
    Iff.trans
    (fresh_models vars σ (cursor + n) (visit_from (sweep_visit σ) cursor n g) (fresh_sweep vars σ cursor g F n) τ)
    (Iff.symm (fresh_models vars σ cursor g F τ))
