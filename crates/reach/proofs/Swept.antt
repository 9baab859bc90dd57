-- Behind a Stamp the clauses are a sweep of those that were stamped, up to the cursor (`SweptOf`): Sweep, Failed and the call that sets a programme keep it so (`follow_held`). Assumes nothing.
use Prim.Native.Nat.{ℕ, zero, suc, ◌+◌}
use mathlib.Core.Path.{◌≡◌, refl, ap, ◌∙◌}
use mathlib.Core.List.Memᴰ
use mathlib.Core.List.{List, [], ◌∷◌}
use lib.ListN.{length}
use Rattle.walk.specs.Walk.{Stamps}
use Rattle.state.specs.declared.State.{State}
use Rattle.tables.specs.Tables.{Tables}
use Rattle.sound.specs.Formula.{Clause}
use Rattle.sound.specs.Sweep.{sweep_visit, visit_first, visit_from, sweep_first}
use Rattle.sound.proofs.Sound.{resumed}
use Rattle.moves.specs.Core.{Core}
use Rattle.moves.specs.Moves.{Freshness, spent, fresh, Behind, spend, failed, opposite, sweep}
use Rattle.call_lists.specs.Lists.{Call, call_on, Step, step_on, steps_on}
use Rattle.call_lists.specs.Lists as lists
use Rattle.refinement.proofs.Held.{HeldBy, Lasting}
use Rattle.refinement.proofs.HeldSweep.{sweep_held}
use Rattle.refinement.proofs.HeldFailed.{failed_held}
use Rattle.refinement.proofs.HeldProgramme.{programme_held}
use Rattle.refinement.proofs.Demand3.{step_held}
use Rattle.reach.specs.Following.{Follows, Following}

-- stamps that are not spent are σ, and the cursor is behind the visits made
abbrev pub Cursor : Stamps → ℕ → Freshness → Type 0
Cursor σ count spent = Unit
Cursor σ count (fresh ρ c) = (ρ ≡ σ) × (c ≡ count)

-- the clauses are those of f with the first visited under the stamps σ
pub record SweptOf (vars : ℕ) (σ : Stamps) (f : List Clause) (v : ℕ) (k : Core) (w : Freshness) : Type 0 where
  pub variables : v ≡ vars
  pub count : ℕ
  pub swept : k.clauses ≡ sweep_first count σ f
  pub cursor : Cursor σ count w

pub swept_lasting : (vars : ℕ) (σ : Stamps) (f : List Clause) → Lasting (SweptOf vars σ f)
swept_lasting vars σ f = record { step = by }
  where
    by : {v : ℕ} {k k' : Core} {w w' : Freshness} → SweptOf vars σ f v k w → Behind v k w k' w' → SweptOf vars σ f v k' w'
    by S spend = record { variables = S.variables; count = S.count; swept = S.swept; cursor = tt }
    by S (failed s lt e) = record { variables = S.variables; count = S.count; swept = S.swept; cursor = S.cursor }
    by S (opposite s lt e h) = record { variables = S.variables; count = S.count; swept = S.swept; cursor = tt }
    by S (sweep {c = c} n) =
        let at = S.cursor in
        record {
          variables = S.variables;
          count = S.count + n;
          swept = (λ i. visit_from (sweep_visit (at.0 i)) (at.1 i) n (S.swept i)) ∙ resumed (sweep_visit σ) S.count n f;
          cursor = (at.0, ap (λ (x : ℕ). x + n) at.1);
        }

-- a call that may follow keeps what is kept behind a Stamp
follows_held : {P : ℕ → Core → Freshness → Type 0} → Lasting P → (c : Call) → Follows c → (t : Tables) (st : State) → HeldBy P t st → HeldBy P (call_on c t st).tables (call_on c t st).state
follows_held {P = P} lasting (lists.merge _) may t st H = elim may [ ]
follows_held {P = P} lasting (lists.propagate _) may t st H = elim may [ ]
follows_held {P = P} lasting (lists.stamp _) may t st H = elim may [ ]
follows_held lasting lists.failed may t st H = failed_held lasting t st H
follows_held lasting (lists.sweep steps) may t st H = sweep_held lasting steps t st H
follows_held lasting (lists.programme codes) may t st H = programme_held codes t st H

pub follow_held : {P : ℕ → Core → Freshness → Type 0} → Lasting P → (ss : List Step) → Following ss → (t : Tables) (st : State) → HeldBy P t st → HeldBy P (steps_on ss t st).tables (steps_on ss t st).state
unfolding steps_on
follow_held lasting [] may t st H = H
follow_held lasting (s ∷ ss) may t st H = follow_held lasting ss (λ x m. may x (Memᴰ.tail m)) (step_on s t st).tables (step_on s t st).state (step_held s t st (λ u. follows_held lasting s.call (may s (Memᴰ.head refl)) u st) H)

-- a sweep leaves as many clauses
pub first_length : (v : Clause → Clause) (k : ℕ) (f : List Clause) → length (visit_first v k f) ≡ length f
unfolding visit_first
first_length v zero f = refl
first_length v (suc k) [] = refl
first_length v (suc k) (c ∷ f) = ap suc (first_length v k f)
