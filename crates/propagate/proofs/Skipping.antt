-- Visits that are skipped: the visits that are left after them give what all of them give. Assumes nothing.
use Prim.Native.Nat.{ℕ, zero, suc, ◌+◌, ◌≤◌, ◌<◌}
use native.Mathlib.Omega.{arith}
use mathlib.Core.Path.{◌≡◌, refl, sym, ap, subst, ◌∙◌}
use mathlib.Core.Bool.{Bool, false}
use mathlib.Core.List.{List}
use lib.ListN.{length, get_or}
use lib.IntN.{ℤ}
use Rattle.tables.specs.Tables.{Tables, tables}
use Rattle.occurrences.specs.Pending.{Skippable, Covered}
use Rattle.propagate_visits.specs.Visits.{going, onward, propagate_visits}
use Rattle.propagate_visits.specs.Steps.{progress_of, StandsBefore, Advanced}
use Rattle.propagate_visits.specs.declared.Reach.{Reach}
use Rattle.propagate.specs.Listed.{Listed}
use Rattle.propagate.proofs.Quiet.{quiet_visits}

-- blocks that are left out
pub relisted : {n : ℕ} {heads places : List ℕ} {pending blocks : List Bool} {c : List ℕ} {l w : List ℤ} → Listed n heads places pending blocks c l w → (pending' blocks' : List Bool) → pending' ≡ pending → 64 ≤ length blocks' → Covered pending blocks'
    → Listed n heads places pending' blocks' c l w
relisted {n} {heads} {places} {pending} {blocks} {c} {l} {w} L pending' blocks' same e T =
    subst (λ (x : List Bool). Listed n heads places x blocks' c l w) (sym same) (record { vs = L.vs; walkable = L.walkable; rows = L.rows; occurs = L.occurs; room = (L.room.0, e); covered = T; quiet = L.quiet })

module _ {n room k : ℕ} {c : List ℕ} {l w : List ℤ} (changed : Bool) (R : StandsBefore n k c l w) where
  -- over clauses that are not pending
  pub advanced_skip : {heads places : List ℕ} {pending blocks : List Bool} → Listed n heads places pending blocks c l w → (j : ℕ) → Skippable pending k j → (r : Reach)
      → (0 < r.visits) × ((r.visits ≤ room) × ((k + r.visits ≤ n) × (k + r.visits ≤ j))) → ((t : Tables) → progress_of r.stand t ≡ onward n (k + r.visits) changed t)
      → Advanced n room k changed r c l w c l w
  advanced_skip {pending = pending} L j U r h e = record { made = (h.0, h.1.0); left = λ times links. by r.visits refl times links }
    where
      quiet : (i : ℕ) → k ≤ i → i < k + r.visits → get_or pending i false ≡ false
      quiet i a b = U.none i a (omega (arith, b, h.1.1.1))

      by : (a : ℕ) → r.visits ≡ a → (times : List ℕ) (links : List ℤ) (m before : ℕ)
          → propagate_visits n (r.visits + m) before (going k changed (tables c l w times links)) ≡ propagate_visits n m (before + r.visits) (progress_of r.stand (tables c l w times links))
      by zero z times links m before = absurd (omega (arith, z, h.0))
      by (suc d) z times links m before =
          ap (λ (x : ℕ). propagate_visits n (x + m) before (going k changed (tables c l w times links))) z
          ∙ quiet_visits {v = R.vars} {n = n} (tables c l w times links) R.formed changed d k (omega (arith, z, h.1.1.0)) (λ i a b. L.quiet i (omega (arith, b, z, h.1.1.0)) (quiet i a (omega (arith, b, z)))) m before
          ∙ ap (λ (x : ℕ). propagate_visits n m (before + x) (onward n (k + x) changed (tables c l w times links))) (sym z)
          ∙ ap (propagate_visits n m (before + r.visits)) (sym (e (tables c l w times links)))
