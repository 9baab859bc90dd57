-- The returns of a visit to a part: which fate the tests have shown, and what then stands in the part. Assumes nothing.
use Prim.Native.Nat.{ℕ, ◌-◌, ◌≤◌, ◌<◌}
use native.Mathlib.Omega.{arith}
use mathlib.Core.Path.{◌≡◌, refl, sym, ap, ◌∙◌}
use mathlib.Core.Bool.{Bool, true, false}
use mathlib.Core.List.{List, [], ◌∷◌, ◌++◌, map}
use lib.ListN.{length, take, replicate}
use lib.IntN.{ℤ, pos}
use Rattle.literal.specs.Literals.{slot_of, twin}
use Rattle.walk.specs.Walk.{Stamps}
use Rattle.stamp_columns.specs.Columns.{columns}
use Rattle.tables.specs.Fates.{Fate, kept, left, dropped}
use Rattle.hidden.specs.Hidden.{holds, hidden_tautology, unhidden, shorten}
use Rattle.visits.specs.Formed.{FitClause}
use Rattle.literal.specs.Holding.{holding}
use Rattle.visits.specs.Visited.{part_of, part_after}
use Rattle.visits.specs.declared.Visited.TheVariants.{Kept, Left, Dropped}
use Rattle.visits.proofs.Fitting.{fit_filter, filter_shorter}
use Rattle.sweep_visits.specs.Clause.{sweep_clause}

-- clauses of 0 or 1 literals are left; else the scan decides
pub fate_short : (σ : Stamps) (C : List ℤ) → length C < 2 → sweep_clause σ C ≡ kept
unfolding sweep_clause
fate_short σ [] h = refl
fate_short σ (a ∷ []) h = refl
fate_short σ (a ∷ b ∷ C) h = absurd (omega arith)

pub fate_hidden : (σ : Stamps) (C : List ℤ) → 2 ≤ length C → hidden_tautology σ (map slot_of C) ≡ true → sweep_clause σ C ≡ dropped
unfolding sweep_clause
fate_hidden σ [] h e = absurd (omega arith)
fate_hidden σ (a ∷ []) h e = absurd (omega arith)
fate_hidden σ (a ∷ b ∷ C) h e = rw (e, sweep_clause)

pub fate_left : (σ : Stamps) (C : List ℤ) → 2 ≤ length C → hidden_tautology σ (map slot_of C) ≡ false → sweep_clause σ C ≡ left (shorten slot_of σ C)
unfolding sweep_clause
fate_left σ [] h e = absurd (omega arith)
fate_left σ (a ∷ []) h e = absurd (omega arith)
fate_left σ (a ∷ b ∷ C) h e = rw (e, sweep_clause)

-- the parents and starts do not count for figure 5
pub shorten_times : (times : List ℕ) (links links' C : List ℤ) → shorten slot_of (columns times links) C ≡ shorten slot_of (columns times links') C
unfolding shorten unhidden holds
shorten_times times links links' C = refl

unhidden_shorter : (implies : ℕ → ℕ → Bool) (C : List ℤ) → length (unhidden slot_of implies C) ≤ length C
unfolding unhidden
unhidden_shorter implies C = filter_shorter _ C

pub shorten_shorter : (σ : Stamps) (C : List ℤ) → length (shorten slot_of σ C) ≤ length C
unfolding shorten
shorten_shorter σ C = omega (arith, unhidden_shorter (λ l m. holds σ (twin m) (twin l)) (unhidden slot_of (holds σ) C), unhidden_shorter (holds σ) C)

pub shorten_fits : (v : ℕ) (w : List ℤ) (b : Bool) (σ : Stamps) (C : List ℤ) → FitClause v w b C → FitClause v w b (shorten slot_of σ C)
unfolding shorten unhidden
shorten_fits v w b σ C F = fit_filter v w b _ _ (fit_filter v w b _ C F)

-- ---- the three returns

module _ (times : List ℕ) (links p q : List ℤ) where
  abbrev σ : Stamps
  σ = columns times links

  pub part_short : length p < 2 → part_of Kept p ≡ part_after (sweep_clause σ p) p
  part_short h = ap (λ (f : Fate). part_after f p) (sym (fate_short σ p h))

  pub part_dropped : 2 ≤ length p → hidden_tautology σ (map slot_of p) ≡ true → q ≡ take 0 p ++ replicate (length p - 0) (pos 0) → part_of Dropped q ≡ part_after (sweep_clause σ p) p
  part_dropped h e z = ap (part_of Dropped) z ∙ ap (λ (f : Fate). part_after f p) (sym (fate_hidden σ p h e))

  pub part_left : (r : ℕ) → 2 ≤ length p → hidden_tautology σ (map slot_of p) ≡ false
      → (r ≡ length (shorten slot_of (columns times []) p)) × (q ≡ shorten slot_of (columns times []) p ++ replicate (length p - length (shorten slot_of (columns times []) p)) (pos 0))
      → part_of (Left r) q ≡ part_after (sweep_clause σ p) p
  part_left r h e s =
      (λ i. part_of (Left (s.0 i)) (s.1 i))
      ∙ ap (λ (C : List ℤ). part_of (Left (length C)) (holding C p)) (shorten_times times [] links p)
      ∙ ap (λ (f : Fate). part_after f p) (sym (fate_left σ p h e))
