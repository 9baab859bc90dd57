-- What Sweep makes of a clause, and what a clause that is to be visited has. Assumes nothing.
use Prim.Native.Nat.{ℕ}
use native.Mathlib.Omega.{arith}
use mathlib.Core.Bool.{Bool, true, false}
use mathlib.Core.List.{List, [], ◌∷◌, map}
use lib.IntN.{ℤ}
use Rattle.literal.specs.Literals.{slot_of}
use Rattle.walk.specs.Walk.{Stamps}
use Rattle.hidden.specs.Hidden.{hidden_tautology, shorten}
use Rattle.tables.specs.Clauses.{literals_of}
use Rattle.tables.specs.Fates.{left, dropped}
use Rattle.visits.specs.Visited.{Visitable}
use Rattle.visits.proofs.Forming.{clause_fits}
use Rattle.visits.proofs.Visiting.{Shrinks, stays, leaves, drops}
use Rattle.hidden_tautologies.specs.Judged.{Judged}
use Rattle.sweep_visits.specs.Clause.{sweep_clause}
use Rattle.sweep_visits.specs.Visits.{SweepableFrom}

-- Sweep keeps a clause, shortens it or drops it
pub sweep_shrinks : (σ : Stamps) (C : List ℤ) → Shrinks (sweep_clause σ C)
unfolding sweep_clause
sweep_shrinks σ [] = stays
sweep_shrinks σ (a ∷ []) = stays
sweep_shrinks σ (a ∷ b ∷ C) = go (hidden_tautology σ (map slot_of (a ∷ b ∷ C)))
  where
    go : (x : Bool) → Shrinks (elim x [ true ↦ dropped | false ↦ left (shorten slot_of σ (a ∷ b ∷ C)) ])
    go true = drops
    go false = leaves (shorten slot_of σ (a ∷ b ∷ C))

-- ---- what a clause that is to be visited has

module _ {k : ℕ} {c : List ℕ} {l : List ℤ} {times : List ℕ} {links : List ℤ} (S : SweepableFrom k 1 c l times links) where
  pub sweepable_one : Visitable k c l S.sweepable.variables
  sweepable_one = record { vars = S.sweepable.vars; number = S.number; settled = S.number; formed = S.sweepable.formed; below = omega (arith, S.room) }

  pub sweepable_judged : Judged times links (literals_of c l k)
  sweepable_judged = record { vars = S.sweepable.vars; stamped = S.sweepable.stamped; long = S.sweepable.long; each = λ j h. (clause_fits S.sweepable.formed k (omega (arith, S.room))).ranged j h }
