-- The fates that Sweep's rule gives, by any stamps: a clause of at most one literal is kept, or literals are left out of a clause and the others stay in their order, or it is dropped. Assumes nothing.
use Prim.Native.Nat.{◌≤◌}
use native.Mathlib.Omega.{arith}
use mathlib.Core.Bool.{Bool, true, false}
use mathlib.Core.List.{List, [], ◌∷◌, map, Sublistᴰ}
use lib.ListN.{length}
use lib.IntN.{ℤ}
use Rattle.literal.specs.Literals.{slot_of}
use Rattle.walk.specs.Walk.{Stamps}
use Rattle.hidden.specs.Hidden.{hidden_tautology, shorten}
use Rattle.hidden.proofs.Shorten.{shorten_sub}
use Rattle.tables.specs.Fates.{Fate, kept, left, dropped}
use Rattle.sweep_visits.specs.Clause.{sweep_clause}

pub sweep_cases : (σ : Stamps) (C : List ℤ) (P : Fate → Type 0) → (length C ≤ 1 → P kept) → ((D : List ℤ) → Sublistᴰ D C → P (left D)) → P dropped → P (sweep_clause σ C)
unfolding sweep_clause
sweep_cases σ [] P short part gone = short (omega arith)
sweep_cases σ (a ∷ []) P short part gone = short (omega arith)
sweep_cases σ (a ∷ b ∷ ls) P short part gone = by (hidden_tautology σ (map slot_of (a ∷ b ∷ ls)))
  where
    by : (x : Bool) → P (elim x [ true ↦ dropped | false ↦ left (shorten slot_of σ (a ∷ b ∷ ls)) ])
    by true = gone
    by false = part (shorten slot_of σ (a ∷ b ∷ ls)) (shorten_sub slot_of σ (a ∷ b ∷ ls))
