-- What it says of a clause that Sweep's rule drops it or leaves literals of it. Assumes nothing.
use Prim.Native.Nat.{ℕ, ◌<◌}
use native.Mathlib.Omega.{arith}
use mathlib.Core.Path.{◌≡◌, refl}
use mathlib.Core.Bool.{Bool, true, false}
use mathlib.Core.List.{List, [], ◌∷◌, map}
use lib.ListN.{length}
use lib.IntN.{ℤ}
use Rattle.literal.specs.Literals.{slot_of}
use Rattle.walk.specs.Walk.{Stamps}
use Rattle.hidden.specs.Hidden.{hidden_tautology, shorten}
use Rattle.tables.specs.Fates.{Fate, left, dropped}
use Rattle.sweep_visits.specs.Clause.{sweep_clause}

pub swept_dropped : (σ : Stamps) (C : List ℤ) → sweep_clause σ C ≡ dropped → (1 < length C) × (hidden_tautology σ (map slot_of C) ≡ true)
unfolding sweep_clause
swept_dropped σ [] e = absurd (let z : ◌≡◌ {A = ℕ} 0 1 = cc in omega arith)
swept_dropped σ (a ∷ []) e = absurd (let z : ◌≡◌ {A = ℕ} 0 1 = cc in omega arith)
swept_dropped σ (a ∷ b ∷ ls) e = (omega arith, go (hidden_tautology σ (map slot_of (a ∷ b ∷ ls))) e)
  where
    go : (x : Bool) → ◌≡◌ {A = Fate} (elim x [ true ↦ dropped | false ↦ left (shorten slot_of σ (a ∷ b ∷ ls)) ]) dropped → x ≡ true
    go true e = refl
    go false e = absurd (let z : ◌≡◌ {A = ℕ} 0 1 = cc in omega arith)

pub swept_left : (σ : Stamps) (C D : List ℤ) → sweep_clause σ C ≡ left D → D ≡ shorten slot_of σ C
unfolding sweep_clause
swept_left σ [] D e = absurd (let z : ◌≡◌ {A = ℕ} 0 1 = cc in omega arith)
swept_left σ (a ∷ []) D e = absurd (let z : ◌≡◌ {A = ℕ} 0 1 = cc in omega arith)
swept_left σ (a ∷ b ∷ ls) D e = go (hidden_tautology σ (map slot_of (a ∷ b ∷ ls))) e
  where
    go : (x : Bool) → ◌≡◌ {A = Fate} (elim x [ true ↦ dropped | false ↦ left (shorten slot_of σ (a ∷ b ∷ ls)) ]) (left D) → D ≡ shorten slot_of σ (a ∷ b ∷ ls)
    go true e = absurd (let z : ◌≡◌ {A = ℕ} 0 1 = cc in omega arith)
    go false e = cc
