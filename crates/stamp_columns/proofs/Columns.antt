-- The stamp records as columns: what the columns hold. Assumes nothing.
use Prim.Native.Nat.{ℕ, zero, suc, ◌+◌, ◌*◌}
use native.Mathlib.Omega.{arith}
use mathlib.Core.Path.{◌≡◌, refl, ap, ◌∙◌}
use mathlib.Core.List.{List, [], ◌∷◌}
use lib.ListN.{get_or, get_or-map}
use lib.IntN.{ℤ, pos}
use Rattle.base.specs.Lists.{evens, odds}
use Rattle.literal.specs.Literals.{slot_of}
use Rattle.walk.specs.Walk.{Stamps}
use Rattle.walk.specs.Forest.{discovery_at, finish_at, parent_at, start_at, Holds}
use Rattle.stamps.specs.Fresh.{discovery_in, finish_in, parent_in, start_in}
use Rattle.stamps.specs.Fresh as records
use Rattle.stamp_columns.specs.Columns.{columns}

-- ---- every second place

evens_at : {A : Type 0} (l : List A) (s : ℕ) (d : A) → get_or (evens l) s d ≡ get_or l (2 * s) d
unfolding evens
evens_at [] s d = refl
evens_at (x ∷ []) zero d = refl
evens_at (x ∷ []) (suc s) d = ap (λ (i : ℕ). get_or (x ∷ []) i d) (let e : suc (2 * s + 1) ≡ 2 * suc s = omega arith in e)
evens_at (x ∷ y ∷ l) zero d = refl
evens_at (x ∷ y ∷ l) (suc s) d = evens_at l s d ∙ ap (λ (i : ℕ). get_or (x ∷ y ∷ l) i d) (let e : suc (suc (2 * s)) ≡ 2 * suc s = omega arith in e)

odds_at : {A : Type 0} (l : List A) (s : ℕ) (d : A) → get_or (odds l) s d ≡ get_or l (2 * s + 1) d
unfolding odds
odds_at [] s d = refl
odds_at (x ∷ []) s d = ap (λ (i : ℕ). get_or (x ∷ []) i d) (let e : suc (2 * s) ≡ 2 * s + 1 = omega arith in e)
odds_at (x ∷ y ∷ l) zero d = refl
odds_at (x ∷ y ∷ l) (suc s) d = odds_at l s d ∙ ap (λ (i : ℕ). get_or (x ∷ y ∷ l) i d) (let e : suc (suc (2 * s + 1)) ≡ 2 * suc s + 1 = omega arith in e)

module _ (times : List ℕ) (links : List ℤ) where
  abbrev σ : Stamps
  σ = columns times links

  pub column_discovery : (s : ℕ) → discovery_at σ s ≡ discovery_in times s
  column_discovery s = evens_at times s 0

  pub column_finishes : (s : ℕ) → finish_at σ s ≡ finish_in times s
  column_finishes s = odds_at times s 0

  pub column_parents : (s : ℕ) → parent_at σ s ≡ slot_of (parent_in links s)
  column_parents s = get_or-map slot_of (evens links) s (pos 0) ∙ ap slot_of (evens_at links s (pos 0))

  pub column_starts : (s : ℕ) → start_at σ s ≡ slot_of (start_in links s)
  column_starts s = get_or-map slot_of (odds links) s (pos 0) ∙ ap slot_of (odds_at links s (pos 0))

  pub to_times : (a b : ℕ) → Holds σ a b → records.Holds times a b
  to_times a b h = (omega (arith, h.0, column_discovery a, column_discovery b), omega (arith, h.1, column_finishes a, column_finishes b))

  pub to_columns : (a b : ℕ) → records.Holds times a b → Holds σ a b
  to_columns a b h = (omega (arith, h.0, column_discovery a, column_discovery b), omega (arith, h.1, column_finishes a, column_finishes b))
