-- From the tables' records to slots, for Stamp and Sweep.
--     stamped_agree   the columns of the records that Stamp writes agree with the walk's stamps on the slots of the variables
--     sweep_agree     so Sweep does the same to a clause by the one as by the other
--     sweep_fate      what Sweep finds for a clause of literals is what it makes of the clause of their slots
-- Assumes nothing.
use Prim.Native.Nat.{ℕ, zero, suc, ◌+◌, ◌*◌, ◌<◌}
use native.Mathlib.Omega.{arith}
use native.Mathlib.Nat.{le_of_suc-le-suc}
use mathlib.Core.Path.{◌≡◌, refl, sym, ap, ◌∙◌}
use mathlib.Core.Bool.{Bool, true, false}
use mathlib.Core.List.{List, [], ◌∷◌, ◌++◌, map}
use lib.ListN.{length, get_or, drop, length-map, get_or-map}
use lib.IntN.{ℤ, pos}
use Rattle.base.specs.Lists.{interleave}
use Rattle.base.proofs.Lists.{map_self}
use Rattle.literal.specs.Literals.{slot_of, lit_at}
use Rattle.literal.proofs.Laws.{slot_lit}
use Rattle.walk.specs.Walk.{Stamps}
use Rattle.stamp_columns.specs.Columns.{columns}
use Rattle.hidden.specs.Hidden.{hidden_tautology, shorten}
use Rattle.hidden.proofs.Intervals.{Within}
use Rattle.hidden.proofs.Shorten.{shorten_slots}
use Rattle.hidden.proofs.Agree.{Agree, tautology_agree, shorten_agree}
use Rattle.stamp_columns.proofs.Columns.{column_discovery, column_finishes, column_parents, column_starts}
use Rattle.tables.specs.Tables.{Tables}
use Rattle.tables.specs.Fates.{Fate, kept, left, unit, conflict}
use Rattle.tables.specs.Fates as fates
use Rattle.stamp.specs.Stamp.{stamped_tables}
use Rattle.sweep_visits.specs.Clause.{sweep_clause}
use Rattle.sound.specs.Formula.{Clause, dropped, standing}
use Rattle.sound.specs.Sweep.{sweep_slots}

-- ---- Stamp's records

module _ {A : Type 0} (rest : List A) (d : A) where
  -- two columns in one list: the first at the even places, the second at the odd ones
  interleave_even : (xs ys : List A) (q : ℕ) → length ys ≡ length xs → q < length xs → get_or (interleave xs ys ++ rest) (2 * q) d ≡ get_or xs q d
  unfolding interleave
  interleave_even [] ys q len lt = absurd (omega arith)
  interleave_even (x ∷ xs) [] q len lt = absurd (omega arith)
  interleave_even (x ∷ xs) (y ∷ ys) zero len lt = refl
  interleave_even (x ∷ xs) (y ∷ ys) (suc q) len lt =
      ap (λ (i : ℕ). get_or (x ∷ y ∷ (interleave xs ys ++ rest)) i d) (let e : 2 * suc q ≡ suc (suc (2 * q)) = omega arith in e) ∙ interleave_even xs ys q (omega arith) (le_of_suc-le-suc lt)

  interleave_odd : (xs ys : List A) (q : ℕ) → length ys ≡ length xs → q < length xs → get_or (interleave xs ys ++ rest) (2 * q + 1) d ≡ get_or ys q d
  unfolding interleave
  interleave_odd [] ys q len lt = absurd (omega arith)
  interleave_odd (x ∷ xs) [] q len lt = absurd (omega arith)
  interleave_odd (x ∷ xs) (y ∷ ys) zero len lt = refl
  interleave_odd (x ∷ xs) (y ∷ ys) (suc q) len lt =
      ap (λ (i : ℕ). get_or (x ∷ y ∷ (interleave xs ys ++ rest)) i d) (let e : 2 * suc q + 1 ≡ suc (suc (2 * q + 1)) = omega arith in e) ∙ interleave_odd xs ys q (omega arith) (le_of_suc-le-suc lt)

-- a slot that was written as a literal, read back
slot_back : (l : List ℕ) (q : ℕ) → slot_of (get_or (map lit_at l) q (lit_at 0)) ≡ get_or l q 0
slot_back l q = ap slot_of (get_or-map lit_at l q 0) ∙ slot_lit (get_or l q 0)

pub stamped_agree : (v : ℕ) (σ : Stamps) (t : Tables) → length σ.discoveries ≡ 2 * v → length σ.finishes ≡ 2 * v → length σ.parents ≡ 2 * v → length σ.starts ≡ 2 * v
    → Agree (2 * v) (columns (stamped_tables v σ t).times (stamped_tables v σ t).links) σ
unfolding stamped_tables
stamped_agree v σ t hd hf hp hs =
    let times : List ℕ = (stamped_tables v σ t).times in
    let links : List ℤ = (stamped_tables v σ t).links in
    let lp : length (map lit_at σ.parents) ≡ 2 * v = length-map σ.parents lit_at ∙ hp in
    let ls : length (map lit_at σ.starts) ≡ 2 * v = length-map σ.starts lit_at ∙ hs in
    record {
      discoveries = λ q lt. column_discovery times links q ∙ interleave_even (drop (4 * v) t.times) 0 σ.discoveries σ.finishes q (hf ∙ sym hd) (omega (arith, lt, hd));
      finishes = λ q lt. column_finishes times links q ∙ interleave_odd (drop (4 * v) t.times) 0 σ.discoveries σ.finishes q (hf ∙ sym hd) (omega (arith, lt, hd));
      parents = λ q lt. column_parents times links q ∙ ap slot_of (interleave_even (drop (4 * v) t.links) (pos 0) (map lit_at σ.parents) (map lit_at σ.starts) q (ls ∙ sym lp) (omega (arith, lt, lp)) ∙ default σ.parents q (omega (arith, lt, hp))) ∙ slot_back σ.parents q;
      starts = λ q lt. column_starts times links q ∙ ap slot_of (interleave_odd (drop (4 * v) t.links) (pos 0) (map lit_at σ.parents) (map lit_at σ.starts) q (ls ∙ sym lp) (omega (arith, lt, lp)) ∙ default σ.starts q (omega (arith, lt, hs))) ∙ slot_back σ.starts q;
    }
  where
    -- within the list the default does not matter
    default : (l : List ℕ) (q : ℕ) → q < length l → get_or (map lit_at l) q (pos 0) ≡ get_or (map lit_at l) q (lit_at 0)
    default [] q lt = absurd (omega arith)
    default (x ∷ l) zero lt = refl
    default (x ∷ l) (suc q) lt = default l q (le_of_suc-le-suc lt)

-- ---- Sweep's rule

pub sweep_agree : (size : ℕ) (σ ρ : Stamps) → Agree size σ ρ → (C : List ℕ) → Within size C → sweep_slots σ C ≡ sweep_slots ρ C
unfolding sweep_slots
sweep_agree size σ ρ A [] w = refl
sweep_agree size σ ρ A (a ∷ []) w = refl
sweep_agree size σ ρ A (a ∷ b ∷ ls) w =
    λ i. elim (tautology_agree size σ ρ A (a ∷ b ∷ ls) w i) [ true ↦ dropped | false ↦ standing (shorten_agree size σ ρ A (λ s. s) (a ∷ b ∷ ls) same i) ]
  where
    same : Within size (map (λ s. s) (a ∷ b ∷ ls))
    same = rw (map_self (a ∷ b ∷ ls)) w

-- a clause of literals after its fate, as a clause of slots
abbrev pub shown : List ℤ → Fate → Clause
shown C kept = standing (map slot_of C)
shown C (left D) = standing (map slot_of D)
shown C fates.dropped = dropped
shown C (unit l) = dropped
shown C conflict = standing []

pub sweep_fate : (σ : Stamps) (C : List ℤ) → shown C (sweep_clause σ C) ≡ sweep_slots σ (map slot_of C)
unfolding sweep_clause sweep_slots
sweep_fate σ [] = refl
sweep_fate σ (a ∷ []) = refl
sweep_fate σ (a ∷ b ∷ ls) = go (hidden_tautology σ (map slot_of (a ∷ b ∷ ls)))
  where
    go : (t : Bool) → shown (a ∷ b ∷ ls) (elim t [ true ↦ fates.dropped | false ↦ left (shorten slot_of σ (a ∷ b ∷ ls)) ]) ≡ elim t [ true ↦ dropped | false ↦ standing (shorten (λ s. s) σ (map slot_of (a ∷ b ∷ ls))) ]
    go true = refl
    go false = ap standing (shorten_slots slot_of σ (a ∷ b ∷ ls))
