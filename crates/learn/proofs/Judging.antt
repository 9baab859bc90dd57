-- What Sweep's rule leaves of a newcomer, as a record of the window. Assumes nothing.
use Prim.Native.Nat.{ℕ, ◌+◌, ◌-◌, ◌≤◌}
use native.Mathlib.Omega.{arith}
use mathlib.Core.Path.{◌≡◌, sym, ap, ◌∙◌}
use mathlib.Core.List.{List, [], ◌++◌, append_assoc}
use lib.ListN.{length, take, drop, replicate, length-replicate, replicate-append-replicate}
use lib.Seq.{take_at, drop_at}
use lib.IntN.{ℤ, pos}
use Rattle.base.proofs.Lists.{sub_length}
use Rattle.literal.specs.Holding.{holding}
use Rattle.walk.specs.Walk.{Stamps}
use Rattle.tables.specs.Fates.{Fate, kept, left, dropped, unit, conflict}
use Rattle.visits.specs.Visited.{Part, part_of, part_after, visited_as}
use Rattle.visits.specs.declared.Visited.{Visited}
use Rattle.sweep_visits.specs.Clause.{sweep_clause}
use Rattle.sweep_visits.proofs.Fates.{sweep_cases}
use Rattle.window.specs.Window.{record_of}
use Rattle.learn.specs.Learn.{remains}
use Rattle.learn.specs.Ready.{FewLeft}

-- ---- no more is left than there was

abbrev Within : ℕ → Fate → Type 0
Within n kept = Unit {0}
Within n (left D) = length D ≤ n
Within n dropped = Unit {0}
Within n (unit l) = Unit {0}
Within n conflict = Unit {0}

pub sweep_within : (σ : Stamps) (C : List ℤ) → Within (length C) (sweep_clause σ C)
sweep_within σ C = sweep_cases σ C (Within (length C)) (λ short. tt) (λ D s. sub_length s) tt

pub few_left : (n : ℕ) (f : Fate) → n ≤ 64 → Within n f → FewLeft (visited_as f)
few_left n kept h w = tt
few_left n (left D) h w = omega (arith, h, w)
few_left n dropped h w = tt
few_left n (unit l) h w = tt
few_left n conflict h w = tt

-- ---- the 64 places, n of which hold the newcomer

drop_zeros : (n m : ℕ) → n ≤ m → drop n (replicate m (pos 0)) ≡ replicate (m - n) (pos 0)
drop_zeros n m h =
    let q : n + (m - n) ≡ m = omega (arith, h) in
    ap (drop n) (ap (λ (k : ℕ). replicate k (pos 0)) (sym q) ∙ sym (replicate-append-replicate n (m - n) (pos 0)))
    ∙ drop_at (replicate n (pos 0)) (replicate (m - n) (pos 0)) n (length-replicate {A = ℤ} n (pos 0))

module _ (C row : List ℤ) (few : length C ≤ 64) (empty : row ≡ replicate 64 (pos 0)) where
  -- the newcomer is copied whole into the front
  module _ (copied : List ℤ) (is : copied ≡ C) where
    pub front_is : take (length C) (copied ++ drop (length C) row) ≡ C
    front_is = take_at copied (drop (length C) row) (length C) (ap length is) ∙ is

    rest_is : drop (length C) (copied ++ drop (length C) row) ≡ replicate (64 - length C) (pos 0)
    rest_is = drop_at copied (drop (length C) row) (length C) (ap length is) ∙ ap (drop (length C)) empty ∙ drop_zeros (length C) 64 few

    -- a part that holds D, with the rest behind it
    record_is : (D part : List ℤ) → length D ≤ length C → part ≡ holding D C → part ++ drop (length C) (copied ++ drop (length C) row) ≡ record_of D
    record_is D part le e =
        let q : length C - length D + (64 - length C) ≡ 64 - length D = omega (arith, le, few) in
        (λ i. e i ++ rest_is i)
        ∙ append_assoc D (replicate (length C - length D) (pos 0)) (replicate (64 - length C) (pos 0))
        ∙ ap (λ (zs : List ℤ). D ++ zs) (replicate-append-replicate (length C - length D) (64 - length C) (pos 0) ∙ ap (λ (k : ℕ). replicate k (pos 0)) q)

    whole_is : (part : List ℤ) → part ≡ C → part ++ drop (length C) (copied ++ drop (length C) row) ≡ record_of C
    whole_is part e = λ i. e i ++ rest_is i

    -- THE LAW: what is seen, and what is left in the 64 places
    pub judged : (f : Fate) → Within (length C) f → (r : Visited) (part : List ℤ) → part_of r part ≡ part_after f C
        → (r ≡ visited_as f) × (part ++ drop (length C) (copied ++ drop (length C) row) ≡ record_of (remains f C))
    judged kept w r part e = (ap (λ (p : Part). p.visited) e, whole_is part (ap (λ (p : Part). p.part) e))
    judged (left D) w r part e = (ap (λ (p : Part). p.visited) e, record_is D part w (ap (λ (p : Part). p.part) e))
    judged dropped w r part e = (ap (λ (p : Part). p.visited) e, record_is [] part (omega arith) (ap (λ (p : Part). p.part) e))
    judged (unit l) w r part e = (ap (λ (p : Part). p.visited) e, record_is [] part (omega arith) (ap (λ (p : Part). p.part) e))
    judged conflict w r part e = (ap (λ (p : Part). p.visited) e, record_is [] part (omega arith) (ap (λ (p : Part). p.part) e))
