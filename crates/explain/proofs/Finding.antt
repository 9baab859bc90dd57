-- What was found of a clause, by what a visit of Sweep has left of a copy of it. Assumes nothing.
use Prim.Native.Nat.{ℕ, ◌-◌, ◌≤◌}
use native.Mathlib.Omega.{arith}
use mathlib.Core.Path.{◌≡◌, refl, sym, ap, subst, ◌∙◌}
use mathlib.Core.List.{List, [], ◌∷◌, ◌++◌, map}
use lib.ListN.{length, take, replicate, length-append, length-map}
use lib.Seq.{take-append-le, take_at, length-take-le}
use lib.IntN.{ℤ, pos}
use Rattle.base.proofs.Lists.{mem_filter, get_d_mem, each_mem}
use Rattle.literal.specs.Literals.{Literal, slot_of}
use Rattle.literal.specs.Holding.{holding}
use Rattle.walk.specs.Walk.{Stamps}
use Rattle.hidden.specs.Hidden.{holds, unhidden}
use Rattle.clause_slots.specs.Stamped.{Lits}
use Rattle.state.specs.declared.Verdict.TheVariants.{Nothing, Drop, Shorten}
use Rattle.tables.specs.Fates.{Fate, kept, left, dropped, unit, conflict}
use Rattle.visits.specs.Visited.{Part, part_of, part_after}
use Rattle.visits.specs.declared.Visited.{Visited}
use Rattle.visits.specs.declared.Visited.TheVariants.{Kept, Left}
use Rattle.explain.specs.declared.Found.{Found}
use Rattle.explain.specs.Reasons.{ends_in, literal_ends, left_out, drop_ends, reasons, taken_out, reasons_by}
use Rattle.explain.specs.Asking.{LeftOf, Listed, Says}
use Rattle.explain.proofs.Leaving.{left_out_length}

-- ---- literals that are taken out

-- what the first rule leaves are literals
pub unhidden_lits : (σ : Stamps) {C : List ℤ} → Lits C → Lits (unhidden slot_of (holds σ) C)
unfolding unhidden
unhidden_lits σ {C} L = record { each = λ k lt. each_mem (Literal 1024) C (pos 0) L.each _ (mem_filter _ C (get_d_mem (unhidden slot_of (holds σ) C) k (pos 0) lt)) }

abbrev pub shortened : ℕ → Found
shortened n = record { verdict = Shorten; out = n; chains = n }

pub taken_shown : (σ : Stamps) (C D rest xs : List ℤ) (n : ℕ) → LeftOf C D → (length D ≡ length C → ⊥) → rest ≡ unhidden slot_of (holds σ) C
    → Listed (map (ends_in σ C rest) (left_out C D)) n xs → Says (shortened n) xs (taken_out σ C (left_out C D))
unfolding literal_ends
taken_shown σ C D rest xs n L d e S = go (left_out C D) (λ z. d (omega (arith, left_out_length L, z))) (subst (λ (r : List ℤ). Listed (map (ends_in σ C r) (left_out C D)) n xs) e S)
  where
    go : (ls : List ℤ) → (length ls ≡ 0 → ⊥) → Listed (map (ends_in σ C (unhidden slot_of (holds σ) C)) ls) n xs → Says (shortened n) xs (taken_out σ C ls)
    go [] h S = absurd (h refl)
    go (l ∷ ls) h S = record { verdict = refl; out = omega (arith, S.number, length-map ls (ends_in σ C (unhidden slot_of (holds σ) C))); shown = S }

-- ---- what was seen

-- nothing is done
pub seen_kept : (f : Fate) (σ : Stamps) (C row : List ℤ) → part_of Kept row ≡ part_after f C → reasons_by f σ C ≡ reasons Nothing 0 []
seen_kept kept σ C row e = refl
seen_kept (left D) σ C row e = absurd (let z : ◌≡◌ {A = ℕ} 0 1 = cc (ap (λ (p : Part). p.visited) e) in omega arith)
seen_kept dropped σ C row e = absurd (let z : ◌≡◌ {A = ℕ} 0 1 = cc (ap (λ (p : Part). p.visited) e) in omega arith)
seen_kept (unit l) σ C row e = absurd (let z : ◌≡◌ {A = ℕ} 0 1 = cc (ap (λ (p : Part). p.visited) e) in omega arith)
seen_kept conflict σ C row e = absurd (let z : ◌≡◌ {A = ℕ} 0 1 = cc (ap (λ (p : Part). p.visited) e) in omega arith)

-- m literals are left
pub record Leaves (f : Fate) (m : ℕ) (row C : List ℤ) : Type 0 where
  pub stays : List ℤ
  pub fate : f ≡ left stays
  pub number : m ≡ length stays
  pub held : row ≡ holding stays C

pub seen_left : (f : Fate) (m : ℕ) (C row : List ℤ) → part_of (Left m) row ≡ part_after f C → Leaves f m row C
seen_left kept m C row e = absurd (let z : ◌≡◌ {A = ℕ} 0 1 = cc (ap (λ (p : Part). p.visited) e) in omega arith)
seen_left (left D) m C row e = record { stays = D; fate = refl; number = cc (ap (λ (p : Part). p.visited) e); held = ap (λ (p : Part). p.part) e }
seen_left dropped m C row e = absurd (let z : ◌≡◌ {A = ℕ} 0 1 = cc (ap (λ (p : Part). p.visited) e) in omega arith)
seen_left (unit l) m C row e = absurd (let z : ◌≡◌ {A = ℕ} 0 1 = cc (ap (λ (p : Part). p.visited) e) in omega arith)
seen_left conflict m C row e = absurd (let z : ◌≡◌ {A = ℕ} 0 1 = cc (ap (λ (p : Part). p.visited) e) in omega arith)

module _ {f : Fate} {m : ℕ} {row C : List ℤ} (L : Leaves f m row C) where
  pub leaves_room : m ≤ length row
  leaves_room = omega (arith, L.number, ap length L.held, length-append L.stays (replicate (length C - length L.stays) (pos 0)))

  -- in front of a longer row
  pub leaves_front : (zs : List ℤ) → take m (row ++ zs) ≡ L.stays
  leaves_front zs = take-append-le m row zs leaves_room ∙ ap (take m) L.held ∙ take_at L.stays (replicate (length C - length L.stays) (pos 0)) m (sym L.number)

-- the clause is dropped
pub seen_other : (f : Fate) (σ : Stamps) (r : Visited) (C row : List ℤ) → (r ≡ Kept → ⊥) → ((n : ℕ) → r ≡ Left n → ⊥) → part_of r row ≡ part_after f C → reasons_by f σ C ≡ reasons Drop 0 (drop_ends σ C ∷ [])
seen_other kept σ r C row k l e = absurd (k (ap (λ (p : Part). p.visited) e))
seen_other (left D) σ r C row k l e = absurd (l (length D) (ap (λ (p : Part). p.visited) e))
seen_other dropped σ r C row k l e = refl
seen_other (unit u) σ r C row k l e = refl
seen_other conflict σ r C row k l e = refl

-- ---- a front of a longer row

pub front_fits : (m : ℕ) (ys zs : List ℤ) → m ≤ length ys → m ≤ length (ys ++ zs)
front_fits m ys zs h = omega (arith, h, length-append ys zs)

pub front_length : (m : ℕ) (ys zs : List ℤ) → m ≤ length ys → m ≡ length (take m (ys ++ zs))
front_length m ys zs h = sym (length-take-le m (ys ++ zs) (front_fits m ys zs h))
