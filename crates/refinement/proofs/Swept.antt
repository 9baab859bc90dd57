-- Sweep's visits are one move: what they leave of each clause is what the move makes of the clause of its slots. Assumes nothing.
use Prim.Native.Nat.{ℕ, zero, suc, ◌+◌, ◌*◌, ◌≤◌, ◌<◌}
use native.Mathlib.Omega.{arith}
use mathlib.Core.Path.{◌≡◌, refl, sym, ap, subst, ◌∙◌}
use mathlib.Core.Bool.{Bool, true, false}
use mathlib.Core.List.{List, [], ◌∷◌, map}
use lib.ListN.{length, get_or, set}
use lib.Seq.{set-get_or}
use lib.IntN.{ℤ}
use Rattle.literal.specs.Literals.{slot_of}
use Rattle.walk.specs.Walk.{Stamps}
use Rattle.hidden.specs.Hidden.{hidden_tautology, shorten}
use Rattle.hidden.proofs.Intervals.{Nested}
use Rattle.hidden.proofs.Agree.{Agree}
use Rattle.tables.specs.Tables.{Tables, tables}
use Rattle.tables.specs.Tables as T
use Rattle.tables.specs.Fates.{Fate, store, shortened, dropped_at, visits}
use Rattle.tables.specs.Fates as fates
use Rattle.visits.proofs.Stores.{recorded, stored_at}
use Rattle.visits.proofs.Forming.{clause_fits, part_length, recorded_same}
use Rattle.visits.proofs.Fitting.{fit_slots}
use Rattle.visits.proofs.StoreKeeps.{FormedIn, formed_cases}
use Rattle.sound.specs.Formula.{Clause, dropped, standing}
use Rattle.sound.specs.Sweep.{sweep_slots, on_standing, sweep_visit, visit_first, visit_from}
use Rattle.moves.specs.Core as core
use Rattle.moves.proofs.Records.{shown, sweep_agree, sweep_fate}
use Rattle.sweep_visits.specs.Clause.{sweep_clause}
use Rattle.sweep_visits.proofs.Parting.{shorten_shorter}
use Rattle.sweep_visits.proofs.VisitKeeps.{formed_visit}
use Rattle.refinement.specs.Represented.{Represented}
use Rattle.refinement.proofs.Propagated.{literals_at, stands_as, drops_as, put_represented}

-- ---- the move, one clause at a time

from_first : (v : Clause → Clause) (c m : ℕ) (f : List Clause) → c < length f → visit_from v c (suc m) f ≡ visit_from v (suc c) m (set f c (v (get_or f c dropped)))
unfolding visit_from visit_first
from_first v c m [] h = absurd (omega arith)
from_first v zero m (x ∷ f) h = refl
from_first v (suc c) m (x ∷ f) h = ap (λ (g : List Clause). x ∷ g) (from_first v c m f (omega arith))

from_none : (v : Clause → Clause) (c : ℕ) (f : List Clause) → visit_from v c 0 f ≡ f
unfolding visit_from visit_first
from_none v zero f = refl
from_none v (suc c) [] = refl
from_none v (suc c) (x ∷ f) = ap (λ (g : List Clause). x ∷ g) (from_none v c f)

-- ---- one visit

module _ {v n : ℕ} {t : Tables} {k : core.Core} (F : FormedIn v n t) (R : Represented v n false t k) (i : ℕ) (lt : i < n) (ρ σ : Stamps) (A : Agree (2 * v) ρ σ) where
  -- the clause that the move makes is the one that the fate shows
  shown_is : sweep_slots σ (map slot_of (literals_at t i)) ≡ shown (literals_at t i) (sweep_clause ρ (literals_at t i))
  shown_is = sym (sweep_fate ρ (literals_at t i) ∙ sweep_agree (2 * v) ρ σ A (map slot_of (literals_at t i)) (fit_slots (clause_fits F i lt)))

  -- what stands after a visit
  abbrev Visited : Fate → Type 0
  Visited f = Represented v n false (store i f t) (core.put i (shown (literals_at t i) f) k)

  same_put : (x : Clause) → core.core_clause k i ≡ x → core.put i x k ≡ k
  same_put x e = ap (λ (f : List Clause). core.with_clauses f k) (ap (set k.clauses i) (sym e) ∙ set-get_or k.clauses i dropped)

  visited_kept : T.standing t.clauses i ≡ 1 → Visited fates.kept
  visited_kept e = subst (Represented v n false t) (sym (same_put (standing (map slot_of (literals_at t i))) (stands_as F R i lt e))) R

  visited_dropped : Visited fates.dropped
  unfolding dropped_at
  visited_dropped = put_represented F R i lt [] 0 dropped (omega arith) refl

  visited_left : T.standing t.clauses i ≡ 1 → Visited (fates.left (shorten slot_of ρ (literals_at t i)))
  unfolding shortened
  visited_left e =
      subst (λ (x : List ℕ). Represented v n false (tables x (stored_at t.clauses t.literals i D) t.variables t.times t.links) (core.put i (standing (map slot_of D)) k))
      (ap (recorded t.clauses i (length D)) (sym e) ∙ recorded_same t.clauses i (length D))
      (put_represented F R i lt D 1 (standing (map slot_of D)) (omega (arith, shorten_shorter ρ (literals_at t i), part_length F i lt)) refl)
    where
      D : List ℤ
      D = shorten slot_of ρ (literals_at t i)

  -- by the literals that the clause has
  visited_by : T.standing t.clauses i ≡ 1 → (C : List ℤ) → literals_at t i ≡ C → Visited (sweep_clause ρ C)
  unfolding sweep_clause
  visited_by e [] q = visited_kept e
  visited_by e (a ∷ []) q = visited_kept e
  visited_by e (a ∷ b ∷ ls) q = by (hidden_tautology ρ (map slot_of (a ∷ b ∷ ls)))
    where
      by : (x : Bool) → Visited (elim x as (λ y. Fate) [ true ↦ fates.dropped | false ↦ fates.left (shorten slot_of ρ (a ∷ b ∷ ls)) ])
      by true = visited_dropped
      by false = subst (λ (C : List ℤ). Visited (fates.left (shorten slot_of ρ C))) q (visited_left e)

  sweep_visited : Represented v n false (fates.visit (sweep_clause ρ) i t) (core.put i (sweep_visit σ (core.core_clause k i)) k)
  unfolding on_standing
  sweep_visited = formed_cases t F i lt (sweep_clause ρ) (λ (f : Fate). Represented v n false (store i f t) (core.put i (sweep_visit σ (core.core_clause k i)) k)) gone stood
    where
      gone : T.standing t.clauses i ≡ 0 → Represented v n false t (core.put i (sweep_visit σ (core.core_clause k i)) k)
      gone e =
          let d = drops_as F R i lt e in
          subst (Represented v n false t) (sym (same_put (sweep_visit σ (core.core_clause k i)) (d ∙ sym (ap (sweep_visit σ) d)))) R

      stood : T.standing t.clauses i ≡ 1 → Represented v n false (store i (sweep_clause ρ (literals_at t i)) t) (core.put i (sweep_visit σ (core.core_clause k i)) k)
      stood e =
          subst (λ (c : Clause). Represented v n false (store i (sweep_clause ρ (literals_at t i)) t) (core.put i c k)) (sym (ap (sweep_visit σ) (stands_as F R i lt e) ∙ shown_is)) (visited_by e (literals_at t i) refl)

-- ---- visits

pub sweeps_tied : (v n : ℕ) (ρ σ : Stamps) → Nested (2 * v) ρ → Agree (2 * v) ρ σ → (m c : ℕ) → c + m ≤ n → (t : Tables) (k : core.Core) → FormedIn v n t → Represented v n false t k
    → Represented v n false (visits (sweep_clause ρ) m c t) (core.with_clauses (visit_from (sweep_visit σ) c m k.clauses) k)
unfolding visits
sweeps_tied v n ρ σ N A zero c h t k F R = subst (Represented v n false t) (ap (λ (f : List Clause). core.with_clauses f k) (sym (from_none (sweep_visit σ) c k.clauses))) R
sweeps_tied v n ρ σ N A (suc m) c h t k F R =
    let F' = formed_visit t F ρ N c (omega arith) in
    let rest = sweeps_tied v n ρ σ N A m (suc c) (omega arith) (fates.visit (sweep_clause ρ) c t) (core.put c (sweep_visit σ (core.core_clause k c)) k) F' (sweep_visited F R c (omega arith) ρ σ A) in
    subst (λ (f : List Clause). Represented v n false (visits (sweep_clause ρ) m (suc c) (fates.visit (sweep_clause ρ) c t)) (core.with_clauses f k)) (sym (from_first (sweep_visit σ) c m k.clauses (omega (arith, R.number)))) rest
