-- What Sweep's rule, by the stamps in the tables, makes of a clause that need not be in the tables (change request 1: a learnt clause).
--     newcomer_dropped  while stamps are fresh, a clause that the rule drops has a true literal under every assignment that satisfies what stands
--     newcomer_left     and one that the rule shortens is true under the same of these assignments as before
-- The clause is one of literals of the variables, no variable twice. Assumes nothing.
use Prim.Native.Nat.{ℕ, ◌*◌, ◌<◌}
use native.Mathlib.Omega.{arith}
use mathlib.Core.Path.{◌≡◌, sym, ap, subst}
use mathlib.Core.Bool.{true, false, false≢true}
use mathlib.Core.Logic.{◌↔◌}
use mathlib.Core.List.{List, map, Sublistᴰ}
use lib.ListN.{length, get_or}
use lib.IntN.{ℤ, pos, nat_abs}
use Rattle.base.proofs.Booleans.{clash, both_ways}
use Rattle.base.proofs.Lists.{sub_mem}
use Rattle.literal.specs.Literals.{Literal, slot_of}
use Rattle.literal.specs.Assignments.{Assignment, some_true}
use Rattle.walk.specs.Walk.{Stamps}
use Rattle.implications.specs.Clauses.{Once}
use Rattle.stamp_columns.specs.Columns.{columns}
use Rattle.hidden.proofs.Intervals.{Within}
use Rattle.state.specs.declared.State.{State}
use Rattle.tables.specs.Tables.{Tables}
use Rattle.tables.specs.Fates.{Fate, left, dropped}
use Rattle.tables.specs.Stands.{Stands}
use Rattle.shape.specs.Shape.{settled_to}
use Rattle.visits.specs.Formed.{FitClause}
use Rattle.visits.proofs.Forming.{shape_formed}
use Rattle.visits.proofs.Fitting.{fit_member, fit_slots}
use Rattle.stamp_walk.proofs.Graphing.{once_slots}
use Rattle.sweep_visits.specs.Clause.{sweep_clause}
use Rattle.sweep_visits.proofs.Fates.{sweep_cases}
use Rattle.sound.specs.Formula.{Clause, standing, Sat, Models}
use Rattle.sound.specs.Formula as formula
use Rattle.sound.specs.Sweep.{sweep_slots}
use Rattle.sound.proofs.Sound.{learnt_kept}
use Rattle.moves.specs.Core.{Core}
use Rattle.moves.specs.Moves.{Freshness}
use Rattle.moves.proofs.Keeps.{Good, moves_kept}
use Rattle.moves.proofs.Records.{shown, sweep_agree, sweep_fate}
use Rattle.refinement.proofs.Standing.{Real, sat_slots, slots_sat}
use Rattle.refinement.proofs.Equivalent.{tie}
use Rattle.refinement.proofs.Held.{Held, StampsOf, stale, from}

-- ---- parts of a clause

-- what it leaves is a part of the clause
left_part : (σ : Stamps) (C D : List ℤ) → sweep_clause σ C ≡ left D → Sublistᴰ D C
left_part σ C D =
    sweep_cases σ C (λ (x : Fate). x ≡ left D → Sublistᴰ D C)
    (λ short e. absurd (let z : ◌≡◌ {A = ℕ} 0 1 = cc in omega arith))
    (λ E s e. let q : E ≡ D = cc in subst (λ (x : List ℤ). Sublistᴰ x C) q s)
    (λ e. absurd (let z : ◌≡◌ {A = ℕ} 0 1 = cc in omega arith))

real_part : {D C : List ℤ} → Real C → Sublistᴰ D C → Real D
real_part R s = record { each = λ l m. R.each l (sub_mem s m) }

-- ---- on slots

-- d has come of the clause C: dropped, C is true; shortened, it is true if and only if C is
abbrev Judged : Assignment → List ℕ → Clause → Type 0
Judged τ C d = (d ≡ formula.dropped → Sat τ C) × ((D : List ℕ) → d ≡ standing D → Sat τ C ↔ Sat τ D)

-- the rule by fresh stamps, of any clause, under an assignment that satisfies the clauses that stand
judged_slots : {t : Tables} {st : State} {w : Freshness} → StampsOf t st w → st.fresh ≡ true → (k : Core) → Good st.v k w → (τ : Assignment) → Models τ k.clauses
    → (C : List ℕ) → Within (2 * st.v) C → Once C → Judged τ C (sweep_slots (columns t.times t.links) C)
judged_slots (stale e) fresh k G τ M C within once = clash fresh e
judged_slots {t} {st} (from σ c A at) fresh k G τ M C within once =
    subst (Judged τ C) (sym (sweep_agree (2 * st.v) (columns t.times t.links) σ A C within))
    (learnt_kept st.v G.then σ G.ready c τ (subst (Models τ) G.swept M) C (λ l m. (within l m).0) once)

-- ---- the theorems

module _ {f : List Clause} {t : Tables} {st : State} (H : Held f t st) (fresh : st.fresh ≡ true) (C : List ℤ)
    (ranged : (k : ℕ) → k < length C → Literal st.v (get_or C k (pos 0)))
    (once : (k : ℕ) → k < length C → (j : ℕ) → j < k → nat_abs (get_or C j (pos 0)) ≡ nat_abs (get_or C k (pos 0)) → ⊥) where
  -- the clause meets what the shape rule asks of one that need not be settled
  fit : FitClause st.v t.variables false C
  fit = record { ranged = ranged; once = once; own = λ e. absurd (false≢true e) }

  real : Real C
  real = record { each = λ l m. (fit_member fit m).above }

  judged : (τ : Assignment) → Stands t st τ → Judged τ (map slot_of C) (shown C (sweep_clause (columns t.times t.links) C))
  judged τ S =
      let M = (tie st t H.core (settled_to st.pass st.n) (shape_formed H.shape) H.shape.values H.tied τ).0 S in
      subst (Judged τ (map slot_of C)) (sym (sweep_fate (columns t.times t.links) C))
      (judged_slots H.stamps fresh H.core (moves_kept H.so.moves tt).0 τ M.models (map slot_of C) (fit_slots fit) (once_slots C (λ k lt. (ranged k lt).above) once))

  pub newcomer_dropped : sweep_clause (columns t.times t.links) C ≡ dropped → (τ : Assignment) → Stands t st τ → some_true τ C ≡ true
  newcomer_dropped e τ S = slots_sat τ C real ((judged τ S).0 (ap (shown C) e))

  pub newcomer_left : (D : List ℤ) → sweep_clause (columns t.times t.links) C ≡ left D → (τ : Assignment) → Stands t st τ → some_true τ D ≡ some_true τ C
  newcomer_left D e τ S =
      let same = (judged τ S).1 (map slot_of D) (ap (shown C) e) in
      let real-left = real_part real (left_part (columns t.times t.links) C D e) in
      both_ways (some_true τ D) (some_true τ C)
      (λ h. slots_sat τ C real (same.1 (sat_slots τ D real-left h)))
      (λ h. slots_sat τ D real-left (same.0 (sat_slots τ C real h)))
