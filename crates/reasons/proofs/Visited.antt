-- What a Sweep's visit leaves of a standing clause, by the fate that Sweep's rule gives it. Assumes nothing.
use Prim.Native.Nat.{ℕ, ◌<◌}
use native.Mathlib.Omega.{arith}
use mathlib.Core.Path.{◌≡◌, sym, ap, subst, ◌∙◌}
use mathlib.Core.List.{List, Sublistᴰ}
use lib.ListN.{length}
use lib.IntN.{ℤ}
use Rattle.base.proofs.Lists.{sub_length}
use Rattle.walk.specs.Walk.{Stamps}
use Rattle.stamp_columns.specs.Columns.{columns}
use Rattle.state.specs.declared.State.{State}
use Rattle.tables.specs.Tables.{Tables, standing}
use Rattle.tables.specs.Clauses.{literals_of}
use Rattle.tables.specs.Fates.{Fate, kept, left, dropped, store, shortened, dropped_at}
use Rattle.shape.specs.Shape.{Shape}
use Rattle.visits.proofs.Forming.{shape_formed, part_length, record_inside, recorded_same}
use Rattle.visits.proofs.Stores.{recorded_here, stored_at, stored_view}
use Rattle.visits.proofs.Visiting.{visit_standing}
use Rattle.sweep_visits.specs.Clause.{sweep_clause}
use Rattle.paper.specs.Clauses.{clause_at, flag_at}
use Rattle.paper.specs.Sweeping.{swept_at}

module _ {t : Tables} {st : State} (S : Shape t st) (i : ℕ) (lt : i < st.n) (stands : flag_at t i ≡ 1) where
  abbrev σ : Stamps
  σ = columns t.times t.links

  -- the fate is stored
  stored : {x : Fate} → sweep_clause σ (clause_at t i) ≡ x → store i x t ≡ swept_at t i
  stored e = sym (visit_standing (sweep_clause σ) i t (λ z. omega (arith, z, stands)) ∙ ap (λ (f : Fate). store i f t) e)

  pub visit_kept : sweep_clause σ (clause_at t i) ≡ kept → (flag_at (swept_at t i) i ≡ 1) × (clause_at (swept_at t i) i ≡ clause_at t i)
  visit_kept e = (ap (λ (u : Tables). flag_at u i) (sym (stored e)) ∙ stands, ap (λ (u : Tables). clause_at u i) (sym (stored e)))

  pub visit_left : (D : List ℤ) → Sublistᴰ D (clause_at t i) → sweep_clause σ (clause_at t i) ≡ left D → (flag_at (swept_at t i) i ≡ 1) × (clause_at (swept_at t i) i ≡ D)
  unfolding shortened
  visit_left D part e =
      subst (λ (u : Tables). (flag_at u i ≡ 1) × (clause_at u i ≡ D)) (stored e)
      (subst (λ (c : List ℕ). (standing c i ≡ 1) × (literals_of c (stored_at t.clauses t.literals i D) i ≡ D)) (recorded_same t.clauses i (length D)) (
        (recorded_here t.clauses i (length D) (flag_at t i) (record_inside (shape_formed S) i lt)).1 ∙ stands,
        stored_view (shape_formed S) i lt D (flag_at t i) (omega (arith, sub_length part, part_length (shape_formed S) i lt)),
      ))

  pub visit_dropped : sweep_clause σ (clause_at t i) ≡ dropped → flag_at (swept_at t i) i ≡ 0
  unfolding dropped_at
  visit_dropped e = subst (λ (u : Tables). flag_at u i ≡ 0) (stored e) (recorded_here t.clauses i 0 0 (record_inside (shape_formed S) i lt)).1
