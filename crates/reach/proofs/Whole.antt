-- A clause that a sweep has not shortened in the tables is as it was over slots, or dropped. Assumes nothing.
use Prim.Native.Nat.{ℕ, zero, suc, ◌≤◌, ◌<◌}
use native.Mathlib.Omega.{arith}
use mathlib.Core.Path.{◌≡◌, sym, ap, ◌∙◌}
use mathlib.Core.Logic.{◌⊎◌, inl, inr, ⊎_elim}
use mathlib.Core.List.{List, map}
use lib.ListN.{length, get_or, length-map}
use Rattle.base.specs.Decide.{same_or, le_or}
use Rattle.base.proofs.Lists.{get_d_beyond, sub_full}
use Rattle.literal.specs.Literals.{slot_of}
use Rattle.walk.specs.Walk.{Stamps}
use Rattle.state.specs.declared.State.{State}
use Rattle.tables.specs.Tables.{Tables}
use Rattle.shape.specs.Shape.{Shape}
use Rattle.visits.proofs.Forming.{shape_formed, stands_one}
use Rattle.sound.specs.Formula.{Clause, dropped, standing}
use Rattle.sound.specs.Sweep.{sweep_visit, sweep_first}
use Rattle.sound.proofs.Graph.{not_standing}
use Rattle.sound.proofs.Sound.{first_sub}
use Rattle.sound.proofs.ReachKept as slots
use Rattle.paper.specs.Clauses.{clause_at, flag_at}
use Rattle.refinement.specs.Represented.{clause_of}
use Rattle.refinement.proofs.Standing.{clause_stands, stands_clause}
use Rattle.reach.specs.Reach.{Shortened, PairsWhole, AllWhole}
use Rattle.reach.proofs.Swept.{first_length}

-- ---- the tables t hold the clauses f, and t' those of a sweep of f

module _ (σ : Stamps) (count : ℕ) (f : List Clause) {t t' : Tables} {st st' : State} (S : Shape t st) (S' : Shape t' st') (same_n : st'.n ≡ st.n) (number : length f ≡ st.n)
    (then : (i : ℕ) → i < st.n → get_or f i dropped ≡ clause_of t.clauses t.literals i) (now : (i : ℕ) → i < st.n → get_or (sweep_first count σ f) i dropped ≡ clause_of t'.clauses t'.literals i) where
  abbrev g : List Clause
  g = sweep_first count σ f

  -- a clause of f that stands is that of its record
  stood : (i : ℕ) → i < st.n → {C : List ℕ} → get_or f i dropped ≡ standing C → (flag_at t i ≡ 1) × (map slot_of (clause_at t i) ≡ C)
  stood i lt e = let r = clause_stands t.clauses t.literals i (sym (then i lt) ∙ e) in (stands_one (shape_formed S) i lt r.0, r.1)

  gone : (i : ℕ) → i < st.n → flag_at t' i ≡ 0 → get_or g i dropped ≡ dropped
  unfolding clause_of
  gone i lt z = now i lt ∙ ap (λ (x : ℕ). elim x as (λ y. Clause) [ zero ↦ dropped | suc _ ↦ standing (map slot_of (clause_at t' i)) ]) z

  -- a clause that stands now
  stands_whole : (i : ℕ) → i < st.n → flag_at t' i ≡ 1 → (Shortened t t' i → ⊥) → get_or g i dropped ≡ get_or f i dropped
  stands_whole i lt one none =
      let e : get_or g i dropped ≡ standing (map slot_of (clause_at t' i)) = now i lt ∙ stands_clause t'.clauses t'.literals i one in
      let r = first_sub σ count f i (map slot_of (clause_at t' i)) e in
      let c = stood i lt r.1 in
      ⊎_elim
      (λ (h : length (clause_at t i) ≤ length (clause_at t' i)).
      e ∙ ap standing (sub_full r.2 (omega (arith, h, length-map (clause_at t i) slot_of, length-map (clause_at t' i) slot_of, ap length c.1))) ∙ sym r.1)
      (λ (h : length (clause_at t' i) < length (clause_at t i)). absurd (none (record { stood = c.0; stands = one; fewer = h })))
      (le_or (length (clause_at t i)) (length (clause_at t' i)))

  unshortened : (i : ℕ) → i < st.n → (Shortened t t' i → ⊥) → (get_or g i dropped ≡ get_or f i dropped) ⊎ (get_or g i dropped ≡ dropped)
  unshortened i lt none =
      ⊎_elim
      (λ (z : flag_at t' i ≡ 0). inr (gone i lt z))
      (λ (d : flag_at t' i ≡ 0 → ⊥). inl (stands_whole i lt (stands_one (shape_formed S') i (omega (arith, lt, same_n)) d) none))
      (same_or (flag_at t' i) 0)

  -- the clauses of f are those of the records
  inside : (i : ℕ) {C : List ℕ} → get_or f i dropped ≡ standing C → i < st.n
  inside i e = ⊎_elim (λ (h : st.n ≤ i). absurd (not_standing (sym (get_d_beyond f i dropped (omega (arith, h, number))) ∙ e))) (λ (h : i < st.n). h) (le_or st.n i)

  pub pairs_whole : PairsWhole st.n t t' → slots.PairsWhole f g
  pairs_whole w i a b e =
      let lt = inside i e in
      let two : length (clause_at t i) ≡ 2 = omega (arith, length-map (clause_at t i) slot_of, ap length (stood i lt e).1) in
      ⊎_elim (λ k. inl (k ∙ e)) (λ k. inr k) (unshortened i lt (w i lt two))

  pub all_whole : AllWhole st.n t t' → slots.Whole f g
  all_whole w i = ⊎_elim (λ (h : st.n ≤ i). inl (beyond i h)) (λ (lt : i < st.n). unshortened i lt (w i lt)) (le_or st.n i)
    where
      beyond : (j : ℕ) → st.n ≤ j → get_or g j dropped ≡ get_or f j dropped
      beyond j h = get_d_beyond g j dropped (omega (arith, h, number, first_length (sweep_visit σ) count f)) ∙ sym (get_d_beyond f j dropped (omega (arith, h, number)))
