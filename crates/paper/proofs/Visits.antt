-- A visit of Sweep to a clause of the tables: what it leaves of the clause, and that it leaves the others; and so for visits in a row. Assumes nothing.
use Prim.Native.Nat.{ℕ, zero, suc, ◌+◌, ◌≤◌, ◌<◌}
use native.Mathlib.Omega.{arith}
use mathlib.Core.Path.{◌≡◌, refl, sym, ap, subst, subst₂, ◌∙◌}
use mathlib.Core.Bool.{Bool, true, false}
use mathlib.Core.Logic.Iff
use mathlib.Core.Logic.{◌⊎◌, ◌↔◌, inl, inr, ⊎_elim}
use mathlib.Core.List.{List, [], ◌∷◌, map}
use lib.ListN.{length}
use lib.IntN.{ℤ}
use Rattle.base.specs.Decide.{same_or, le_or}
use Rattle.base.proofs.Booleans.{clash, bool_or}
use Rattle.literal.specs.Literals.{slot_of}
use Rattle.walk.specs.Walk.{Stamps}
use Rattle.stamps.specs.Fresh.{FreshStamps}
use Rattle.stamp_columns.specs.Columns.{columns}
use Rattle.hidden.specs.Hidden.{hidden_tautology, shorten}
use Rattle.hidden.proofs.FreshColumns.{fresh_nested}
use Rattle.tables.specs.Tables.{Tables, length_of, standing}
use Rattle.tables.specs.Clauses.{literals_of}
use Rattle.tables.specs.Fates.{Fate, store, shortened, dropped_at, visit, visits}
use Rattle.visits.specs.Formed.{Formed, FitClause}
use Rattle.visits.proofs.Forming.{clause_fits, part_length, record_inside, recorded_same, stands_one}
use Rattle.visits.proofs.Stores.{recorded, recorded_here, recorded_other, stored_at, stored_view, stored_other}
use Rattle.visits.proofs.StoreKeeps.{FormedIn}
use Rattle.visits.proofs.Visiting.{visit_dropped, visit_standing}
use Rattle.sweep_visits.specs.Clause.{sweep_clause}
use Rattle.sweep_visits.proofs.Parting.{fate_short, fate_hidden, fate_left, shorten_shorter}
use Rattle.sweep_visits.proofs.VisitKeeps.{formed_visit}
use Rattle.paper.specs.Clauses.{clause_at, flag_at}
use Rattle.paper.specs.Sweeping.{HiddenPair, Shortened, SweptAs}
use Rattle.paper.proofs.Fates.{figure_exact, long_exact, shortened_exact, shortened_printed, pair_hidden}

-- clause j is in the tables x as it is in u
abbrev Stays : ℕ → Tables → Tables → Type 0
Stays j u x = (flag_at x j ≡ flag_at u j) × (clause_at x j ≡ clause_at u j)

-- ---- the clause, from the scan's verdict

module _ (t : Tables) (v : ℕ) (S : FreshStamps v t.times t.links) where
  abbrev σ : Stamps
  σ = columns t.times t.links

  abbrev hidden : List ℤ → Bool
  hidden C = hidden_tautology σ (map slot_of C)

  pair_any : {w : List ℤ} {b : Bool} {C : List ℤ} → FitClause v w b C → (x y : ℤ) → C ≡ x ∷ y ∷ [] → (hidden C ≡ true) ↔ HiddenPair t x y
  pair_any {w} {b} {C} fit x y e = subst (λ (D : List ℤ). (hidden D ≡ true) ↔ HiddenPair t x y) (sym e) (pair_hidden t v S (subst (FitClause v w b) e fit))

  module _ {w : List ℤ} {b : Bool} {C : List ℤ} (fit : FitClause v w b C) (flag : ℕ) (D : List ℤ) where
    swept_short : length C < 2 → flag ≡ 1 → D ≡ C → SweptAs t C flag D
    swept_short few stands same = record {
      flags = inr stands;
      short = λ h. (stands, same);
      figure_6 = λ h. absurd (omega arith);
      dropped = λ e. absurd (omega arith);
      long = λ h. absurd (omega arith);
      pair = λ x y e. absurd (omega (arith, ap length e));
      figure_5 = λ h e. absurd (omega arith);
      shortened = λ h e. absurd (omega arith);
    }

    swept_dropped : 2 ≤ length C → hidden C ≡ true → flag ≡ 0 → D ≡ [] → SweptAs t C flag D
    swept_dropped many found gone none =
        let exact : (flag ≡ 0) ↔ (hidden C ≡ true) = (λ e. found, λ e. gone) in
        record {
          flags = inl gone;
          short = λ h. absurd (omega arith);
          figure_6 = λ h. subst (λ (r : Bool). (flag ≡ 0) ↔ (r ≡ true)) (figure_exact t v S fit h) exact;
          dropped = λ e. none;
          long = λ h. Iff.trans exact (long_exact t v S fit h);
          pair = λ x y e. Iff.trans exact (pair_any fit x y e);
          figure_5 = λ h e. absurd (omega arith);
          shortened = λ h e. absurd (omega arith);
        }

    swept_left : 2 ≤ length C → hidden C ≡ false → flag ≡ 1 → D ≡ shorten slot_of σ C → SweptAs t C flag D
    swept_left many unfound stands left =
        let exact : (flag ≡ 0) ↔ (hidden C ≡ true) = (λ e. absurd (omega arith), λ e. clash e unfound) in
        record {
          flags = inr stands;
          short = λ h. absurd (omega arith);
          figure_6 = λ h. subst (λ (r : Bool). (flag ≡ 0) ↔ (r ≡ true)) (figure_exact t v S fit h) exact;
          dropped = λ e. absurd (omega arith);
          long = λ h. Iff.trans exact (long_exact t v S fit h);
          pair = λ x y e. Iff.trans exact (pair_any fit x y e);
          figure_5 = λ h e. ap (map slot_of) left ∙ shortened_printed t v S fit;
          shortened = λ h e. subst (λ (X : List ℤ). Shortened t C X) (sym left) (shortened_exact t v S fit);
        }

  -- ---- a visit to clause i of any formed tables

  module _ {n s : ℕ} {mark : Bool} (u : Tables) (F : Formed v n s mark u.clauses u.literals u.variables) (i : ℕ) (lt : i < n) where
    abbrev C : List ℤ
    C = clause_at u i

    abbrev D : List ℤ
    D = shorten slot_of σ C

    -- what holds in each of its cases
    visit_cases : (P : Tables → Type 0) → (flag_at u i ≡ 0 → P u) → (flag_at u i ≡ 1 → length C < 2 → P u)
        → (flag_at u i ≡ 1 → 2 ≤ length C → hidden C ≡ true → P (dropped_at i u.variables u)) → (flag_at u i ≡ 1 → 2 ≤ length C → hidden C ≡ false → P (shortened i D u))
        → P (visit (sweep_clause σ) i u)
    visit_cases P gone few drops leaves =
        ⊎_elim
        (λ (z : flag_at u i ≡ 0). subst P (sym (visit_dropped (sweep_clause σ) i u z)) (gone z))
        (λ (d : flag_at u i ≡ 0 → ⊥).
        let one = stands_one F i lt d in
        subst P (sym (visit_standing (sweep_clause σ) i u d))
        (⊎_elim
        (λ (h : 2 ≤ length C).
        ⊎_elim
        (λ e. subst (λ (f : Fate). P (store i f u)) (sym (fate_hidden σ C h e)) (drops one h e))
        (λ e. subst (λ (f : Fate). P (store i f u)) (sym (fate_left σ C h e)) (leaves one h e))
        (bool_or (hidden C)))
        (λ (h : length C < 2). subst (λ (f : Fate). P (store i f u)) (sym (fate_short σ C h)) (few one h))
        (le_or 2 (length C))))
        (same_or (flag_at u i) 0)

    short : length D ≤ length_of u.clauses i
    short = omega (arith, shorten_shorter σ C, part_length F i lt)

    -- the records of a clause that is shortened
    same_records : recorded u.clauses i (length D) (flag_at u i) ≡ (shortened i D u).clauses
    unfolding shortened
    same_records = recorded_same u.clauses i (length D)

    -- what it leaves of clause i
    pub visit_swept : flag_at u i ≡ 1 → SweptAs t C (flag_at (visit (sweep_clause σ) i u) i) (clause_at (visit (sweep_clause σ) i u) i)
    unfolding dropped_at shortened
    visit_swept stands =
        let fit = clause_fits F i lt in
        let inside = record_inside F i lt in
        visit_cases (λ (x : Tables). SweptAs t C (flag_at x i) (clause_at x i))
        (λ z. absurd (omega arith))
        (λ one h. swept_short fit _ _ h one refl)
        (λ one h e. swept_dropped fit _ _ h e (recorded_here u.clauses i 0 0 inside).1 (stored_view F i lt [] 0 (omega arith)))
        (λ one h e.
        subst (λ (c : List ℕ). SweptAs t C (standing c i) (literals_of c (stored_at u.clauses u.literals i D) i)) same_records
        (swept_left fit _ _ h e ((recorded_here u.clauses i (length D) (flag_at u i) inside).1 ∙ one) (stored_view F i lt D (flag_at u i) short)))

    -- another clause stays as it was
    pub visit_other : (j : ℕ) → j < n → (j ≡ i → ⊥) → Stays j u (visit (sweep_clause σ) i u)
    unfolding dropped_at shortened
    visit_other j lj d =
        visit_cases (Stays j u)
        (λ z. (refl, refl))
        (λ one h. (refl, refl))
        (λ one h e. ((recorded_other u.clauses i 0 0 j d).1, stored_other F i lt [] 0 (omega arith) j lj d))
        (λ one h e.
        subst (λ (c : List ℕ). (standing c j ≡ flag_at u j) × (literals_of c (stored_at u.clauses u.literals i D) j ≡ clause_at u j)) same_records
        ((recorded_other u.clauses i (length D) (flag_at u i) j d).1, stored_other F i lt D (flag_at u i) short j lj d))

  -- ---- visits, in rising number

  visited : {n : ℕ} (u : Tables) → FormedIn v n u → (k : ℕ) → k < n → FormedIn v n (visit (sweep_clause σ) k u)
  visited u F k lt = formed_visit u F σ (fresh_nested t.times t.links v S) k lt

  -- a clause that is dropped stays as it was
  visit_none : {n : ℕ} (u : Tables) → FormedIn v n u → (k : ℕ) → k < n → (j : ℕ) → j < n → (j ≡ k → ⊥) ⊎ (flag_at u j ≡ 0) → Stays j u (visit (sweep_clause σ) k u)
  visit_none u F k lt j lj (inl d) = visit_other u F k lt j lj d
  visit_none u F k lt j lj (inr z) =
      ⊎_elim
      (λ (e : j ≡ k). subst (Stays j u) (sym (visit_dropped (sweep_clause σ) k u (subst (λ (i : ℕ). flag_at u i ≡ 0) e z))) (refl, refl))
      (λ (d : j ≡ k → ⊥). visit_other u F k lt j lj d)
      (same_or j k)

  pub visits_others : {n : ℕ} (m k : ℕ) → k + m ≤ n → (u : Tables) → FormedIn v n u → (j : ℕ) → j < n → (j < k) ⊎ ((k + m ≤ j) ⊎ (flag_at u j ≡ 0)) → Stays j u (visits (sweep_clause σ) m k u)
  unfolding visits
  visits_others zero k le u F j lj out = (refl, refl)
  visits_others {n} (suc m) k le u F j lj out =
      let lt : k < n = omega arith in
      let one = visit_none u F k lt j lj (⊎_elim (λ h. inl (λ e. omega arith)) (λ o. ⊎_elim (λ h. inl (λ e. omega arith)) (λ z. inr z) o) out) in
      let rest = visits_others m (suc k) (omega arith) (visit (sweep_clause σ) k u) (visited u F k lt) j lj (⊎_elim (λ h. inl (omega arith)) (λ o. inr (⊎_elim (λ h. inl (omega arith)) (λ z. inr (one.0 ∙ z)) o)) out) in
      (rest.0 ∙ one.0, rest.1 ∙ one.1)

  pub visits_swept : {n : ℕ} (m k : ℕ) → k + m ≤ n → (u : Tables) → FormedIn v n u → (j : ℕ) → k ≤ j → j < k + m → flag_at u j ≡ 1
      → SweptAs t (clause_at u j) (flag_at (visits (sweep_clause σ) m k u) j) (clause_at (visits (sweep_clause σ) m k u) j)
  unfolding visits
  visits_swept zero k le u F j lo hi stands = absurd (omega arith)
  visits_swept {n} (suc m) k le u F j lo hi stands =
      let x : Tables = visit (sweep_clause σ) k u in
      let lt : k < n = omega arith in
      let lj : j < n = omega arith in
      let E = visited u F k lt in
      ⊎_elim
      (λ (e : j ≡ k).
      let later = visits_others m (suc k) (omega arith) x E j lj (inl (omega arith)) in
      subst₂ (SweptAs t (clause_at u j)) (sym later.0) (sym later.1)
      (subst (λ (i : ℕ). SweptAs t (clause_at u j) (flag_at (visit (sweep_clause σ) i u) j) (clause_at (visit (sweep_clause σ) i u) j)) e
      (visit_swept u F j lj stands)))
      (λ (d : j ≡ k → ⊥).
      let before = visit_other u F k lt j lj d in
      subst (λ (B : List ℤ). SweptAs t B (flag_at (visits (sweep_clause σ) m (suc k) x) j) (clause_at (visits (sweep_clause σ) m (suc k) x) j)) before.1
      (visits_swept m (suc k) (omega arith) x E j (omega arith) (omega arith) (before.0 ∙ stands)))
      (same_or j k)
