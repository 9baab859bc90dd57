-- A visit to a settled clause only moves the cursor; and what a visit changes of the clauses: its own is settled after it, and of the others only those with a variable that it gives a value. Assumes nothing.
use Prim.Native.Nat.{ℕ, zero, suc, ◌+◌, ◌*◌, ◌≤◌, ◌<◌}
use native.Mathlib.Omega.{arith}
use mathlib.Core.Path.{◌≡◌, refl, sym, ap, subst, ◌∙◌}
use mathlib.Core.Bool.{Bool, true, false, not, ◌||◌, false≢true, or-false}
use mathlib.Core.Logic.{◌⊎◌, ⊎_elim}
use mathlib.Core.List.{List, [], ◌∷◌, Memᴰ}
use lib.ListN.{length, set}
use lib.Dec.{ltb}
use lib.IntN.{ℤ, pos, nat_abs}
use lib.Signed.{non_neg}
use borrow.Author.Tests.{lt-ltb, le-ltb}
use Rattle.base.specs.Decide.{same_or}
use Rattle.base.specs.Lists.{any}
use Rattle.base.proofs.Lists.{mem_filter, each_mem, get_d_mem}
use Rattle.literal.specs.Literals.{Literal, sign_by}
use Rattle.tables.specs.Tables.{Tables, length_of, standing, class_of, value_of}
use Rattle.tables.specs.Values.{is_true, is_false, class_literal, set_true}
use Rattle.tables.specs.Clauses.{literals_of}
use Rattle.tables.specs.Fates.{Fate, kept, left, dropped, unit, conflict, store, fate_at, shortened, dropped_at}
use Rattle.tables.specs.Passes.{valued, unsettled}
use Rattle.visits.specs.Formed.{FitClause}
use Rattle.visits.proofs.Stores.{recorded, stored_at, stored_view, stored_other, recorded_other, recorded_here}
use Rattle.visits.proofs.Placing.{shortened_same}
use Rattle.visits.proofs.Forming.{part_inside, part_length, clause_fits, record_inside, stands_one, recorded_same, set_others}
use Rattle.visits.proofs.Fitting.{filter_shorter, fit_member}
use Rattle.visits.proofs.Known.{abs_signed, class_ranged}
use Rattle.visits.proofs.Visiting.{fate_dropped, fate_standing}
use Rattle.visits.proofs.StoreKeeps.{FormedIn, formed_cases}
use Rattle.visits.proofs.Looking.{dropped_settled, valued_unsettled, unit_unsettled}
use Rattle.propagate_visits.specs.Visits.{going, onward, visited, remaining, not_false, propagate_clause, propagate_visit, propagate_visits}
use Rattle.propagate_visits.proofs.Parting.{fate_true, fate_left}
use Rattle.propagate_visits.proofs.Stepping.{onward_more}
use Rattle.propagate.proofs.Unvalued.{own_literal, quiet_clause, left_quiet}

-- ---- a visit to a settled clause

module _ {v n : ℕ} (t : Tables) (F : FormedIn v n t) (k : ℕ) (lt : k < n) where
  abbrev C : List ℤ
  C = literals_of t.clauses t.literals k

  fits : FitClause v t.variables true C
  fits = subst (λ (b : Bool). FitClause v t.variables b C) (lt-ltb k n lt) (clause_fits F k lt)

  -- a settled clause that stands has two literals or more, and none has a value
  quiet_standing : standing t.clauses k ≡ 1 → unsettled t k ≡ false → (any (valued t.variables) C ≡ false) × (1 < length_of t.clauses k)
  quiet_standing stands quiet =
      ⊎_elim
      (λ (o : length_of t.clauses k ≡ 1). absurd (false≢true (sym quiet ∙ sym (unit_unsettled t k stands o))))
      (λ (d : length_of t.clauses k ≡ 1 → ⊥).
      ⊎_elim
      (λ (z : length_of t.clauses k ≡ 0). absurd (false≢true (F.rule.empty k lt stands z)))
      (λ (z : length_of t.clauses k ≡ 0 → ⊥). (valued_unsettled t k stands d ∙ quiet, omega (arith, d, z)))
      (same_or (length_of t.clauses k) 0))
      (same_or (length_of t.clauses k) 1)

  two_left : (D : List ℤ) → 1 < length D → remaining D ≡ left D
  two_left [] h = absurd (omega arith)
  two_left (x ∷ []) h = absurd (omega arith)
  two_left (x ∷ y ∷ D) h = refl

  pub quiet_visit : unsettled t k ≡ false → (changed : Bool) → propagate_visit n k changed t ≡ onward n (suc k) changed t
  unfolding propagate_visit
  quiet_visit quiet changed =
      ⊎_elim
      (λ (e : standing t.clauses k ≡ 0). ap (λ (f : Fate). visited n k changed f t) (fate_dropped (propagate_clause t.variables) k t e))
      (λ (d : standing t.clauses k ≡ 0 → ⊥).
      let Q = quiet_standing (stands_one F k lt d) quiet in
      let U = quiet_clause v t.variables C fits Q.0 in
      let sized : length C ≡ length_of t.clauses k = part_length F k lt in
      let f : fate_at (propagate_clause t.variables) k t ≡ left C =
      fate_standing (propagate_clause t.variables) k t d ∙ fate_left t.variables C U.0 ∙ ap remaining U.1 ∙ two_left C (omega (arith, sized, Q.1)) in
      ap (λ (g : Fate). visited n k changed g t) f
      ∙ ap (λ (u : Tables). onward n (suc k) (changed || ltb (length C) (length_of t.clauses k)) u) (shortened_same t k (part_inside F k lt))
      ∙ ap (λ (b : Bool). onward n (suc k) (changed || b) t) (le-ltb (length C) (length_of t.clauses k) (omega (arith, sized)))
      ∙ ap (λ (b : Bool). onward n (suc k) b t) (or-false changed))
      (same_or (standing t.clauses k) 0)

-- d + 1 of them at once
pub quiet_visits : {v n : ℕ} (t : Tables) → FormedIn v n t → (changed : Bool) (d k : ℕ) → k + suc d ≤ n → ((i : ℕ) → k ≤ i → i < k + suc d → unsettled t i ≡ false)
    → (m before : ℕ) → propagate_visits n (suc d + m) before (going k changed t) ≡ propagate_visits n m (before + suc d) (onward n (k + suc d) changed t)
unfolding propagate_visits
quiet_visits {v} {n} t F changed zero k h quiet m before =
    ap (λ (x : ℕ). propagate_visits n x before (going k changed t)) (let e : suc 0 + m ≡ suc m = omega arith in e)
    ∙ ap (propagate_visits n m (suc before)) (quiet_visit t F k (omega arith) (quiet k (omega arith) (omega arith)) changed)
    ∙ ap (λ (x : ℕ). propagate_visits n m x (onward n (suc k) changed t)) (let e : suc before ≡ before + suc 0 = omega arith in e)
    ∙ ap (λ (x : ℕ). propagate_visits n m (before + suc 0) (onward n x changed t)) (let e : suc k ≡ k + suc 0 = omega arith in e)
quiet_visits {v} {n} t F changed (suc d) k h quiet m before =
    ap (λ (x : ℕ). propagate_visits n x before (going k changed t)) (let e : suc (suc d) + m ≡ suc (suc d + m) = omega arith in e)
    ∙ ap (propagate_visits n (suc d + m) (suc before)) (quiet_visit t F k (omega arith) (quiet k (omega arith) (omega arith)) changed ∙ sym (onward_more n (suc k) changed (omega arith) t))
    ∙ quiet_visits t F changed d (suc k) (omega arith) (λ i a b. quiet i (omega arith) (omega arith)) m (suc before)
    ∙ ap (λ (x : ℕ). propagate_visits n m x (onward n (suc k + suc d) changed t)) (let e : suc before + suc d ≡ before + suc (suc d) = omega arith in e)
    ∙ ap (λ (x : ℕ). propagate_visits n m (before + suc (suc d)) (onward n x changed t)) (let e : suc k + suc d ≡ k + suc (suc d) = omega arith in e)

-- ---- what a visit leaves

-- the values: as they were; or one is set
pub data Values (v : ℕ) (t u : Tables) : Fate → Type 0 where
  same : {f : Fate} → u.variables ≡ t.variables → ((l : ℤ) → f ≡ unit l → ⊥) → Values v t u f
  one : (l : ℤ) → Literal v l → ((m : ℕ) → 0 < m → (m ≡ nat_abs l → ⊥) → value_of u.variables m ≡ value_of t.variables m) → Values v t u (unit l)

pub record Left (v n k : ℕ) (t : Tables) (f : Fate) (u : Tables) : Type 0 where
  pub here : unsettled u k ≡ false
  pub shrinks : (x : ℤ) → Memᴰ x (literals_of u.clauses u.literals k) → Memᴰ x (literals_of t.clauses t.literals k)
  pub others : (i : ℕ) → i < n → (i ≡ k → ⊥) → (standing u.clauses i ≡ standing t.clauses i)
      × ((length_of u.clauses i ≡ length_of t.clauses i) × (literals_of u.clauses u.literals i ≡ literals_of t.clauses t.literals i))
  pub values : Values v t u f

module _ {v n : ℕ} (t : Tables) (F : FormedIn v n t) (k : ℕ) (lt : k < n) where
  abbrev D : List ℤ
  D = literals_of t.clauses t.literals k

  fit : FitClause v t.variables true D
  fit = subst (λ (b : Bool). FitClause v t.variables b D) (lt-ltb k n lt) (clause_fits F k lt)

  -- the records and the views, with the length and the flag as they are stored
  module _ (E : List ℤ) (f : ℕ) (short : length E ≤ length_of t.clauses k) (u : Tables) (ec : u.clauses ≡ recorded t.clauses k (length E) f) (el : u.literals ≡ stored_at t.clauses t.literals k E) where
    view_here : literals_of u.clauses u.literals k ≡ E
    view_here = (λ j. literals_of (ec j) (el j) k) ∙ stored_view F k lt E f short

    flags_here : (length_of u.clauses k ≡ length E) × (standing u.clauses k ≡ f)
    flags_here =
        let H = recorded_here t.clauses k (length E) f (record_inside F k lt) in
        (ap (λ (c : List ℕ). length_of c k) ec ∙ H.0, ap (λ (c : List ℕ). standing c k) ec ∙ H.1)

    at_others : (i : ℕ) → i < n → (i ≡ k → ⊥) → (standing u.clauses i ≡ standing t.clauses i)
        × ((length_of u.clauses i ≡ length_of t.clauses i) × (literals_of u.clauses u.literals i ≡ literals_of t.clauses t.literals i))
    at_others i li d =
        let H = recorded_other t.clauses k (length E) f i d in
        (ap (λ (c : List ℕ). standing c i) ec ∙ H.1, (ap (λ (c : List ℕ). length_of c i) ec ∙ H.0, (λ j. literals_of (ec j) (el j) i) ∙ stored_other F k lt E f short i li d))

  left_kept : standing t.clauses k ≡ 0 → Left v n k t kept t
  left_kept e = record {
    here = sym (dropped_settled t k (λ o. omega (arith, o, e)));
    shrinks = λ x m. m;
    others = λ i li d. (refl, (refl, refl));
    values = same refl (λ (l : ℤ) (z : kept ≡ unit l). let q : ◌≡◌ {A = ℕ} 0 1 = cc in omega arith);
  }

  left_gone : (w : List ℤ) (f : Fate) → Values v t (dropped_at k w t) f → Left v n k t f (dropped_at k w t)
  unfolding dropped_at
  left_gone w f V' = record {
    here = sym (dropped_settled (dropped_at k w t) k (λ o. omega (arith, o, (flags_here [] 0 (omega arith) (dropped_at k w t) refl refl).1)));
    shrinks = λ x m. absurd (mathlib.Core.List.Memᴰ.not-nil (subst (Memᴰ x) (view_here [] 0 (omega arith) (dropped_at k w t) refl refl) m));
    others = at_others [] 0 (omega arith) (dropped_at k w t) refl refl;
    values = V';
  }

  left_some : standing t.clauses k ≡ 1 → any (is_true t.variables) D ≡ false → (E : List ℤ) → E ≡ not_false t.variables D → 1 < length E → Left v n k t (left E) (shortened k E t)
  unfolding shortened
  left_some stands none E e two = record {
    here =
        sym (valued_unsettled (shortened k E t) k H.1 (λ o. omega (arith, o, H.0, two))) ∙ ap (any (valued t.variables)) (view_here E 1 short (shortened k E t) ec refl ∙ e)
        ∙ left_quiet v t.variables D F.vars fit none;
    shrinks = λ x m. mem_filter (λ l. not (is_false t.variables l)) D (subst (Memᴰ x) (view_here E 1 short (shortened k E t) ec refl ∙ e) m);
    others = at_others E 1 short (shortened k E t) ec refl;
    values = same refl (λ (l : ℤ) (z : left E ≡ unit l). let q : ◌≡◌ {A = ℕ} 0 1 = cc in omega arith);
  }
    where
      short : length E ≤ length_of t.clauses k
      short = omega (arith, ap length e, filter_shorter (λ l. not (is_false t.variables l)) D, part_length F k lt)

      ec : set t.clauses (3 * k + 1) (length E) ≡ recorded t.clauses k (length E) 1
      ec = sym (recorded_same t.clauses k (length E)) ∙ ap (recorded t.clauses k (length E)) stands

      H : (length_of (set t.clauses (3 * k + 1) (length E)) k ≡ length E) × (standing (set t.clauses (3 * k + 1) (length E)) k ≡ 1)
      H = flags_here E 1 short (shortened k E t) ec refl

  -- a value is set at one variable, which is its own class
  value_set : (l : ℤ) → Memᴰ l D → class_of t.variables (nat_abs l) ≡ pos (nat_abs l) → Values v t (dropped_at k (set_true t.variables l) t) (unit l)
  unfolding dropped_at
  value_set l m own =
      let L = fit_member fit m in
      let e : nat_abs (class_literal t.variables l) ≡ nat_abs l = ap nat_abs (own_literal t.variables l own) in
      let R = class_ranged (record { count = v; rows = F.vars; ranged = L }) in
      one l L
      (λ j above d.
      set_others F.vars (nat_abs (class_literal t.variables l)) R.above R.within (sign_by (non_neg (class_literal t.variables l)) (pos 1))
      (omega (arith, abs_signed (non_neg (class_literal t.variables l)) (pos 1))) j above (λ z. d (z ∙ e)))

  own_member : (l : ℤ) → Memᴰ l D → class_of t.variables (nat_abs l) ≡ pos (nat_abs l)
  own_member = each_mem (λ (l : ℤ). class_of t.variables (nat_abs l) ≡ pos (nat_abs l)) D (pos 0) (λ i h. fit.own refl i h)

  by_remaining : standing t.clauses k ≡ 1 → any (is_true t.variables) D ≡ false → (E : List ℤ) → E ≡ not_false t.variables D → (remaining E ≡ conflict → ⊥) → Left v n k t (remaining E) (store k (remaining E) t)
  by_remaining stands none [] e some = absurd (some refl)
  by_remaining stands none (x ∷ []) e some =
      let m : Memᴰ x D = mem_filter (λ l. not (is_false t.variables l)) D (subst (Memᴰ x) e (get_d_mem (x ∷ []) 0 (pos 0) (omega arith))) in
      left_gone (set_true t.variables x) (unit x) (value_set x m (own_member x m))
  by_remaining stands none (x ∷ y ∷ E) e some = left_some stands none (x ∷ y ∷ E) e (omega arith)

  dropped_same : Values v t (dropped_at k t.variables t) dropped
  unfolding dropped_at
  dropped_same = same refl (λ (l : ℤ) (z : dropped ≡ unit l). let q : ◌≡◌ {A = ℕ} 0 1 = cc in omega arith)

  -- THE LAW
  pub visit_left : (fate_at (propagate_clause t.variables) k t ≡ conflict → ⊥) → Left v n k t (fate_at (propagate_clause t.variables) k t) (store k (fate_at (propagate_clause t.variables) k t) t)
  visit_left =
      formed_cases t F k lt (propagate_clause t.variables) (λ (f : Fate). (f ≡ conflict → ⊥) → Left v n k t f (store k f t)) (λ e some. left_kept e)
      (λ stands. by_test stands (any (is_true t.variables) D) refl)
    where
      by_test : standing t.clauses k ≡ 1 → (b : Bool) → any (is_true t.variables) D ≡ b → (propagate_clause t.variables D ≡ conflict → ⊥) → Left v n k t (propagate_clause t.variables D) (store k (propagate_clause t.variables D) t)
      by_test stands true e some = subst (λ (f : Fate). Left v n k t f (store k f t)) (sym (fate_true t.variables D e)) (left_gone t.variables dropped dropped_same)
      by_test stands false e some =
          subst (λ (f : Fate). Left v n k t f (store k f t)) (sym (fate_left t.variables D e)) (by_remaining stands e (not_false t.variables D) refl (λ z. some (fate_left t.variables D e ∙ z)))
