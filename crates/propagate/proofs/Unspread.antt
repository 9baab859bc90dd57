-- Visits do not read the value of a variable that is not its own class: on tables that differ only in such values they do the same to the clauses, and leave tables that differ only there.
-- So a call that goes on from values that an earlier call has spread leaves, once it has spread its own, what one call would have left. Assumes nothing.
use Prim.Native.Nat.{ℕ, zero, suc, ◌<◌}
use native.Mathlib.Omega.{arith}
use mathlib.Core.Path.{◌≡◌, refl, sym, ap, subst, ◌∙◌}
use mathlib.Core.Bool.{Bool, true, false, not, ◌||◌}
use mathlib.Core.List.{List, [], ◌∷◌, Memᴰ}
use lib.Dec.{ltb}
use lib.IntN.{ℤ, pos, negsuc}
use Rattle.base.specs.Lists.{any}
use Rattle.base.proofs.Lists.{any_same, filter_same}
use Rattle.literal.specs.Literals.{Literal, eq_z}
use Rattle.state.specs.declared.State.{State}
use Rattle.tables.specs.Tables.{Tables, length_of, standing, with_variables}
use Rattle.tables.specs.Values.{truth, is_true, is_false, set_true}
use Rattle.tables.specs.Clauses.{literals_of}
use Rattle.tables.specs.Fates.{Fate, kept, left, dropped, unit, conflict, store, fate_at, shortened, dropped_at}
use Rattle.visits.specs.Formed.{Variables, FitClause}
use Rattle.visits.proofs.Forming.{clause_fits}
use Rattle.visits.proofs.Fitting.{fit_member, fit_filter}
use Rattle.visits.proofs.StoreKeeps.{FormedIn, formed_cases}
use Rattle.spread.specs.Spread.{spread_behind}
use Rattle.spread.proofs.Alike.{Alike, truth_same, true_alike}
use Rattle.spread.proofs.Spreading.{spread_same}
use Rattle.propagate.specs.Propagate.{replied}
use Rattle.propagate_visits.specs.Visits.{Progress, going, settled, contradicted, onward, changes, visited, not_false, remaining, propagate_clause, propagate_visit, propagate_visits}
use Rattle.propagate_visits.proofs.Parting.{fate_true, fate_left}
use Rattle.propagate_visits.proofs.Stepping.{Good, visit_good}
use Rattle.propagate.proofs.Shaped.{tables_at, onward_tables}

-- where a pass stands, with other variable records
abbrev stands_with : List ℤ → Progress → Progress
stands_with w (going k changed t) = going k changed (with_variables w t)
stands_with w (settled t) = settled (with_variables w t)
stands_with w (contradicted t) = contradicted (with_variables w t)

-- q is p but for values of variables that are not their own class
pub record Resembles (v : ℕ) (p q : Progress) : Type 0 where
  pub variables : List ℤ
  pub alike : Alike v (tables_at p).variables variables
  pub is : q ≡ stands_with variables p

-- ---- one visit

onward_with : (w : List ℤ) (n j : ℕ) (changed : Bool) (t : Tables) → onward n j changed (with_variables w t) ≡ stands_with w (onward n j changed t)
onward_with w n j changed t = by (ltb j n) changed
  where
    by : (x y : Bool)
        → elim x as (λ z. Progress) [ true ↦ going j y (with_variables w t) | false ↦ elim y as (λ z. Progress) [ true ↦ going 0 false (with_variables w t) | false ↦ settled (with_variables w t) ] ]
        ≡ stands_with w (elim x as (λ z. Progress) [ true ↦ going j y t | false ↦ elim y as (λ z. Progress) [ true ↦ going 0 false t | false ↦ settled t ] ])
    by true y = refl
    by false true = refl
    by false false = refl

onward_resembles : (v n j : ℕ) (changed : Bool) (t : Tables) (w : List ℤ) → Alike v t.variables w → Resembles v (onward n j changed t) (onward n j changed (with_variables w t))
onward_resembles v n j changed t w A = record { variables = w; alike = subst (λ (u : Tables). Alike v u.variables w) (sym (onward_tables n j changed t)) A; is = onward_with w n j changed t }

-- the literal that a fate makes true is one of the variables
abbrev Makes : ℕ → Fate → Type 0
Makes v kept = Unit {0}
Makes v (left C) = Unit {0}
Makes v dropped = Unit {0}
Makes v (unit l) = Literal v l
Makes v conflict = Unit {0}

module _ (v n k : ℕ) (changed : Bool) (t : Tables) (R : Variables v t.variables) (w : List ℤ) (A : Alike v t.variables w) where
  visited_resembles : (f : Fate) → Makes v f → Resembles v (visited n k changed f t) (visited n k changed f (with_variables w t))
  unfolding shortened dropped_at
  visited_resembles kept m = onward_resembles v n (suc k) changed t w A
  visited_resembles (left C) m = onward_resembles v n (suc k) (changed || changes (length_of t.clauses k) (left C)) (store k (left C) t) w A
  visited_resembles dropped m = onward_resembles v n (suc k) true (store k dropped t) w A
  visited_resembles (unit l) L = onward_resembles v n (suc k) true (store k (unit l) t) (set_true w l) (true_alike R A l L)
  visited_resembles conflict m = record { variables = w; alike = A; is = refl }

module _ (v n : ℕ) (t : Tables) (F : FormedIn v n t) (k : ℕ) (lt : k < n) where
  C : List ℤ
  C = literals_of t.clauses t.literals k

  remaining_makes : (b : Bool) (D : List ℤ) → FitClause v t.variables b D → Makes v (remaining D)
  remaining_makes b [] P = tt
  remaining_makes b (x ∷ []) P = P.ranged 0 (omega arith)
  remaining_makes b (x ∷ y ∷ D) P = tt

  fate_makes : Makes v (fate_at (propagate_clause t.variables) k t)
  fate_makes = formed_cases t F k lt (propagate_clause t.variables) (Makes v) (λ e. tt) (λ e. by (any (is_true t.variables) (literals_of t.clauses t.literals k)) refl)
    where
      by : (b : Bool) → any (is_true t.variables) (literals_of t.clauses t.literals k) ≡ b → Makes v (propagate_clause t.variables (literals_of t.clauses t.literals k))
      by true e = subst (Makes v) (sym (fate_true t.variables (literals_of t.clauses t.literals k) e)) tt
      by false e =
          subst (Makes v) (sym (fate_left t.variables (literals_of t.clauses t.literals k) e))
          (remaining_makes (ltb k n) (not_false t.variables (literals_of t.clauses t.literals k)) (fit_filter v t.variables (ltb k n) (λ l. not (is_false t.variables l)) (literals_of t.clauses t.literals k) (clause_fits F k lt)))

  module _ (w : List ℤ) (A : Alike v t.variables w) where
    -- every literal of the clause is as true
    same_truth : (l : ℤ) → Memᴰ l C → truth w l ≡ truth t.variables l
    unfolding C
    same_truth l m = truth_same F.vars A l (fit_member (clause_fits F k lt) m)

    same_clause : propagate_clause w C ≡ propagate_clause t.variables C
    unfolding propagate_clause
    same_clause =
        let trues = any_same (is_true w) (is_true t.variables) C (λ l m. ap (λ (z : ℤ). eq_z z (pos 1)) (same_truth l m)) in
        let falses = filter_same (λ l. not (is_false w l)) (λ l. not (is_false t.variables l)) C (λ l m. ap (λ (z : ℤ). not (eq_z z (negsuc 0))) (same_truth l m)) in
        λ i. elim (trues i) as (λ b. Fate) [ true ↦ dropped | false ↦ remaining (falses i) ]

    same_fate : fate_at (propagate_clause w) k (with_variables w t) ≡ fate_at (propagate_clause t.variables) k t
    unfolding fate_at C
    same_fate = λ i. elim (standing t.clauses k) as (λ x. Fate) [ zero ↦ kept | suc _ ↦ same_clause i ]

    visit_resembles : (changed : Bool) → Resembles v (propagate_visit n k changed t) (propagate_visit n k changed (with_variables w t))
    unfolding propagate_visit
    visit_resembles changed =
        subst (λ (f : Fate). Resembles v (visited n k changed (fate_at (propagate_clause t.variables) k t) t) (visited n k changed f (with_variables w t))) (sym same_fate)
        (visited_resembles v n k changed t F.vars w A (fate_at (propagate_clause t.variables) k t) fate_makes)

-- ---- any number of them

pub visits_resemble : (v n m made : ℕ) (p q : Progress) → Good v n p → Resembles v p q → Resembles v (propagate_visits n m made p).progress (propagate_visits n m made q).progress
unfolding propagate_visits
visits_resemble v n zero made p q G S = S
visits_resemble v n (suc m) made (going k changed t) q G S =
    subst (λ (x : Progress). Resembles v (propagate_visits n m (suc made) (propagate_visit n k changed t)).progress (propagate_visits n (suc m) made x).progress) (sym S.is)
    (visits_resemble v n m (suc made) (propagate_visit n k changed t) (propagate_visit n k changed (with_variables S.variables t)) (visit_good v n k changed t G.0 G.1) (visit_resembles v n t G.0 k G.1 S.variables S.alike changed))
visits_resemble v n (suc m) made (settled t) q G S =
    subst (λ (x : Progress). Resembles v (settled t) (propagate_visits n (suc m) made x).progress) (sym S.is) (record { variables = S.variables; alike = S.alike; is = refl })
visits_resemble v n (suc m) made (contradicted t) q G S =
    subst (λ (x : Progress). Resembles v (contradicted t) (propagate_visits n (suc m) made x).progress) (sym S.is) (record { variables = S.variables; alike = S.alike; is = refl })

-- THE LAW: once the values are spread, the two are the same
pub resembling_replied : (v : ℕ) (fresh : Bool) (before : List ℕ) (st : State) (m : ℕ) (p q : Progress) → Variables v (tables_at p).variables → Resembles v p q → spread_behind v (replied fresh before st m q) ≡ spread_behind v (replied fresh before st m p)
resembling_replied v fresh before st m p q R S = ap (λ (x : Progress). spread_behind v (replied fresh before st m x)) S.is ∙ by p R S.alike
  where
    by : (p : Progress) → Variables v (tables_at p).variables → Alike v (tables_at p).variables S.variables → spread_behind v (replied fresh before st m (stands_with S.variables p)) ≡ spread_behind v (replied fresh before st m p)
    by (going k changed t) R A = ap (λ (x : List ℤ). record { reply = (replied fresh before st m (going k changed t)).reply; state = (replied fresh before st m (going k changed t)).state; tables = with_variables x t }) (spread_same R A)
    by (settled t) R A = ap (λ (x : List ℤ). record { reply = (replied fresh before st m (settled t)).reply; state = (replied fresh before st m (settled t)).state; tables = with_variables x t }) (spread_same R A)
    by (contradicted t) R A = ap (λ (x : List ℤ). record { reply = (replied fresh before st m (contradicted t)).reply; state = (replied fresh before st m (contradicted t)).state; tables = with_variables x t }) (spread_same R A)
