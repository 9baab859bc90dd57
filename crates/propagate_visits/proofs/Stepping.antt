-- A visit and where the pass then stands; the visits that are left, from here, give what all of them give. Assumes nothing.
use Prim.Native.Nat.{ℕ, zero, suc, ◌-◌, ◌≤◌, ◌<◌}
use native.Mathlib.Omega.{arith}
use mathlib.Core.Path.{◌≡◌, refl, sym, ap, ◌∙◌}
use mathlib.Core.Bool.{Bool, true, false, ◌||◌}
use mathlib.Core.List.{List}
use lib.Dec.{ltb}
use lib.ListN.{length}
use lib.IntN.{ℤ}
use borrow.Author.Tests.{ltb-true, lt-ltb}
use Rattle.tables.specs.Tables.{Tables, tables, length_of, standing}
use Rattle.tables.specs.Fates.{Fate, kept, left, dropped, unit, conflict, store, fate_at}
use Rattle.visits.specs.Formed.{Formed}
use Rattle.propagate_visits.specs.Visits.{Progress, going, settled, contradicted, onward, changes, visited, propagate_clause, propagate_visit, propagate_visits, reached}
use Rattle.visits.specs.Visited.{Visitable, visited_as, Visit, visit_of, visit_at}
use Rattle.propagate_visits.specs.Steps.{stand_after, StandsBefore}
use Rattle.visits.specs.declared.Visited.{Visited}
use Rattle.visits.proofs.StoreKeeps.{FormedIn}
use Rattle.propagate_visits.proofs.VisitKeeps.{formed_visit, formed_conflict, conflict_stands}

-- ---- where the pass goes on

branch : ℕ → Tables → Bool → Bool → Progress
branch k t b changed = elim b [ true ↦ going k changed t | false ↦ elim changed [ true ↦ going 0 false t | false ↦ settled t ] ]

pub onward_more : (n k : ℕ) (changed : Bool) → k < n → (t : Tables) → going k changed t ≡ onward n k changed t
unfolding branch
onward_more n k changed h t = sym (ap (λ (b : Bool). branch k t b changed) (lt-ltb k n h))

-- ---- one visit

fate_stands : (n k : ℕ) (changed : Bool) (f : Fate) (t : Tables) → stand_after n k changed (length_of t.clauses k) (visited_as f) (store k f t) ≡ visited n k changed f t
fate_stands n k changed kept t = refl
fate_stands n k changed (left C) t = refl
fate_stands n k changed dropped t = refl
fate_stands n k changed (unit l) t = refl
fate_stands n k changed conflict t = refl

-- the answer of the visit decides where the pass stands
pub visit_stands : (n k : ℕ) (changed : Bool) (t : Tables) (r : Visited) (t' : Tables) → visit_of r t' ≡ visit_at (propagate_clause t.variables) k t → stand_after n k changed (length_of t.clauses k) r t' ≡ propagate_visit n k changed t
unfolding visit_at propagate_visit
visit_stands n k changed t r t' e =
    ap (λ (x : Visit). stand_after n k changed (length_of t.clauses k) x.visited x.tables) e ∙ fate_stands n k changed (fate_at (propagate_clause t.variables) k t) t

pub before_visitable : {n k : ℕ} {c : List ℕ} {l w : List ℤ} → StandsBefore n k c l w → Visitable k c l w
before_visitable {n} R = record { vars = R.vars; number = n; settled = n; formed = R.formed; below = R.below }

-- ---- wherever the pass stands, the tables are formed

-- the tables that a pass leaves: the mark is to be set where it has met the empty clause
abbrev pub Good : ℕ → ℕ → Progress → Type 0
Good v n (going k changed t) = FormedIn v n t × (k < n)
Good v n (settled t) = FormedIn v n t
Good v n (contradicted t) = Formed v n n true t.clauses t.literals t.variables

onward_good : (v n k : ℕ) (changed : Bool) (t : Tables) → 0 < n → FormedIn v n t → Good v n (onward n k changed t)
onward_good v n k changed t some F = go (ltb k n) refl changed
  where
    go : (x : Bool) → ltb k n ≡ x → (y : Bool) → Good v n (elim x as (λ z. Progress) [ true ↦ going k y t | false ↦ elim y as (λ z. Progress) [ true ↦ going 0 false t | false ↦ settled t ] ])
    go true e y = (F, ltb-true k n e)
    go false e true = (F, some)
    go false e false = F

visited_good : (v n k : ℕ) (changed : Bool) (f : Fate) (t : Tables) → FormedIn v n t → k < n → ((f ≡ conflict → ⊥) → FormedIn v n (store k f t)) → (f ≡ conflict → standing t.clauses k ≡ 1) → Good v n (visited n k changed f t)
visited_good v n k changed kept t F₀ lt F S = onward_good v n (suc k) changed t (omega arith) (F (λ e. let z : ◌≡◌ {A = ℕ} 0 1 = cc in omega arith))
visited_good v n k changed (left C) t F₀ lt F S =
    onward_good v n (suc k) (changed || changes (length_of t.clauses k) (left C)) (store k (left C) t) (omega arith) (F (λ e. let z : ◌≡◌ {A = ℕ} 0 1 = cc in omega arith))
visited_good v n k changed dropped t F₀ lt F S = onward_good v n (suc k) true (store k dropped t) (omega arith) (F (λ e. let z : ◌≡◌ {A = ℕ} 0 1 = cc in omega arith))
visited_good v n k changed (unit l) t F₀ lt F S = onward_good v n (suc k) true (store k (unit l) t) (omega arith) (F (λ e. let z : ◌≡◌ {A = ℕ} 0 1 = cc in omega arith))
visited_good v n k changed conflict t F₀ lt F S = formed_conflict v n t F₀ k lt (S refl)

pub visit_good : (v n k : ℕ) (changed : Bool) (t : Tables) → FormedIn v n t → k < n → Good v n (propagate_visit n k changed t)
unfolding propagate_visit
visit_good v n k changed t F lt =
    visited_good v n k changed (fate_at (propagate_clause t.variables) k t) t F lt (λ d. formed_visit v n t F k lt d) (conflict_stands v n t F k lt)

-- and so they are after any number of visits
pub visits_good : (v n m made : ℕ) (p : Progress) → Good v n p → Good v n (propagate_visits n m made p).progress
unfolding propagate_visits
visits_good v n zero made p G = G
visits_good v n (suc m) made (going k changed t) G = visits_good v n m (suc made) (propagate_visit n k changed t) (visit_good v n k changed t G.0 G.1)
visits_good v n (suc m) made (settled t) G = G
visits_good v n (suc m) made (contradicted t) G = G

-- ---- the loop

-- what is left from here gives what the whole gives
pub record Making (n steps made k : ℕ) (changed : Bool) (k₀ : ℕ) (changed₀ : Bool) (c₀ : List ℕ) (l₀ w₀ : List ℤ) (c : List ℕ) (l w : List ℤ) : Type 0 where
  pub within : made ≤ steps
  pub stands : StandsBefore n k c l w
  pub sizes : (length c ≡ length c₀) × ((length l ≡ length l₀) × (length w ≡ length w₀))
  pub left : (times : List ℕ) (links : List ℤ) → propagate_visits n (steps - made) made (going k changed (tables c l w times links)) ≡ propagate_visits n steps 0 (going k₀ changed₀ (tables c₀ l₀ w₀ times links))

pub making_none : {n k : ℕ} {c : List ℕ} {l w : List ℤ} → StandsBefore n k c l w → (steps : ℕ) (changed : Bool) → Making n steps 0 k changed k changed c l w c l w
making_none {n} {k} {c} {l} {w} R steps changed = record {
  within = omega arith;
  stands = R;
  sizes = (refl, (refl, refl));
  left = λ times links. ap (λ (m : ℕ). propagate_visits n m 0 (going k changed (tables c l w times links))) (let e : steps - 0 ≡ steps = omega arith in e);
}

-- no visit is left in this call
pub making_done : {n steps made k : ℕ} {changed : Bool} {k₀ : ℕ} {changed₀ : Bool} {c₀ : List ℕ} {l₀ w₀ : List ℤ} {c : List ℕ} {l w : List ℤ}
    → Making n steps made k changed k₀ changed₀ c₀ l₀ w₀ c l w → steps ≤ made → (times : List ℕ) (links : List ℤ)
    → reached made (going k changed (tables c l w times links)) ≡ propagate_visits n steps 0 (going k₀ changed₀ (tables c₀ l₀ w₀ times links))
unfolding propagate_visits
making_done {n} {steps} {made} {k} {changed} {c = c} {l = l} {w = w} M h times links =
    ap (λ (m : ℕ). propagate_visits n m made (going k changed (tables c l w times links))) (let e : 0 ≡ steps - made = omega (arith, h) in e) ∙ M.left times links

-- the visits made are all of them
pub making_all : {n steps made k : ℕ} {changed : Bool} {k₀ : ℕ} {changed₀ : Bool} {c₀ : List ℕ} {l₀ w₀ : List ℤ} {c : List ℕ} {l w : List ℤ}
    → Making n steps made k changed k₀ changed₀ c₀ l₀ w₀ c l w → steps ≤ made → (times : List ℕ) (links : List ℤ)
    → reached steps (going k changed (tables c l w times links)) ≡ propagate_visits n steps 0 (going k₀ changed₀ (tables c₀ l₀ w₀ times links))
making_all {n} {steps} {made} {k} {changed} {c = c} {l = l} {w = w} M h times links =
    ap (λ (m : ℕ). reached m (going k changed (tables c l w times links))) (let e : steps ≡ made = omega (arith, h, M.within) in e) ∙ making_done M h times links
