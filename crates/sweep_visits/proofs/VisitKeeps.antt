-- A visit of Sweep keeps the tables formed, and so do visits; the visits that are left, from here, give what all of them give. Assumes nothing.
use Prim.Native.Nat.{ℕ, zero, suc, ◌+◌, ◌*◌, ◌-◌, ◌≤◌, ◌<◌}
use native.Mathlib.Omega.{arith}
use mathlib.Core.Path.{◌≡◌, refl, sym, ap, subst, ◌∙◌}
use mathlib.Core.Bool.{Bool, true, false}
use mathlib.Core.List.{List, [], ◌∷◌, map}
use lib.ListN.{length}
use lib.Dec.{ltb}
use lib.IntN.{ℤ}
use Rattle.literal.specs.Literals.{slot_of}
use Rattle.walk.specs.Walk.{Stamps}
use Rattle.stamp_columns.specs.Columns.{columns}
use Rattle.hidden.specs.Hidden.{hidden_tautology, shorten}
use Rattle.hidden.proofs.Intervals.{Nested}
use Rattle.hidden.proofs.Shorten.{shorten_filled}
use Rattle.hidden.proofs.FreshColumns.{fresh_nested}
use Rattle.tables.specs.Tables.{Tables, tables, standing}
use Rattle.tables.specs.Clauses.{literals_of}
use Rattle.tables.specs.Fates.{Fate, left, dropped, store, visit, visits, shortened}
use Rattle.visits.specs.Formed.{FitClause}
use Rattle.visits.proofs.Forming.{clause_fits, part_length}
use Rattle.visits.proofs.Fitting.{fit_slots}
use Rattle.visits.proofs.StoreKeeps.{FormedIn, formed_shortened, formed_dropped, formed_cases}
use Rattle.visits.proofs.Visiting.{visits_next, visits_none}
use Rattle.sweep_visits.specs.Clause.{sweep_clause}
use Rattle.sweep_visits.specs.Visits.{Sweepable, SweepableFrom}
use Rattle.sweep_visits.proofs.Parting.{shorten_shorter, shorten_fits}

module _ {v n : ℕ} (t : Tables) (F : FormedIn v n t) (σ : Stamps) (N : Nested (2 * v) σ) (k : ℕ) (lt : k < n) where
  -- what figure 5 leaves of clause k
  keeps : standing t.clauses k ≡ 1 → (C : List ℤ) → C ≡ literals_of t.clauses t.literals k → 0 < length C → FormedIn v n (shortened k (shorten slot_of σ C) t)
  keeps stands C e some =
      let fits : FitClause v t.variables (ltb k n) C = subst (FitClause v t.variables (ltb k n)) (sym e) (clause_fits F k lt) in
      formed_shortened t F k lt n (λ j lj d e. e) false (shorten slot_of σ C) stands (shorten_fits v t.variables (ltb k n) σ C fits) (omega (arith, shorten_shorter σ C, ap length e, part_length F k lt))
      (λ z. absurd (omega (arith, z, shorten_filled slot_of (2 * v) σ N C (fit_slots fits) some)))

  by_clause : standing t.clauses k ≡ 1 → (C : List ℤ) → C ≡ literals_of t.clauses t.literals k → FormedIn v n (store k (sweep_clause σ C) t)
  unfolding sweep_clause
  by_clause stands [] e = F
  by_clause stands (a ∷ []) e = F
  by_clause stands (a ∷ b ∷ C) e = go (hidden_tautology σ (map slot_of (a ∷ b ∷ C)))
    where
      go : (x : Bool) → FormedIn v n (store k (elim x [ true ↦ dropped | false ↦ left (shorten slot_of σ (a ∷ b ∷ C)) ]) t)
      go true = formed_dropped t F k lt n (λ j lj d e. e)
      go false = keeps stands (a ∷ b ∷ C) e (omega arith)

  -- THE LAW of a visit
  pub formed_visit : FormedIn v n (visit (sweep_clause σ) k t)
  formed_visit = formed_cases t F k lt (sweep_clause σ) (λ (f : Fate). FormedIn v n (store k f t)) (λ e. F) (λ stands. by_clause stands (literals_of t.clauses t.literals k) refl)

pub formed_visits : {v n : ℕ} (t : Tables) → FormedIn v n t → (σ : Stamps) → Nested (2 * v) σ → (m k : ℕ) → k + m ≤ n → FormedIn v n (visits (sweep_clause σ) m k t)
unfolding visits
formed_visits t F σ N zero k le = F
formed_visits t F σ N (suc m) k le = formed_visits (visit (sweep_clause σ) k t) (formed_visit t F σ N k (omega arith)) σ N m (suc k) (omega arith)

module _ {n k : ℕ} {c : List ℕ} {l : List ℤ} {times : List ℕ} {links : List ℤ} (R : Sweepable n c l times links) (lt : k < n) where
  -- a visit keeps the tables ready
  pub sweepable_visit : (c' : List ℕ) (l' : List ℤ) → ((w : List ℤ) → tables c' l' w times links ≡ visit (sweep_clause (columns times links)) k (tables c l w times links)) → Sweepable n c' l' times links
  sweepable_visit c' l' e = record {
    vars = R.vars;
    variables = R.variables;
    formed = subst (FormedIn R.vars n) (sym (e R.variables)) (formed_visit (tables c l R.variables times links) R.formed (columns times links) (fresh_nested times links R.vars R.stamped.fresh) k lt);
    stamped = R.stamped;
    long = R.long;
  }

-- ---- the loop: what is left from here gives what the whole gives

pub record Sweeping (k m i : ℕ) (c₀ : List ℕ) (l₀ : List ℤ) (c : List ℕ) (l : List ℤ) (times : List ℕ) (links : List ℤ) : Type 0 where
  pub within : i ≤ m
  pub sweepable : (n : ℕ) → k + m ≤ n → Sweepable n c₀ l₀ times links → Sweepable n c l times links
  pub left : (w : List ℤ) → visits (sweep_clause (columns times links)) (m - i) (k + i) (tables c l w times links) ≡ visits (sweep_clause (columns times links)) m k (tables c₀ l₀ w times links)

pub sweeping_none : (k m : ℕ) (c : List ℕ) (l : List ℤ) (times : List ℕ) (links : List ℤ) → Sweeping k m 0 c l c l times links
sweeping_none k m c l times links = record {
  within = omega arith;
  sweepable = λ n h R. R;
  left = λ w. (λ j. visits (sweep_clause (columns times links)) (none j) (same j) (tables c l w times links));
}
  where
    none : m - 0 ≡ m
    none = omega arith

    same : k + 0 ≡ k
    same = omega arith

module _ {k m i : ℕ} {c₀ : List ℕ} {l₀ : List ℤ} {c : List ℕ} {l : List ℤ} {times : List ℕ} {links : List ℤ} (M : Sweeping k m i c₀ l₀ c l times links) where
  -- the next clause can be visited
  pub sweeping_next : i < m → SweepableFrom k m c₀ l₀ times links → SweepableFrom (k + i) 1 c l times links
  sweeping_next lt S = record { number = S.number; sweepable = M.sweepable S.number S.room S.sweepable; room = omega (arith, lt, S.room) }

  pub sweeping_more : i < m → (c' : List ℕ) (l' : List ℤ) → ((w : List ℤ) → tables c' l' w times links ≡ visit (sweep_clause (columns times links)) (k + i) (tables c l w times links)) → Sweeping k m (i + 1) c₀ l₀ c' l' times links
  sweeping_more lt c' l' e = record {
    within = omega arith;
    sweepable = λ n h R. sweepable_visit (M.sweepable n h R) (let z : k + i < n = omega arith in z) c' l' e;
    left = λ w. visits_next (sweep_clause (columns times links)) (tables c l w times links) (let z : m - i ≡ suc (m - (i + 1)) = omega arith in z) (let z : k + (i + 1) ≡ suc (k + i) = omega arith in z) (e w) ∙ M.left w;
  }

  pub sweeping_done : m ≤ i → ((n : ℕ) → k + m ≤ n → Sweepable n c₀ l₀ times links → Sweepable n c l times links) × ((w : List ℤ) → tables c l w times links ≡ visits (sweep_clause (columns times links)) m k (tables c₀ l₀ w times links))
  sweeping_done h = (M.sweepable, λ w. visits_none (sweep_clause (columns times links)) (k + i) (let z : m - i ≡ 0 = omega arith in z) (tables c l w times links) ∙ M.left w)
